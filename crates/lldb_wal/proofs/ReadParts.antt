-- A log that is read in parts, where a device tells it.
use Rattle.std.proofs.Common.{◌≡◌, ℕ, ◌+◌, ◌-◌, ◌<◌, ◌≤◌, min, List, [], ◌∷◌, ◌++◌, length, take, drop, Option, Some, None, refl, sym, subst, ◌∙◌, arith}
use Rattle.std.specs.Prelude.{IfSome}
use Rattle.std.specs.Int.{w64}
use Rattle.ql_edge.specs.Disk.{Files}
use Rattle.lldb_base.specs.declared.batch.Piece.{Piece}
use Rattle.lldb_wal.specs.Fields.{number}
use Rattle.lldb_wal.specs.Log.{Stands, Follow, SpoilsPiece, IsUngated, IsLog}
use Rattle.lldb_wal.specs.Parts.{IsFront, IsPart, IsRest}
use Rattle.lldb_wal.specs.declared.state.LogState.{LogState}
use Rattle.lldb_wal.specs.declared.state.LogState.TheVariants.{Faulty}
use Rattle.lldb_wal.proofs.Fronts.{part_front}
use Rattle.lldb_wal.proofs.Steps.{none_yet, one_more, spoiled_at}

pub no_part : (told : Option Files) (part : List ℕ) (from : ℕ) → part ≡ [] → IfSome told (λ f. IsPart f.1 part from)
no_part None part from none = tt
no_part (Some f) part from none = record { is = rw none refl }

pub told_start : (told : Option Files) (size last at : ℕ) (ps : List Piece) → ps ≡ [] → last ≡ 0 → at ≡ 24 → IfSome told (λ f. Follow size f.1 last at 0 24 ps)
told_start None size last at ps none start first = tt
told_start (Some f) size last at ps none start first = none_yet size f.1 last at ps none start first

pub told_rest : (told : Option Files) (total from at : ℕ) (part rest : List ℕ) → IfSome told (λ f. length f.1 ≡ total) → IfSome told (λ f. IsPart f.1 part from) → from ≤ at → at ≤ from + length part
    → at ≤ total → min (at + 65548) total ≤ from + length part → rest ≡ drop (at - from) part → IfSome told (λ f. IsRest f.1 rest at)
told_rest None total from at part rest long p behind inside within most is = tt
told_rest (Some f) total from at part rest long p behind inside within most is = record {
  within = omega (arith, long, within);
  front = subst (λ (bs : List ℕ). IsFront bs (drop at f.1)) (sym is) (part_front f.1 part from at p behind inside (omega (arith, long, most)));
}

pub told_more : (told : Option Files) (size last at : ℕ) (rest : List ℕ) (ps : List Piece) (p : Piece) (last_new at_new : ℕ) (ps_new : List Piece) → IfSome told (λ f. IsRest f.1 rest at)
    → IfSome told (λ f. Follow size f.1 last at 0 24 ps) → Stands size last p 0 rest → ps_new ≡ ps ++ p ∷ [] → last_new ≡ p.place + length p.bytes → at_new ≡ at + 12 + length p.bytes
    → IfSome told (λ f. Follow size f.1 last_new at_new 0 24 ps_new)
told_more None size last at rest ps p last_new at_new ps_new r follow stands pushed ends next = tt
told_more (Some f) size last at rest ps p last_new at_new ps_new r follow stands pushed ends next =
    one_more size last at f.1 rest ps p last_new at_new ps_new r follow stands pushed ends next

pub told_spoiled : (told : Option Files) (size last at count behind : ℕ) (rest : List ℕ) (ps : List Piece) → IfSome told (λ f. IsRest f.1 rest at) → IfSome told (λ f. IsUngated f.1)
    → IfSome told (λ f. count ≡ number w64 16 f.1) → length ps < count → IfSome told (λ f. Follow size f.1 last at 0 24 ps) → SpoilsPiece size last 0 rest behind
    → IfSome told (λ f. IsLog size f.1 (Faulty (at + behind)))
told_spoiled None size last at count behind rest ps r opened counted fewer follow spoils = tt
told_spoiled (Some f) size last at count behind rest ps r opened counted fewer follow spoils =
    IsLog.bad_piece opened (omega (arith, counted, fewer)) follow (spoiled_at size last at behind f.1 rest r spoils)

pub told_end : (told : Option Files) (size last at count : ℕ) (rest : List ℕ) (ps : List Piece) (state : LogState) → IfSome told (λ f. IsRest f.1 rest at) → IfSome told (λ f. IsUngated f.1)
    → IfSome told (λ f. count ≡ number w64 16 f.1) → length ps ≡ count → IfSome told (λ f. Follow size f.1 last at 0 24 ps)
    → ((log : List ℕ) → IsRest log rest at → IsUngated log → length ps ≡ number w64 16 log → Follow size log last at 0 24 ps → IsLog size log state)
    → IfSome told (λ f. IsLog size f.1 state)
told_end None size last at count rest ps state r opened counted all follow judged = tt
told_end (Some f) size last at count rest ps state r opened counted all follow judged = judged f.1 r opened (all ∙ counted) follow

-- what the first bytes of a log decide
pub told_by : (told : Option Files) (head : List ℕ) (P : List ℕ → Type 0) → IfSome told (λ f. head ≡ take 32 f.1) → ((log : List ℕ) → head ≡ take 32 log → P log) → IfSome told (λ f. P f.1)
told_by None head P is decides = tt
told_by (Some f) head P is decides = decides f.1 is
