-- What a data file is once it is opened.
use Rattle.std.proofs.Common.{◌≡◌, ℕ, ◌+◌, ◌≤◌, true, List, [], ◌∷◌, ◌++◌, length, take, drop, Option, Some, None, option_map, is_some, refl, sym, ap, subst, ◌∙◌, arith, length-append, length-take}
use Rattle.std.specs.Prelude.{IfSome}
use Rattle.std.specs.Option.{unwrap_or}
use Rattle.std.proofs.lemmas.List.{take_all, take-append-le, take-take}
use Rattle.ql_edge.specs.Disk.{Files}
use Rattle.lldb_base.specs.declared.batch.Piece.{Piece}
use Rattle.lldb_base.specs.Batch.{Edits, CanTake, LeaveNoGap, put, written, applied}
use Rattle.lldb_base.proofs.Puts.{length_put, length_applied}
use Rattle.lldb_wal.specs.Filer.{data_of, IsStored}
use Rattle.lldb_wal.specs.Kept.{kept}
use Rattle.lldb_wal.specs.Opened.{settled, opened_data}
use Rattle.lldb_wal.specs.Opening.{opening, opened}
use Rattle.lldb_wal.specs.declared.state.Opening.{Opening}
use Rattle.lldb_wal.specs.declared.state.Opening.TheVariants.{New, NotDatabase, BadLog, Closed, Open}
use Rattle.lldb_wal.proofs.Found.{open_found, closed_found}
use Rattle.lldb_wal.proofs.Reread.{can_take}

put_front : (at : ℕ) (piece bytes : List ℕ) → 16 ≤ at → at ≤ length bytes → take 16 (put at piece bytes) ≡ take 16 bytes
put_front at piece bytes low within =
    let front : length (take at bytes) ≡ at = length-take at bytes ∙ omega (arith, within) in
    take-append-le 16 (take at bytes ++ piece) (drop (at + length piece) bytes) (rw (length-append (take at bytes) piece) (omega (arith, front, low)))
    ∙ take-append-le 16 (take at bytes) piece (omega (arith, front, low)) ∙ take-take 16 at bytes low

written_front : (ps : List Piece) (bytes : List ℕ) → LeaveNoGap 16 0 (length bytes) ps → take 16 (written 0 ps bytes) ≡ take 16 bytes
written_front [] bytes gapless = refl
written_front (p ∷ ps) bytes gapless =
    written_front ps (put (0 + p.place) p.bytes bytes) (rw (length_put (0 + p.place) p.bytes bytes gapless.1) gapless.2)
    ∙ put_front (0 + p.place) p.bytes bytes gapless.0 gapless.1

applied_front : (batch : Edits) (bytes : List ℕ) → CanTake 16 0 (length bytes) batch → take 16 (applied 0 batch bytes) ≡ take 16 bytes
applied_front batch bytes can = take-take 16 (0 + batch.size) (written 0 batch.pieces bytes) can.floor_of_size ∙ written_front batch.pieces bytes can.gapless

-- a data file that is opened begins with the magic
pub record HasMagic (magic bytes : List ℕ) : Type 0 where
  pub begins : take 16 bytes ≡ magic
  pub long : 16 ≤ length bytes

by_opening : (magic : List ℕ) (f : Files) (o : Opening) → length magic ≡ 16 → opening magic f.0 f.1 ≡ o → is_some (opened magic f.0 o) ≡ true → HasMagic magic (unwrap_or (opened magic f.0 o) [])
by_opening magic f New sixteen is some = record { begins = take_all 16 magic (omega (arith, sixteen)); long = omega (arith, sixteen) }
by_opening magic f NotDatabase sixteen is some = absurd (cc)
by_opening magic f (BadLog at) sixteen is some = absurd (cc)
by_opening magic f Closed sixteen is some = let facts = closed_found magic f sixteen is in record { begins = facts.0.begins; long = facts.0.long }
by_opening magic f (Open batch) sixteen is some =
    let facts = open_found magic f batch sixteen is in
    let can = can_take (length f.0) f.1 batch facts.1 in
    let n : length (applied 0 batch f.0) ≡ 0 + batch.size = length_applied 16 0 batch f.0 can in
    record { begins = applied_front batch f.0 can ∙ facts.0.begins; long = omega (arith, n, can.floor_of_size) }

has_magic : (magic : List ℕ) (f : Files) → length magic ≡ 16 → is_some (kept magic f) ≡ true → HasMagic magic (opened_data magic f)
has_magic magic f sixteen some = by_opening magic f (opening magic f.0 f.1) sixteen refl some

pub settled_stored : (magic : List ℕ) (size : ℕ) (old mid now : Option Files) → length magic ≡ 16 → IfSome old (λ f. is_some (kept magic f) ≡ true) → mid ≡ option_map (settled magic) old → now ≡ mid → IfSome mid (λ f. size ≡ length f.0) → IsStored magic size now
settled_stored magic size None mid now sixteen opens is same length_is = rw (same ∙ is) tt
settled_stored magic size (Some f) mid now sixteen opens is same length_is =
    let head = has_magic magic f sixteen opens in
    let size_is : size ≡ length (opened_data magic f) = subst (λ (o : Option Files). IfSome o (λ g. size ≡ length g.0)) is length_is in
    rw (same ∙ is) (head.begins, head.long, sym size_is)

pub settled_content : (magic : List ℕ) (old mid now : Option Files) → mid ≡ option_map (settled magic) old → now ≡ mid → option_map data_of now ≡ option_map (opened_data magic) old
settled_content magic None mid now is same = ap (option_map data_of) (same ∙ is)
settled_content magic (Some f) mid now is same = ap (option_map data_of) (same ∙ is)
