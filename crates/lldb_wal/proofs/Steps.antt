-- The turns of a judge: a piece more, and the ways in which it ends.
use Rattle.std.proofs.Common.{◌≡◌, ◌≢◌, ℕ, ◌+◌, ◌<◌, ◌≤◌, Bool, true, false, List, [], ◌∷◌, ◌++◌, length, take, drop, Result, Ok, Err, sym, ap, ◌∙◌, arith, length-drop}
use Rattle.std.specs.Prelude.{IfOk, bytes_eq}
use Rattle.std.specs.Int.{w64}
use Rattle.std.proofs.lemmas.Slice.Eq.{bytes_eq-Decides}
use Rattle.lldb_base.specs.Batch.{Edits}
use Rattle.lldb_base.specs.declared.batch.Piece.{Piece}
use Rattle.lldb_wal.specs.Fields.{number, is_size}
use Rattle.lldb_wal.specs.Log.{log_magic, Stands, Follow, SpoilsPiece, SpoilsEnd, IsUngated, IsLog}
use Rattle.lldb_wal.specs.States.{log_state}
use Rattle.lldb_wal.specs.declared.state.LogState.{LogState}
use Rattle.lldb_wal.specs.declared.state.LogState.TheVariants.{Open}
use Rattle.lldb_wal.proofs.OneState.{one_state}
use Rattle.lldb_wal.specs.Parts.{IsRest}
use Rattle.lldb_wal.proofs.Fronts.{all_front, stands_front, spoils_front, size_front, front_short, number_of_front}
use Rattle.lldb_wal.proofs.Windows.{size_behind, stands_behind, spoils_behind, follow_push}

pub whole_rest : (log rest : List ℕ) (at : ℕ) → at ≤ length log → rest ≡ drop at log → IsRest log rest at
whole_rest log rest at within is = record { within = within; front = all_front rest (drop at log) is }

pub none_yet : (size : ℕ) (log : List ℕ) (last at : ℕ) (ps : List Piece) → ps ≡ [] → last ≡ 0 → at ≡ 24 → Follow size log last at 0 24 ps
none_yet size log last at ps none start first = rw (none, start, first) Follow.no_more

pub one_more : (size last at : ℕ) (log rest : List ℕ) (ps : List Piece) (p : Piece) (last_new at_new : ℕ) (ps_new : List Piece) → IsRest log rest at
    → Follow size log last at 0 24 ps → Stands size last p 0 rest → ps_new ≡ ps ++ p ∷ [] → last_new ≡ p.place + length p.bytes → at_new ≡ at + 12 + length p.bytes
    → Follow size log last_new at_new 0 24 ps_new
one_more size last at log rest ps p last_new at_new ps_new r follow stands pushed ends next =
    let here : Stands size last p 0 (drop at log) = stands_front size last p rest (drop at log) r.front stands in
    rw (pushed, ends, next) (follow_push follow p (stands_behind size last at p log r.within here))

pub spoiled_at : (size last at place : ℕ) (log rest : List ℕ) → IsRest log rest at → SpoilsPiece size last 0 rest place → SpoilsPiece size last at log (at + place)
spoiled_at size last at place log rest r spoils =
    let here : SpoilsPiece size last 0 (drop at log) place = spoils_front size last place rest (drop at log) r.front spoils in
    spoils_behind size last at place log r.within here

size_at : (size last at : ℕ) (log rest : List ℕ) (b : Bool) → IsRest log rest at → is_size size last 0 rest ≡ b → is_size size last at log ≡ b
size_at size last at log rest b r kept = sym (size_behind size last at log r.within) ∙ sym (size_front size last rest (drop at log) r.front) ∙ kept

pub no_size : (size last at : ℕ) (log rest : List ℕ) → IsRest log rest at → is_size size last 0 rest ≡ false → SpoilsEnd size last at log at
no_size size last at log rest r not = SpoilsEnd.bad_size (size_at size last at log rest false r not)

pub more_behind : (size last at : ℕ) (log rest : List ℕ) → IsRest log rest at → is_size size last 0 rest ≡ true → 8 < length rest → SpoilsEnd size last at log (at + 8)
more_behind size last at log rest r kept more =
    SpoilsEnd.bytes_behind (size_at size last at log rest true r kept) (omega (arith, front_short rest (drop at log) r.front, length-drop at log, r.within, more))

pub batch_held : (size last at : ℕ) (log rest : List ℕ) (ps : List Piece) (batch : Edits) (new : ℕ) → IsRest log rest at → IsUngated log → length ps ≡ number w64 16 log
    → Follow size log last at 0 24 ps → is_size size last 0 rest ≡ true → 8 ≤ length rest → length rest ≤ 8 → new ≡ number w64 0 rest → batch.pieces ≡ ps → batch.size ≡ new
    → IsLog size log (Open batch)
batch_held size last at log rest ps batch new r open_gate count follow kept whole end is same sized =
    let follows : Follow size log last at 0 24 batch.pieces = rw same follow in
    let counted : number w64 16 log ≡ length batch.pieces = sym count ∙ sym (ap (λ (qs : List Piece). length qs) same) in
    let named : batch.size ≡ number w64 at log = sized ∙ is ∙ number_of_front rest (drop at log) r.front whole in
    IsLog.holds open_gate counted follows (size_at size last at log rest true r kept) (omega (arith, front_short rest (drop at log) r.front, r.front.enough, length-drop at log, r.within, whole, end)) named

pub unlike : (log : List ℕ) (r : Bool) → r ≡ bytes_eq (take 15 log) log_magic → r ≡ false → take 15 log ≢ log_magic
unlike log r is not same = let yes : bytes_eq (take 15 log) log_magic ≡ true = (bytes_eq-Decides (take 15 log) log_magic).1 same in cc

pub alike : (log : List ℕ) (r : Bool) → r ≡ bytes_eq (take 15 log) log_magic → r ≡ true → take 15 log ≡ log_magic
alike log r is good = (bytes_eq-Decides (take 15 log) log_magic).0 (sym is ∙ good)

pub only_said : {E : Type 0} (size : ℕ) (log : List ℕ) (r : Result LogState E) → IfOk r (λ s. IsLog size log s) → IfOk r (λ s. log_state size log ≡ s)
only_said size log (Ok s) is = one_state size log s is
only_said size log (Err e) is = tt
