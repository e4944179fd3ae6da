-- A batch that is written behind an offset.
use Rattle.std.proofs.Common.{◌≡◌, ℕ, ◌+◌, ◌-◌, ◌≤◌, max, List, [], ◌∷◌, ◌++◌, length, take, drop, Option, Some, None, option_map, IfSome, OnOk, Result, Ok, Err, refl, arith, length-append, length-take, sym, ◌∙◌, ap, subst, inl, inr}
use Rattle.std.proofs.lemmas.List.{drop-append-le, drop-drop, drop-take}
use Rattle.lldb_base.specs.declared.batch.Piece.{Piece}
use Rattle.lldb_base.specs.declared.trouble.Trouble.{Trouble}
use Rattle.lldb_base.specs.declared.trouble.Trouble.TheVariants as trouble
use Rattle.lldb_base.specs.Batch.{Edits, put, written, applied, LeaveNoGap, CanTake, reach}
use Rattle.lldb_base.specs.Inner.{answer_behind}
use Rattle.ql_edge.specs.Stops.{Leaves, Adds}
use Rattle.lldb_base.specs.Stops.{Behind, IsOldOrNew, IsNew, seen_adds}
use Rattle.lldb_base.proofs.Puts.{length_put}

-- `put` groups to the left
pub put_behind : (offset at : ℕ) (piece bytes : List ℕ) → offset + at ≤ length bytes → drop offset (put (offset + at) piece bytes) ≡ put at piece (drop offset bytes)
put_behind offset at piece bytes within =
    let front : offset ≤ length (take (offset + at) bytes) = rw (length-take (offset + at) bytes) (omega (arith, within)) in
    let both : offset ≤ length (take (offset + at) bytes ++ piece) = rw (length-append (take (offset + at) bytes) piece) (omega (arith, front)) in
    drop-append-le offset (take (offset + at) bytes ++ piece) (drop (offset + at + length piece) bytes) both
    ∙ ap (λ (xs : List ℕ). xs ++ drop (offset + at + length piece) bytes) (drop-append-le offset (take (offset + at) bytes) piece front ∙ ap (λ (xs : List ℕ). xs ++ piece) (drop-take offset at bytes))
    ∙ ap (λ (xs : List ℕ). take at (drop offset bytes) ++ piece ++ xs) (ap (λ n. drop n bytes) (omega arith) ∙ sym (drop-drop (at + length piece) offset bytes))

pub gapless_behind : (floor offset shift here below : ℕ) (ps : List Piece) → floor ≤ offset → offset + here ≤ below → LeaveNoGap 0 shift here ps → LeaveNoGap floor (offset + shift) below ps
gapless_behind floor offset shift here below [] under within gapless = tt
gapless_behind floor offset shift here below (p ∷ ps) under within gapless =
    (omega (arith, under), omega (arith, within, gapless.1), gapless_behind floor offset shift (max here (shift + p.place + length p.bytes)) (max below (offset + shift + p.place + length p.bytes)) ps under (omega (arith, within)) gapless.2)

pub reach_behind : (offset shift here below : ℕ) (ps : List Piece) → offset + here ≤ below → offset + reach shift here ps ≤ reach (offset + shift) below ps
reach_behind offset shift here below [] within = within
reach_behind offset shift here below (p ∷ ps) within =
    reach_behind offset shift (max here (shift + p.place + length p.bytes)) (max below (offset + shift + p.place + length p.bytes)) ps (omega (arith, within))

pub can_take_behind : (floor offset shift size : ℕ) (batch : Edits) → floor ≤ offset → offset ≤ size → CanTake 0 shift (size - offset) batch → CanTake floor (offset + shift) size batch
can_take_behind floor offset shift size batch under within can =
    let here : offset + (size - offset) ≤ size = omega (arith, within) in
    let far = reach_behind offset shift (size - offset) size batch.pieces here in
    record {
      gapless = gapless_behind floor offset shift (size - offset) size batch.pieces under here can.gapless;
      floor_of_size = omega (arith, under);
      covered = omega (arith, far, can.covered);
    }

pub written_behind : (offset shift : ℕ) (ps : List Piece) (bytes : List ℕ) → offset ≤ length bytes → LeaveNoGap 0 shift (length bytes - offset) ps → drop offset (written (offset + shift) ps bytes) ≡ written shift ps (drop offset bytes)
written_behind offset shift [] bytes within gapless = refl
written_behind offset shift (p ∷ ps) bytes within gapless =
    let same : offset + shift + p.place ≡ offset + (shift + p.place) = omega arith in
    let starts : offset + (shift + p.place) ≤ length bytes = omega (arith, gapless.1, within) in
    let now = length_put (offset + (shift + p.place)) p.bytes bytes starts in
    let longer : length (put (offset + (shift + p.place)) p.bytes bytes) - offset ≡ max (length bytes - offset) (shift + p.place + length p.bytes) = rw now (omega (arith, within)) in
    ap (λ n. drop offset (written (offset + shift) ps (put n p.bytes bytes))) same
    ∙ written_behind offset shift ps (put (offset + (shift + p.place)) p.bytes bytes) (rw now (omega (arith, within))) (rw longer gapless.2)
    ∙ ap (λ (xs : List ℕ). written shift ps xs) (put_behind offset (shift + p.place) p.bytes bytes starts)

pub applied_behind : (offset shift size : ℕ) (batch : Edits) (told : Option (List ℕ)) → IfSome told (λ c. length c ≡ size) → offset ≤ size → CanTake 0 shift (size - offset) batch → option_map (drop offset) (option_map (applied (offset + shift) batch) told) ≡ option_map (applied shift batch) (option_map (drop offset) told)
applied_behind offset shift size batch None long within can = refl
applied_behind offset shift size batch (Some c) long within can =
    ap Some (ap (λ n. drop offset (take n (written (offset + shift) batch.pieces c))) (omega arith)
    ∙ drop-take offset (shift + batch.size) (written (offset + shift) batch.pieces c)
    ∙ ap (take (shift + batch.size)) (written_behind offset shift batch.pieces c (rw long within) (rw long can.gapless)))

pub ok_behind : (offset : ℕ) (answer : Result (Unit {0}) Trouble) (A B : Type 0) → OnOk answer A → (A → B) → OnOk (answer_behind offset answer) B
ok_behind offset (Ok u) A B fact on = on fact
ok_behind offset (Err trouble.Failed) A B fact on = tt
ok_behind offset (Err trouble.NoMemory) A B fact on = tt
ok_behind offset (Err (trouble.Full need limit)) A B fact on = tt
ok_behind offset (Err trouble.Damaged) A B fact on = tt

pub content_behind : (offset shift moved size : ℕ) (batch : Edits) (before now : Option (List ℕ)) (answer : Result (Unit {0}) Trouble) → moved ≡ offset + shift → IfSome before (λ c. length c ≡ size) → offset ≤ size → CanTake 0 shift (size - offset) batch → OnOk answer (now ≡ option_map (applied moved batch) before) → OnOk (answer_behind offset answer) (option_map (drop offset) now ≡ option_map (applied shift batch) (option_map (drop offset) before))
content_behind offset shift moved size batch before now answer by long within can fact =
    ok_behind offset answer (now ≡ option_map (applied moved batch) before) _ fact (λ (same : now ≡ option_map (applied moved batch) before).
    ap (option_map (drop offset)) same
    ∙ ap (λ n. option_map (drop offset) (option_map (applied n batch) before)) by
    ∙ applied_behind offset shift size batch before long within can)

pub new_behind : (offset shift moved size : ℕ) (batch : Edits) (told below : Option (List ℕ)) → moved ≡ offset + shift → IfSome told (λ c. length c ≡ size) → offset ≤ size → CanTake 0 shift (size - offset) batch → IsNew moved batch told below
    → IsNew shift batch (option_map (drop offset) told) (option_map (drop offset) below)
new_behind offset shift moved size batch None below by long within can new = tt
new_behind offset shift moved size batch (Some c) below by long within can new =
    ap (option_map (drop offset)) new
    ∙ ap (λ n. Some (drop offset (applied n batch c))) by
    ∙ applied_behind offset shift size batch (Some c) long within can

pub either_behind : (offset shift moved size : ℕ) (batch : Edits) (told below : Option (List ℕ)) → moved ≡ offset + shift → IfSome told (λ c. length c ≡ size) → offset ≤ size → CanTake 0 shift (size - offset) batch → IsOldOrNew moved batch told below
    → IsOldOrNew shift batch (option_map (drop offset) told) (option_map (drop offset) below)
either_behind offset shift moved size batch None below by long within can either = tt
either_behind offset shift moved size batch (Some c) below by long within can either = elim either [
  | inl old ↦ inl (ap (option_map (drop offset)) old)
  | inr new ↦ inr (new_behind offset shift moved size batch (Some c) below by long within can new)
]

pub left_behind : (offset shift moved size : ℕ) (batch : Edits) (told : Option (List ℕ)) (left : Option (List ℕ) → Type 0) → moved ≡ offset + shift → IfSome told (λ c. length c ≡ size) → offset ≤ size → CanTake 0 shift (size - offset) batch → Leaves left (IsOldOrNew moved batch told)
    → Leaves (Behind offset left) (IsOldOrNew shift batch (option_map (drop offset) told))
left_behind offset shift moved size batch told left by long within can stops = λ s b. subst (IsOldOrNew shift batch (option_map (drop offset) told)) (sym b.2) (either_behind offset shift moved size batch told b.0 by long within can (stops b.0 b.1))

pub after_behind : (offset shift moved size : ℕ) (batch : Edits) (told : Option (List ℕ)) (left : Option (List ℕ) → Type 0) (answer : Result (Unit {0}) Trouble) → moved ≡ offset + shift → IfSome told (λ c. length c ≡ size) → offset ≤ size → CanTake 0 shift (size - offset) batch → OnOk answer (Leaves left (IsNew moved batch told))
    → OnOk (answer_behind offset answer) (Leaves (Behind offset left) (IsNew shift batch (option_map (drop offset) told)))
after_behind offset shift moved size batch told left answer by long within can fact =
    ok_behind offset answer (Leaves left (IsNew moved batch told)) _ fact (λ (stops : Leaves left (IsNew moved batch told)).
    λ s b. subst (IsNew shift batch (option_map (drop offset) told)) (sym b.2) (new_behind offset shift moved size batch told b.0 by long within can (stops b.0 b.1)))

pub time_behind : (offset shift moved size : ℕ) (batch : Edits) (told : Option (List ℕ)) {before now : ℕ} {past since : ℕ → ℕ → Option (List ℕ) → Type 0} {shown : ℕ → Type 0} → moved ≡ offset + shift → IfSome told (λ c. length c ≡ size) → offset ≤ size → CanTake 0 shift (size - offset) batch → Adds before now past since (IsOldOrNew moved batch told) shown
    → Adds before now (λ t n. Behind offset (past t n)) (λ t n. Behind offset (since t n)) (IsOldOrNew shift batch (option_map (drop offset) told)) shown
time_behind offset shift moved size batch told by long within can time = seen_adds (option_map (drop offset)) time (λ d either. either_behind offset shift moved size batch told d by long within can either)
