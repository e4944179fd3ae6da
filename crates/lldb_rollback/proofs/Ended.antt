-- What a stop leaves at the end of the outermost level.
use Rattle.std.proofs.Common.{◌≡◌, ℕ, ◌≤◌, Bool, true, false, inl, inr, List, [], Option, Some, None, option_map, subst, sym, ◌∙◌}
use Rattle.ql_edge.specs.Stops.{Leaves}
use Rattle.lldb_base.specs.Batch.{Edits, applied}
use Rattle.lldb_base.specs.Stops.{LeavesOnly, IsEnded, IsOldOrNew, kept_of}
use Rattle.lldb_rollback.specs.Levels.{held, stacked, kept_below}

pub ended : (batch : Edits) (told held s : Option (List ℕ)) → option_map (applied 0 batch) told ≡ held → IsOldOrNew 0 batch told s → IsEnded told held s
ended batch None held s is either = tt
ended batch (Some c) held s is either = elim either [
  | inl old ↦ inl old
  | inr new ↦ inr (new ∙ is)
]

pub rest_ended : (told held : Option (List ℕ)) (left : Option (List ℕ) → Type 0) → LeavesOnly told left → Leaves left (IsEnded told held)
rest_ended None held left only = λ s l. tt
rest_ended (Some c) held left only = λ s l. inl (only.1 s l)

-- while the filer below is sound, a stop leaves what was kept
pub still_ended : (early : ℕ) (changed : Bool) (present : List ℕ) (copies : List (List ℕ)) (told held_now : Option (List ℕ)) (left : Option (List ℕ) → Type 0) → (changed ≡ false → copies ≡ []) → (changed ≡ true → 1 ≤ early) → LeavesOnly told left
    → Leaves left (IsEnded (kept_of (held changed present told) (stacked copies early told)) held_now)
still_ended early changed present copies told held_now left untouched begun only =
    subst (λ (o : Option (List ℕ)). Leaves left (IsEnded o held_now)) (sym (kept_below early changed present copies told untouched begun)) (rest_ended told held_now left only)
