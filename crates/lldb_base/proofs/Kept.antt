-- What a heap in memory keeps over the end of an inner level.
use Rattle.std.proofs.Common.{◌≡◌, ◌≢◌, ℕ, ◌+◌, ◌≤◌, List, [], ◌∷◌, length, map, Option, Some, None, MatchOption, refl, inl, subst, sym, ap, ◌∙◌, arith}
use Rattle.ql_edge.specs.Stops.{Adds, IsSameBut}
use Rattle.ql_edge.specs.Told.{Told}
use Rattle.lldb_base.specs.Memory.{Stood, kept_told}
use Rattle.lldb_base.specs.Stops.{IsEnded, kept_of, adds_none}

-- the end of an inner level keeps the same
pub kept_popped : {C X : Type 0} (f : X → C) (held : C) (r : Option X) (n : ℕ) (old now : List C) → 1 ≤ length (map Some old) → n ≡ length old → n ≢ 1 → MatchOption r ((old ≡ []) × (now ≡ [])) (λ top. old ≡ f top ∷ now) → kept_of held now ≡ kept_of held old
kept_popped f held None n [] now some long more is = absurd (omega (arith, some))
kept_popped f held None n (o ∷ old) now some long more is = absurd (cc)
kept_popped f held (Some top) n old [] some long more is = absurd (more (long ∙ ap length is))
kept_popped f held (Some top) n old (t ∷ now) some long more is = rw is refl

pub kept_one : {C : Type 0} (held : C) (saved : List C) (s : Option C) → s ≡ Some (kept_of held saved) → IsEnded (kept_of (Some held) (map Some saved)) (Some held) s
kept_one {C} held saved s is = subst (λ (o : Option C). IsEnded o (Some held) s) (sym (kept_told held saved)) (inl is)

pub still : {C : Type 0} {since till : ℕ} {k_old k_new : C} (past : List (ℕ × C)) {P : Option C → Type 0} {shown : ℕ → Type 0} → k_new ≡ k_old → Adds (length past + till) (length past + till) (Stood ((since, k_old) ∷ past) till) (Stood ((since, k_new) ∷ past) till) P shown
still past same = rw same adds_none

-- two states of the same time that keep the same
pub kept_again : {C : Type 0} {since till : ℕ} (past : List (ℕ × C)) {told : Told} (held_old held_new : C) (saved_old saved_new : List C) → kept_of held_new saved_new ≡ kept_of held_old saved_old
    → IsSameBut (kept_of (Some held_old) (map Some saved_old)) (kept_of (Some held_new) (map Some saved_new)) (λ s. s ≡ Some (kept_of held_old saved_old)) (λ s. s ≡ Some (kept_of held_new saved_new)) (length past + till) (length past + till)
    (Stood ((since, kept_of held_old saved_old) ∷ past) till) (Stood ((since, kept_of held_new saved_new) ∷ past) till) told told
kept_again past held_old held_new saved_old saved_new same =
    record {
      held = kept_told held_new saved_new ∙ ap Some same ∙ sym (kept_told held_old saved_old);
      stops = λ s is. is ∙ ap Some same;
      stops_back = λ s is. is ∙ ap Some (sym same);
      moments = still past same;
    }
