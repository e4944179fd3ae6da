-- Moments of one call behind another.
use Rattle.std.proofs.Common.{◌≡◌, ℕ, Some, None, inl, inr, subst, arith}
use Rattle.ql_edge.specs.Stops.{Adds, HasShown, IsBetween, IsSameBut}
use Rattle.ql_edge.specs.Told.{Told}

pub adds_weaker : {C : Type 0} {before now : ℕ} {past since : ℕ → ℕ → C → Type 0} {P : C → Type 0} {shown : ℕ → Type 0} {Q : C → Type 0} → Adds before now past since P shown → ((c : C) → P c → Q c) → Adds before now past since Q shown
adds_weaker a weaker = record {
  later = a.later;
  keeps = a.keeps;
  adds = λ t n c early left. elim (a.adds t n c early left) [ inl old ↦ inl old | inr new ↦ inr (weaker c new.0, new.1) ];
}

pub adds_then : {C : Type 0} {a b d : ℕ} {past mid since : ℕ → ℕ → C → Type 0} {P Q : C → Type 0} {told next : Told} {R : C → Type 0} → Adds a b past mid P (HasShown told) → Adds b d mid since Q (HasShown next)
    → next ≡ told → ((c : C) → P c → R c) → ((c : C) → Q c → R c) → Adds a d past since R (HasShown told)
adds_then first second same p q = record {
  later = omega (arith, first.later, second.later);
  keeps = λ t n c left. second.keeps t n c (first.keeps t n c left);
  adds = λ t n c early left. elim (second.adds t n c (omega (arith, early, first.later)) left) [
    | inl old ↦ elim (first.adds t n c early old) [ inl older ↦ inl older | inr new ↦ inr (p c new.0, new.1) ]
    | inr new ↦ inr (q c new.0, subst (λ (o : Told). HasShown o n) same new.1)
  ];
}

pub adds_none : {C : Type 0} {now : ℕ} {past : ℕ → ℕ → C → Type 0} {P : C → Type 0} {shown : ℕ → Type 0} → Adds now now past past P shown
adds_none = record { later = omega arith; keeps = λ t n c left. left; adds = λ t n c early left. inl left }

between_same : (told : Told) (n : ℕ) → IsBetween told told n → HasShown told n
between_same None n between = tt
between_same (Some t) n between = omega (arith, between.least, between.most)

-- a step that changes nothing but what is shown, where that is the same too
pub adds_read : {H : Type 0} {C : Type 0} {held_old held_new : H} {left_old left_new : C → Type 0} {before now : ℕ} {past since : ℕ → ℕ → C → Type 0} {told_old told_new : Told}
    → IsSameBut held_old held_new left_old left_new before now past since told_old told_new → told_new ≡ told_old → Adds before now past since left_new (HasShown told_old)
adds_read {told_old = told_old} same told = record {
  later = same.moments.later;
  keeps = same.moments.keeps;
  adds = λ t n c early left. elim (same.moments.adds t n c early left) [
    | inl old ↦ inl old
    | inr new ↦ inr (new.0, between_same told_old n (subst (λ (o : Told). IsBetween told_old o n) told new.1))
  ];
}
