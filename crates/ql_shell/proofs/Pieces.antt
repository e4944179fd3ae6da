-- Text that is shown, in front of further text.
use Rattle.std.proofs.Common.{◌≡◌, ℕ, List, [], ◌++◌, Some, None, refl, sym, ap, ◌∙◌, append_assoc, append-nil, length-append, arith}
use Rattle.std.proofs.lemmas.List.{take-append-le}
use Rattle.ql_edge.specs.Told.{Told, with_shown, ShowsFront}

pub shown_none : (told : Told) → with_shown [] told ≡ told
shown_none None = refl
shown_none (Some t) = rw append-nil refl

pub shown_twice : (first second : List ℕ) (told : Told) → with_shown second (with_shown first told) ≡ with_shown (first ++ second) told
shown_twice first second None = refl
shown_twice first second (Some t) = rw append_assoc refl

pub front_none : (text : List ℕ) (told : Told) → ShowsFront text told told
front_none text told = record { count = 0; within = omega arith; told = sym (shown_none told) }

pub front_longer : (text more : List ℕ) (before now : Told) → ShowsFront text before now → ShowsFront (text ++ more) before now
front_longer text more before now h = record {
  count = h.count;
  within = omega (arith, h.within, length-append text more);
  told = h.told ∙ ap (λ t. with_shown t before) (sym (take-append-le h.count text more h.within));
}
