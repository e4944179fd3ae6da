-- What a layer in memory kept, and when each came.
use Rattle.std.specs.Prelude.{◌≡◌, ℕ, ◌+◌, ◌<◌, ◌≤◌, ◌⊎◌, Bool, ◌&&◌, true, nat_le, List, [], ◌∷◌, length, map, Option, Some, None, IfSome, refl}
use Rattle.std.proofs.Common.{inl, inr, subst, sym, ap, arith, ◌∙◌}
use Rattle.std.proofs.Math.Nat.{le_refl}
use Rattle.std.proofs.lemmas.Bool.{cases_lt}
use Rattle.std.proofs.lemmas.Bool.Decides.{nat_tests}
use Rattle.ql_edge.specs.Stops.{HasShown, Adds, IsSameBut}
use Rattle.ql_edge.specs.Told.{Told}
use Rattle.lldb_base.specs.Shown.{count_shown}
use Rattle.lldb_base.specs.Stops.{LeavesOnly, kept_of, but_held}

-- What was kept, the last first, each with the number of bytes shown when it came: one of them stood at a moment since t, with
-- n bytes shown. A moment counts what was kept before it and the bytes shown.
abbrev pub Stood : {C : Type 0} → List (ℕ × C) → (till t n : ℕ) → Option C → Type 0
Stood {C} [] till t n s = ⊥
Stood {C} (w ∷ ws) till t n s = ((t ≤ length ws + n) × (w.0 ≤ n) × (n ≤ till) × (s ≡ Some w.1)) ⊎ Stood ws w.0 t n s

-- nothing came at a lower number than what came before it
abbrev pub are_risen : {C : Type 0} → List (ℕ × C) → ℕ → Bool
are_risen {C} [] till = true
are_risen {C} (w ∷ ws) till = nat_le w.0 till && are_risen ws w.0

at_most : (n most : ℕ) → n ≤ most → nat_le n most ≡ true
at_most n most within = grind (arith, nat_tests)

risen_first : {C : Type 0} (w : ℕ × C) (ws : List (ℕ × C)) (till : ℕ) → are_risen (w ∷ ws) till ≡ true → w.0 ≤ till
risen_first w ws till risen = grind (arith, nat_tests)

risen_rest : {C : Type 0} (w : ℕ × C) (ws : List (ℕ × C)) (till : ℕ) → are_risen (w ∷ ws) till ≡ true → are_risen ws w.0 ≡ true
risen_rest w ws till risen = grind (arith, nat_tests)

pub risen_later : {C : Type 0} (ws : List (ℕ × C)) (till more : ℕ) → till ≤ more → are_risen ws till ≡ true → are_risen ws more ≡ true
risen_later [] till more later risen = refl
risen_later (w ∷ ws) till more later risen =
    let first = risen_first w ws till risen in
    let rest = risen_rest w ws till risen in
    rw (rest, at_most w.0 more (omega (arith, first, later))) refl

-- what stood, stood before now
stood_before : {C : Type 0} (ws : List (ℕ × C)) (till t n : ℕ) (s : Option C) → are_risen ws till ≡ true → Stood ws till t n s → t < length ws + till
stood_before [] till t n s risen stood = absurd stood
stood_before (w ∷ ws) till t n s risen stood = elim stood [
  | inl now ↦ omega (arith, now.0, now.2)
  | inr old ↦ let early = stood_before ws w.0 t n s (risen_rest w ws till risen) old in omega (arith, early, risen_first w ws till risen)
]

pub stood_now : {C : Type 0} (w : ℕ × C) (ws : List (ℕ × C)) (till n : ℕ) (s : Option C) → are_risen (w ∷ ws) till ≡ true → Stood (w ∷ ws) till (length ws + till) n s → (s ≡ Some w.1) × (n ≡ till)
stood_now w ws till n s risen stood = elim stood [
  | inl now ↦ (now.3, omega (arith, now.0, now.2))
  | inr old ↦ let early = stood_before ws w.0 (length ws + till) n s (risen_rest w ws till risen) old in absurd (omega (arith, early, risen_first w ws till risen))
]

pub stands : {C : Type 0} (w : ℕ × C) (ws : List (ℕ × C)) (till t : ℕ) (s : Option C) → are_risen (w ∷ ws) till ≡ true → t ≤ length ws + till → s ≡ Some w.1 → Stood (w ∷ ws) till t till s
stands w ws till t s risen early is = inl (early, risen_first w ws till risen, le_refl till, is)

pub stood_shown : {C : Type 0} (w : ℕ × C) (ws : List (ℕ × C)) (shown warned more other : List ℕ) → length shown ≤ length more
    → IsSameBut (Some w.1) (Some w.1) (λ s. s ≡ Some w.1) (λ s. s ≡ Some w.1) (length ws + length shown) (length ws + length more) (Stood (w ∷ ws) (length shown)) (Stood (w ∷ ws) (length more)) (Some (shown, warned)) (Some (more, other))
stood_shown w ws shown warned more other longer = record {
  held = refl;
  stops = λ s is. is;
  stops_back = λ s is. is;
  moments = record {
    later = omega (arith, longer);
    keeps = λ t n s stood. elim stood [ inl now ↦ inl (now.0, now.1, omega (arith, now.2, longer), now.3) | inr old ↦ inr old ];
    adds = λ t n s early stood. elim stood [
      | inl now ↦ elim (cases_lt (length shown) n) [
        | inl above ↦ inr (now.3, record { least = omega (arith, above); most = now.2 })
        | inr within ↦ inl (inl (omega (arith, now.0), now.1, omega (arith, within), now.3))
      ]
      | inr old ↦ inl (inr old)
    ];
  };
}

pub stood_then : {C : Type 0} (w next : ℕ × C) (ws : List (ℕ × C)) (till : ℕ) (P : Option C → Type 0) (shown : ℕ → Type 0) → next.0 ≡ till → P (Some next.1) → shown till
    → Adds (length ws + till) (length (w ∷ ws) + till) (Stood (w ∷ ws) till) (Stood (next ∷ w ∷ ws) till) P shown
stood_then w next ws till P shown since fact count = record {
  later = omega arith;
  keeps = λ t n s stood. inr (subst (λ k. Stood (w ∷ ws) k t n s) (sym since) stood);
  adds = λ t n s early stood. elim stood [
    | inl now ↦ inr (subst P (sym now.3) fact, subst shown (till_of n now.1 now.2) count)
    | inr old ↦ inl (subst (λ k. Stood (w ∷ ws) k t n s) since old)
  ];
}
  where
    till_of : (n : ℕ) → next.0 ≤ n → n ≤ till → till ≡ n
    till_of n least most = omega (arith, least, most, since)

-- the same of a filer's fields, where its texts are told
pub mem_counts : {C : Type 0} (since : ℕ) (held : C) (past : List (ℕ × C)) (told : Told) (t : ℕ) (s : Option C) → are_risen ((since, held) ∷ past) (count_shown told) ≡ true → t ≤ length past + count_shown told → s ≡ Some held
    → IfSome told (λ u. Stood ((since, held) ∷ past) (count_shown told) t (length u.0) s)
mem_counts since held past None t s risen early is = tt
mem_counts since held past (Some u) t s risen early is = stands (since, held) past (length u.0) t s risen early is

pub mem_only : {C : Type 0} (since : ℕ) (held : C) (past : List (ℕ × C)) (told : Told) (n : ℕ) (s : Option C) → are_risen ((since, held) ∷ past) (count_shown told) ≡ true
    → Stood ((since, held) ∷ past) (count_shown told) (length past + count_shown told) n s → (s ≡ Some held) × HasShown told n
mem_only since held past None n s risen stood = ((stood_now (since, held) past 0 n s risen stood).0, tt)
mem_only since held past (Some u) n s risen stood = stood_now (since, held) past (length u.0) n s risen stood

pub mem_same : {C : Type 0} (since_x since_y : ℕ) (held_x held_y : C) (past_x past_y : List (ℕ × C)) (told_x told_y : List ℕ × List ℕ) → since_y ≡ since_x → held_y ≡ held_x → past_y ≡ past_x → length told_x.0 ≤ length told_y.0
    → IsSameBut (Some held_x) (Some held_y) (λ s. s ≡ Some held_x) (λ s. s ≡ Some held_y) (length past_x + length told_x.0) (length past_y + length told_y.0) (Stood ((since_x, held_x) ∷ past_x) (length told_x.0))
    (Stood ((since_y, held_y) ∷ past_y) (length told_y.0)) (Some told_x) (Some told_y)
mem_same since_x since_y held_x held_y past_x past_y told_x told_y since same past longer = rw (since, same, past) (stood_shown (since_x, held_x) past_x told_x.0 told_x.1 told_y.0 told_y.1 longer)

-- what is kept, where all that was saved is told
pub kept_told : {C : Type 0} (held : C) (saved : List C) → kept_of (Some held) (map Some saved) ≡ Some (kept_of held saved)
kept_told held [] = refl
kept_told held (s ∷ saved) = kept_told s saved

-- where a level is open, what is kept is none of what is held
pub kept_deep : {C : Type 0} (held other : C) (saved : List C) → 1 ≤ length (map Some saved) → kept_of held saved ≡ kept_of other saved
kept_deep held other [] some = absurd (omega (arith, some))
kept_deep held other (s ∷ saved) some = refl

pub kept_only : {C : Type 0} (held : C) (saved : List C) → LeavesOnly (kept_of (Some held) (map Some saved)) (λ s. s ≡ Some (kept_of held saved))
kept_only {C} held saved = subst (λ (o : Option C). LeavesOnly o (λ s. s ≡ Some (kept_of held saved))) (sym (kept_told held saved)) (refl, λ s is. is)

-- two states that are the same but for what is shown
pub kept_same : {C : Type 0} (since_x since_y : ℕ) (held_x held_y : C) (saved_x saved_y : List C) (past_x past_y : List (ℕ × C)) (told_x told_y : List ℕ × List ℕ) → since_y ≡ since_x → held_y ≡ held_x → saved_y ≡ saved_x → past_y ≡ past_x → length told_x.0 ≤ length told_y.0
    → IsSameBut (kept_of (Some held_x) (map Some saved_x)) (kept_of (Some held_y) (map Some saved_y)) (λ s. s ≡ Some (kept_of held_x saved_x)) (λ s. s ≡ Some (kept_of held_y saved_y)) (length past_x + length told_x.0) (length past_y + length told_y.0)
    (Stood ((since_x, kept_of held_x saved_x) ∷ past_x) (length told_x.0)) (Stood ((since_y, kept_of held_y saved_y) ∷ past_y) (length told_y.0)) (Some told_x) (Some told_y)
kept_same since_x since_y held_x held_y saved_x saved_y past_x past_y told_x told_y since held saved past longer =
    let kept : kept_of held_y saved_y ≡ kept_of held_x saved_x = rw (held, saved) refl in
    but_held (kept_told held_y saved_y ∙ ap Some kept ∙ sym (kept_told held_x saved_x)) (mem_same since_x since_y (kept_of held_x saved_x) (kept_of held_y saved_y) past_x past_y told_x told_y since kept past longer)
