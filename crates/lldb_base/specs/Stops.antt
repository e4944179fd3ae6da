-- What a stop may leave of what a layer holds: something, or nothing where the files below hold nothing.
use Rattle.std.specs.Prelude.{◌≡◌, ℕ, ◌⊎◌, List, [], ◌∷◌, drop, Option, Some, None, option_map, IfSome, refl}
use Rattle.std.proofs.Common.{inl, inr, subst, sym, ap, arith, ◌∙◌}
use Rattle.ql_edge.specs.Stops.{Leaves, Adds, IsSameBut}
use Rattle.ql_edge.specs.Told.{Told}
use Rattle.lldb_base.specs.Batch.{Edits, applied}

-- where it is told, what is held is what a stop leaves, and nothing else
abbrev pub LeavesOnly : {C : Type 0} → Option C → (Option C → Type 0) → Type 0
LeavesOnly {C} held left = IfSome held (λ c. left (Some c) × Leaves left (λ s. s ≡ Some c))

-- what is left below, as a layer above sees it
abbrev pub Seen : {C D : Type 0} → (C → D) → (C → Type 0) → D → Type 0
Seen {C} {D} see left s = (below : C) × left below × (s ≡ see below)

-- what is left of a content from an offset on
abbrev pub Behind : ℕ → (Option (List ℕ) → Type 0) → Option (List ℕ) → Type 0
Behind offset left s = Seen (option_map (drop offset)) left s

-- where the old content is told, a stop leaves it or the one after a batch
abbrev pub IsOldOrNew : ℕ → Edits → Option (List ℕ) → Option (List ℕ) → Type 0
IsOldOrNew shift batch told s = IfSome told (λ c. (s ≡ Some c) ⊎ (s ≡ Some (applied shift batch c)))

-- where the old content is told, a stop leaves the one after a batch
abbrev pub IsNew : ℕ → Edits → Option (List ℕ) → Option (List ℕ) → Type 0
IsNew shift batch told s = IfSome told (λ c. s ≡ Some (applied shift batch c))

-- what is kept: what is held where no level is open, else what was saved first; what was saved is a list, the last first
abbrev pub kept_of : {C : Type 0} → C → List C → C
kept_of {C} held [] = held
kept_of {C} held (s ∷ saved) = kept_of s saved

-- Where what was kept is told, the end of a level leaves it or what is held. That is nothing only where a change at a handle that
-- is not live has spoiled a map.
abbrev pub IsEnded : {C : Type 0} → Option C → Option C → Option C → Type 0
IsEnded {C} kept held s = IfSome kept (λ k. (s ≡ Some k) ⊎ (s ≡ held))

pub adds_none : {C : Type 0} {now : ℕ} {past : ℕ → ℕ → C → Type 0} {P : C → Type 0} {shown : ℕ → Type 0} → Adds now now past past P shown
adds_none = record { later = omega arith; keeps = λ t n c left. left; adds = λ t n c early left. inl left }

pub same_but_self : {C H : Type 0} {held : H} {left : C → Type 0} {now : ℕ} {past : ℕ → ℕ → C → Type 0} {told : Told} → IsSameBut held held left left now now past past told told
same_but_self = record { held = refl; stops = λ c left. left; stops_back = λ c left. left; moments = adds_none }

pub but_held : {C G H : Type 0} {g_old g_new : G} {held_old held_new : H} {left_old left_new : C → Type 0} {before now : ℕ} {past since : ℕ → ℕ → C → Type 0} {told_old told_new : Told} → g_new ≡ g_old → IsSameBut held_old held_new left_old left_new before now past since told_old told_new
    → IsSameBut g_old g_new left_old left_new before now past since told_old told_new
but_held here same = record { held = here; stops = same.stops; stops_back = same.stops_back; moments = same.moments }

pub if_more : {A : Type 0} (told : Option A) (P Q : A → Type 0) → IfSome told P → ((a : A) → P a → Q a) → IfSome told Q
if_more None P Q fact more = tt
if_more (Some a) P Q fact more = more a fact

pub seen_adds : {C D : Type 0} (see : C → D) {before now : ℕ} {past since : ℕ → ℕ → C → Type 0} {P : C → Type 0} {shown : ℕ → Type 0} {Q : D → Type 0} → Adds before now past since P shown → ((c : C) → P c → Q (see c))
    → Adds before now (λ t n. Seen see (past t n)) (λ t n. Seen see (since t n)) Q shown
seen_adds see {Q = Q} a more = record {
  later = a.later;
  keeps = λ t n s b. (b.0, a.keeps t n b.0 b.1, b.2);
  adds = λ t n s early b. elim (a.adds t n b.0 early b.1) [
    | inl old ↦ inl (b.0, old, b.2)
    | inr new ↦ inr (subst Q (sym b.2) (more b.0 new.0), new.1)
  ];
}

pub seen_same : {C D G H : Type 0} (see : C → D) (hold : G → H) {held_old held_new : G} {left_old left_new : C → Type 0} {before now : ℕ} {past since : ℕ → ℕ → C → Type 0} {told_old told_new : Told} → IsSameBut held_old held_new left_old left_new before now past since told_old told_new
    → IsSameBut (hold held_old) (hold held_new) (Seen see left_old) (Seen see left_new) before now (λ t n. Seen see (past t n)) (λ t n. Seen see (since t n)) told_old told_new
seen_same see hold same = record {
  held = ap hold same.held;
  stops = λ s b. (b.0, same.stops b.0 b.1, b.2);
  stops_back = λ s b. (b.0, same.stops_back b.0 b.1, b.2);
  moments = seen_adds see same.moments (λ c left. (c, left, refl));
}

pub behind_only : (offset : ℕ) (held : Option (List ℕ)) (left : Option (List ℕ) → Type 0) → LeavesOnly held left → LeavesOnly (option_map (drop offset) held) (Behind offset left)
behind_only offset None left only = tt
behind_only offset (Some c) left only = ((Some c, only.0, refl), λ s b. b.2 ∙ ap (option_map (drop offset)) (only.1 b.0 b.1))

pub behind_same : (o p : ℕ) → p ≡ o → {held_old held_new : Option (List ℕ)} {left_old left_new : Option (List ℕ) → Type 0} {before now : ℕ} {past since : ℕ → ℕ → Option (List ℕ) → Type 0} {told_old told_new : Told} → IsSameBut held_old held_new left_old left_new before now past since told_old told_new
    → IsSameBut (option_map (drop o) held_old) (option_map (drop p) held_new) (Behind o left_old) (Behind p left_new) before now (λ t n. Behind o (past t n)) (λ t n. Behind p (since t n)) told_old told_new
behind_same o p here same = rw here (seen_same (option_map (drop o)) (option_map (drop o)) same)
