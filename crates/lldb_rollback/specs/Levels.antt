-- What the levels of a filer mean, where the filer below them tells its content or does not.
use Rattle.std.specs.Prelude.{◌≡◌, ℕ, ◌+◌, ◌^◌, ◌≤◌, max, Bool, true, false, IsTrue, List, [], ◌∷◌, ◌++◌, length, map, replicate, Option, Some, None, option_map, IfSome, All, refl}
use Rattle.std.specs.Option.{ForSome}
use Rattle.std.proofs.Common.{sym, subst, ◌∙◌, ap, zero, suc, arith}
use Rattle.std.proofs.lemmas.List.{length-replicate}
use Rattle.ql_edge.specs.Stops.{IsSameBut}
use Rattle.ql_edge.specs.Told.{Told}
use Rattle.lldb_base.specs.Filers.{IsSameBase, IsSameHeld}
use Rattle.lldb_base.specs.Stops.{LeavesOnly, kept_of, but_held}

-- bytes in memory are told where the filer below tells its content
abbrev pub told_as : Option (List ℕ) → List ℕ → Option (List ℕ)
told_as told bytes = option_map (λ _. bytes) told

-- the present content: the copy in memory once the content was changed, else that of the filer below
abbrev pub held : Bool → List ℕ → Option (List ℕ) → Option (List ℕ)
held false present told = told
held true present told = told_as told present

-- its size
abbrev pub size_held : Bool → List ℕ → ℕ → ℕ
size_held false present size = size
size_held true present size = length present

-- the contents saved: copies, and below them those of the levels that began before the first change
abbrev pub stacked : List (List ℕ) → ℕ → Option (List ℕ) → List (Option (List ℕ))
stacked copies early told = map (told_as told) copies ++ replicate early told

-- their sizes
abbrev pub sizes_stacked : List (List ℕ) → ℕ → ℕ → List ℕ
sizes_stacked copies early size = map length copies ++ replicate early size

-- how the copies in memory stand to the filer below
pub record AreCopied (sound : Bool) (told : Option (List ℕ)) (size limit : ℕ) (early : ℕ) (changed : Bool) (base present : List ℕ) (copies : List (List ℕ)) : Type 0 where
  pub depth : early + length copies ≤ 4294967295
  pub untouched : changed ≡ false → copies ≡ []
  pub begun : changed ≡ true → 1 ≤ early
  pub base_told : changed ≡ true → IsTrue sound → ForSome told (λ c. c ≡ base)
  pub base_size : changed ≡ true → length base ≡ size
  pub within : changed ≡ true → length present ≤ max size limit
  pub all_within : All (λ copy. length copy ≤ max size limit) copies

pub length-stacked : (copies : List (List ℕ)) (early : ℕ) (told : Option (List ℕ)) (size : ℕ) → length (sizes_stacked copies early size) ≡ length (stacked copies early told)
length-stacked [] early told size = length-replicate early size ∙ sym (length-replicate early told)
length-stacked (copy ∷ copies) early told size = ap suc (length-stacked copies early told size)

pub sizes_held : (early : ℕ) (changed : Bool) (present : List ℕ) (copies : List (List ℕ)) {sound : Bool} {told : Option (List ℕ)} {base : List ℕ} (size limit : ℕ) → (size ≤ 2 ^ 60 + 16) × (limit ≤ 2 ^ 60 + 16) → AreCopied sound told size limit early changed base present copies → (size_held changed present size ≤ 2 ^ 60 + 16) × (limit ≤ 2 ^ 60 + 16) × (length (sizes_stacked copies early size) ≡ length (stacked copies early told))
sizes_held early false present copies {told = told} size limit within copied = (within.0, within.1, length-stacked copies early told size)
sizes_held early true present copies {told = told} size limit within copied = (omega (arith, within.0, within.1, copied.within refl), within.1, length-stacked copies early told size)

pub told_held : (changed : Bool) (present : List ℕ) (told : Option (List ℕ)) (size : ℕ) → IfSome told (λ c. length c ≡ size) → IfSome (held changed present told) (λ c. length c ≡ size_held changed present size)
told_held false present told size same = same
told_held true present None size same = tt
told_held true present (Some c) size same = refl

pub same_held : {early_old early_new : ℕ} {changed_old changed_new : Bool} {present_old present_new : List ℕ} {copies_old copies_new : List (List ℕ)} {told_old told_new : Option (List ℕ)} {size_old size_new limit_old limit_new : ℕ} {sound_old sound_new : Bool} {moved_old moved_new : ℕ} → early_new ≡ early_old → changed_new ≡ changed_old → present_new ≡ present_old → copies_new ≡ copies_old → IsSameBase told_old told_new size_old size_new limit_old limit_new sound_old sound_new moved_old moved_new → IsSameHeld (held changed_old present_old told_old) (held changed_new present_new told_new) (stacked copies_old early_old told_old) (stacked copies_new early_new told_new) (size_held changed_old present_old size_old) (size_held changed_new present_new size_new) (sizes_stacked copies_old early_old size_old) (sizes_stacked copies_new early_new size_new) limit_old limit_new sound_old sound_new
same_held early changed present copies same = rw (early, changed, present, copies, same.held, same.size) (record { held = refl; saved = refl; size = refl; sizes = refl; limit = same.limit; sound = same.sound })

kept_again : (n : ℕ) (told : Option (List ℕ)) → kept_of told (replicate n told) ≡ told
kept_again zero told = refl
kept_again (suc n) told = kept_again n told

kept_early : (n : ℕ) (top told : Option (List ℕ)) → 1 ≤ n → kept_of top (replicate n told) ≡ told
kept_early zero top told some = absurd (omega (arith, some))
kept_early (suc n) top told some = kept_again n told

kept_copies : (copies : List (List ℕ)) (n : ℕ) (top told : Option (List ℕ)) → 1 ≤ n → kept_of top (stacked copies n told) ≡ told
kept_copies [] n top told some = kept_early n top told some
kept_copies (copy ∷ copies) n top told some = kept_copies copies n (told_as told copy) told some

-- what is kept is the content of the filer below
pub kept_below : (early : ℕ) (changed : Bool) (present : List ℕ) (copies : List (List ℕ)) (told : Option (List ℕ)) → (changed ≡ false → copies ≡ []) → (changed ≡ true → 1 ≤ early) → kept_of (held changed present told) (stacked copies early told) ≡ told
kept_below early false present copies told untouched begun = rw (untouched refl) (kept_again early told)
kept_below early true present copies told untouched begun = kept_copies copies early (told_as told present) told (begun refl)

pub only_below : (early : ℕ) (changed : Bool) (present : List ℕ) (copies : List (List ℕ)) {sound : Bool} {told : Option (List ℕ)} {base : List ℕ} {size limit : ℕ} (left : Option (List ℕ) → Type 0) → AreCopied sound told size limit early changed base present copies → LeavesOnly told left → LeavesOnly (kept_of (held changed present told) (stacked copies early told)) left
only_below early changed present copies {told = told} left copied only = subst (λ (o : Option (List ℕ)). LeavesOnly o left) (sym (kept_below early changed present copies told copied.untouched copied.begun)) only

-- whatever becomes of the levels, what is kept is the same where it is the same below
pub same_below : (o_present n_present : List ℕ) {o_early n_early : ℕ} {o_changed n_changed : Bool} {o_copies n_copies : List (List ℕ)} {o_told n_told : Option (List ℕ)} {left_old left_new : Option (List ℕ) → Type 0} {before now : ℕ} {past since : ℕ → ℕ → Option (List ℕ) → Type 0} {told_old told_new : Told}
    → (o_changed ≡ false → o_copies ≡ []) → (o_changed ≡ true → 1 ≤ o_early) → (n_changed ≡ false → n_copies ≡ []) → (n_changed ≡ true → 1 ≤ n_early)
    → IsSameBut o_told n_told left_old left_new before now past since told_old told_new
    → IsSameBut (kept_of (held o_changed o_present o_told) (stacked o_copies o_early o_told)) (kept_of (held n_changed n_present n_told) (stacked n_copies n_early n_told)) left_old left_new before now past since told_old told_new
same_below o_present n_present {o_early} {n_early} {o_changed} {n_changed} {o_copies} {n_copies} {o_told} {n_told} o_untouched o_begun n_untouched n_begun same =
    but_held (kept_below n_early n_changed n_present n_copies n_told n_untouched n_begun ∙ same.held ∙ sym (kept_below o_early o_changed o_present o_copies o_told o_untouched o_begun)) same
