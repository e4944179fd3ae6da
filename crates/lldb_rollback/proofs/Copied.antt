-- How copies stand to the filer below, from call to call.
use Rattle.std.proofs.Common.{◌≡◌, ℕ, ◌+◌, ◌≤◌, max, Bool, List, [], ◌∷◌, length, Option, arith, sym, ◌∙◌, ap, add-one}
use Rattle.std.proofs.lemmas.List.Elements.{All-head, All-rest}
use Rattle.lldb_base.specs.Filers.{IsSameBase}
use Rattle.lldb_rollback.specs.Levels.{AreCopied}

pub copied_shown : {sound_old sound_new : Bool} {told_old told_new : Option (List ℕ)} {size_old size_new limit_old limit_new moved_old moved_new : ℕ} {early : ℕ} {changed : Bool} {base present : List ℕ} {copies : List (List ℕ)} → IsSameBase told_old told_new size_old size_new limit_old limit_new sound_old sound_new moved_old moved_new → AreCopied sound_old told_old size_old limit_old early changed base present copies → AreCopied sound_new told_new size_new limit_new early changed base present copies
copied_shown same copied = rw (same.held, same.size, same.limit, same.sound) copied

pub copied_dropped : {sound : Bool} {told : Option (List ℕ)} {size limit early : ℕ} {changed : Bool} {base present top : List ℕ} {before now : List (List ℕ)} → before ≡ top ∷ now → AreCopied sound told size limit early changed base present before → AreCopied sound told size limit early changed base present now
copied_dropped {size = size} {limit = limit} {top = top} {before = before} {now = now} same copied =
    let long : length before ≡ length now + 1 = ap length same ∙ sym (add-one (length now)) in
    record {
      depth = omega (arith, copied.depth, long);
      untouched = λ still. let none : before ≡ [] = copied.untouched still in absurd (cc);
      begun = copied.begun;
      base_told = copied.base_told;
      base_size = copied.base_size;
      within = copied.within;
      all_within = All-rest (λ copy. length copy ≤ max size limit) top now before same copied.all_within;
    }

pub copied_popped : {sound : Bool} {told : Option (List ℕ)} {size limit early : ℕ} {changed : Bool} {base present top : List ℕ} {before now : List (List ℕ)} → before ≡ top ∷ now → AreCopied sound told size limit early changed base present before → AreCopied sound told size limit early changed base top now
copied_popped {size = size} {limit = limit} {top = top} {before = before} {now = now} same copied =
    let dropped = copied_dropped same copied in
    record {
      depth = dropped.depth;
      untouched = dropped.untouched;
      begun = dropped.begun;
      base_told = dropped.base_told;
      base_size = dropped.base_size;
      within = λ _. All-head (λ copy. length copy ≤ max size limit) top now (rw same at copied.all_within);
      all_within = dropped.all_within;
    }
