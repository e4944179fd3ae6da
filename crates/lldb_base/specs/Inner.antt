-- A filer whose content is that of another from an offset on.
use Rattle.std.specs.Prelude.{◌≡◌, ℕ, ◌+◌, ◌-◌, ◌^◌, ◌≤◌, Bool, List, length, drop, Option, Some, None, option_map, IfSome, Result, Ok, Err}
use Rattle.std.proofs.Common.{◌∙◌, ap, arith, length-drop}
use Rattle.lldb_base.specs.declared.trouble.Trouble.{Trouble}
use Rattle.lldb_base.specs.declared.trouble.Trouble.TheVariants as trouble
use Rattle.lldb_base.specs.Filers.{IsSameBase}

-- an answer of the filer below, said of the content behind the offset
abbrev pub answer_behind : ℕ → Result (Unit {0}) Trouble → Result (Unit {0}) Trouble
answer_behind offset (Ok u) = Ok u
answer_behind offset (Err trouble.Failed) = Err trouble.Failed
answer_behind offset (Err trouble.NoMemory) = Err trouble.NoMemory
answer_behind offset (Err (trouble.Full need limit)) = Err (trouble.Full (need - offset) (limit - offset))
answer_behind offset (Err trouble.Damaged) = Err trouble.Damaged

-- the numbers of `Full` are at least the offset
abbrev pub IsBehind : ℕ → Result (Unit {0}) Trouble → Type 0
IsBehind offset (Ok _) = Unit {0}
IsBehind offset (Err trouble.Failed) = Unit {0}
IsBehind offset (Err trouble.NoMemory) = Unit {0}
IsBehind offset (Err (trouble.Full need limit)) = (offset ≤ need) × (offset ≤ limit)
IsBehind offset (Err trouble.Damaged) = Unit {0}

pub sizes_behind : (offset size limit : ℕ) → (size ≤ 2 ^ 60 + 16) × (limit ≤ 2 ^ 60 + 16) → (size - offset ≤ 2 ^ 60 + 16) × (limit - offset ≤ 2 ^ 60 + 16)
sizes_behind offset size limit within = (omega (arith, within.0), omega (arith, within.1))

pub told_behind : (offset size : ℕ) (told : Option (List ℕ)) → IfSome told (λ c. length c ≡ size) → IfSome (option_map (drop offset) told) (λ c. length c ≡ size - offset)
told_behind offset size None same = same
told_behind offset size (Some c) same = length-drop offset c ∙ ap (λ n. n - offset) same

pub same_behind : (o p : ℕ) → p ≡ o → (held_old held_new : Option (List ℕ)) (size_old size_new limit_old limit_new : ℕ) (sound_old sound_new : Bool) (moved_old moved_new : ℕ) → IsSameBase held_old held_new size_old size_new limit_old limit_new sound_old sound_new moved_old moved_new → IsSameBase (option_map (drop o) held_old) (option_map (drop p) held_new) (size_old - o) (size_new - p) (limit_old - o) (limit_new - p) sound_old sound_new moved_old moved_new
same_behind o p here _ _ _ _ _ _ _ _ _ _ same = rw here (record {
  held = ap (option_map (drop o)) same.held;
  size = ap (λ n. n - o) same.size;
  limit = ap (λ n. n - o) same.limit;
  sound = same.sound;
  moved = same.moved;
})
