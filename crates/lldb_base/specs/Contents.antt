-- Contents by handle.
use Rattle.std.specs.Prelude.{ℕ, ◌+◌, ◌/◌, ◌^◌, ◌<◌, ◌≤◌, List, length, Option, nat_le, if◌then◌else◌, All}
use Rattle.std.specs.Ordering.{nat_cmp}
use Rattle.std.specs.List.Sorted.{IsStrictlySortedBy}
use Rattle.std.specs.Map.{keys_of, lookup, remove_entry}
use Rattle.std.specs.BTreeMap.{insert_entry, is_at}

-- handles with their contents, by rising handle
abbrev pub Contents : Type 0
Contents = List (ℕ × List ℕ)

-- the content of a handle, where it is live
abbrev pub content_of : ℕ → Contents → Option (List ℕ)
content_of handle map = lookup (is_at (nat_cmp handle)) map

-- the map with a content at a handle, in place of the one that it had
abbrev pub with_content : ℕ → List ℕ → Contents → Contents
with_content handle content map = insert_entry nat_cmp map handle content

-- the map without a handle
abbrev pub without : ℕ → Contents → Contents
without handle map = remove_entry (is_at (nat_cmp handle)) map

-- a handle with a content that a heap can hold
abbrev pub IsEntry : ℕ × List ℕ → Type 0
IsEntry entry = (8 ≤ entry.0) × (entry.0 < 2 ^ 64) × (length entry.1 ≤ 65787)

-- what a heap holds: handles from 8 on, each once
pub record AreContents (map : Contents) : Type 0 where
  pub rising : IsStrictlySortedBy nat_cmp (keys_of map)
  pub entries : All IsEntry map

-- how many atoms of 16 bytes a content of a length takes
abbrev pub atoms_for : ℕ → ℕ
atoms_for n = if nat_le n 251 then (n + 1) / 16 + 1 else (n + 3) / 16 + 1
