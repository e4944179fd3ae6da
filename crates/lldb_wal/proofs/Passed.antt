-- What a stop leaves of a filer's content, by what it leaves of its two files.
use Rattle.std.proofs.Common.{◌≡◌, ℕ, ◌+◌, ◌≤◌, inl, inr, List, [], ◌∷◌, ◌++◌, length, take, drop, Option, Some, None, option_map, refl, sym, ap, subst, ◌∙◌, arith}
use Rattle.std.specs.Prelude.{◌⊎◌, IfSome}
use Rattle.std.proofs.lemmas.List.{take-append-le, take_all}
use Rattle.ql_edge.specs.Disk.{Files}
use Rattle.ql_edge.specs.Stops.{Leaves, Adds}
use Rattle.lldb_base.specs.Batch.{Edits, applied}
use Rattle.lldb_base.specs.declared.batch.Piece.{Piece}
use Rattle.lldb_base.specs.Stops.{IsOldOrNew as IsEither, IsNew as IsAfter, seen_adds}
use Rattle.lldb_wal.specs.Fields.{longest}
use Rattle.lldb_wal.specs.Filer.{AsKept, IsKept, IsStored, KeepsData, data_of}
use Rattle.lldb_wal.specs.Kept.{kept, Beside, IsAtRest, IsShut, IsOldOrNew, IsNew}
use Rattle.lldb_wal.specs.Laws.{IsOurs}
use Rattle.lldb_wal.specs.Opened.{IsSameKept}
use Rattle.lldb_wal.proofs.Filed.{nothing_applied}
use Rattle.lldb_wal.proofs.OldOrNew.{kept_shut}
use Rattle.lldb_wal.proofs.Tidied.{header_shut}

pub keeps_data : (magic : List ℕ) (size : ℕ) (files : Option Files) (left : Files → Type 0) → IsStored magic size files → size ≤ longest → IsAtRest files left → KeepsData magic files left
keeps_data magic size None left is within rest = tt
keeps_data magic size (Some f) left is within rest =
    let ours : IsOurs magic f.0 = record { begins = is.0; long = is.1; within = omega (arith, is.2, within) } in (
      kept_shut magic f ours (subst IsShut (sym rest.0) header_shut),
      λ c l. kept_shut magic c (subst (IsOurs magic) (sym (rest.1 c l).0) ours) (rest.1 c l).1 ∙ ap Some (rest.1 c l).0,
    )

pub kept_either : (magic : List ℕ) (shift size : ℕ) (batch : Edits) (files : Option Files) (c : Files) → IsStored magic size files → Beside files (IsOldOrNew shift batch) c → IsEither shift batch (option_map data_of files) (kept magic c)
kept_either magic shift size batch None c is either = tt
kept_either magic shift size batch (Some f) c is either = subst (λ (m : List ℕ). (kept m c ≡ Some f.0) ⊎ (kept m c ≡ Some (applied shift batch f.0))) is.0 either

pub kept_after : (magic : List ℕ) (shift size : ℕ) (batch : Edits) (files : Option Files) (c : Files) → IsStored magic size files → Beside files (IsNew shift batch) c → IsAfter shift batch (option_map data_of files) (kept magic c)
kept_after magic shift size batch None c is new = tt
kept_after magic shift size batch (Some f) c is new = subst (λ (m : List ℕ). kept m c ≡ Some (applied shift batch f.0)) is.0 new

pub left_either : (magic : List ℕ) (shift size : ℕ) (batch : Edits) (files : Option Files) (left : Files → Type 0) → IsStored magic size files → Leaves left (Beside files (IsOldOrNew shift batch)) → Leaves (AsKept magic left) (IsEither shift batch (option_map data_of files))
left_either magic shift size batch files left is stops = λ s b. subst (IsEither shift batch (option_map data_of files)) (sym b.2) (kept_either magic shift size batch files b.0 is (stops b.0 b.1))

pub left_after : (magic : List ℕ) (shift size : ℕ) (batch : Edits) (files : Option Files) (left : Files → Type 0) → IsStored magic size files → Leaves left (Beside files (IsNew shift batch)) → Leaves (AsKept magic left) (IsAfter shift batch (option_map data_of files))
left_after magic shift size batch files left is stops = λ s b. subst (IsAfter shift batch (option_map data_of files)) (sym b.2) (kept_after magic shift size batch files b.0 is (stops b.0 b.1))

pub time_either : (magic : List ℕ) (shift size : ℕ) (batch : Edits) (files : Option Files) {before now : ℕ} {past since : ℕ → ℕ → Files → Type 0} {shown : ℕ → Type 0} → IsStored magic size files → Adds before now past since (Beside files (IsOldOrNew shift batch)) shown
    → Adds before now (λ t n. AsKept magic (past t n)) (λ t n. AsKept magic (since t n)) (IsEither shift batch (option_map data_of files)) shown
time_either magic shift size batch files is time = seen_adds (kept magic) time (λ c either. kept_either magic shift size batch files c is either)

-- where nothing was done
pub rest_either : (magic : List ℕ) (shift : ℕ) (batch : Edits) (files : Option Files) (left : Files → Type 0) → KeepsData magic files left → Leaves (AsKept magic left) (IsEither shift batch (option_map data_of files))
rest_either magic shift batch None left keeps = λ s b. tt
rest_either magic shift batch (Some f) left keeps = λ s b. inl (b.2 ∙ keeps.1 b.0 b.1)

pub rest_after : (magic : List ℕ) (shift size : ℕ) (batch : Edits) (files : Option Files) (left : Files → Type 0) → IsStored magic size files → batch.pieces ≡ [] → shift + batch.size ≡ size → KeepsData magic files left → Leaves (AsKept magic left) (IsAfter shift batch (option_map data_of files))
rest_after magic shift size batch None left is none same keeps = λ s b. tt
rest_after magic shift size batch (Some f) left is none same keeps =
    let count : length batch.pieces ≡ 0 = ap (λ (ps : List Piece). length ps) none in
    λ s b. b.2 ∙ keeps.1 b.0 b.1 ∙ nothing_applied magic shift size batch (Some f) is count same

-- opening
pub opened_time : (magic : List ℕ) (files : Option Files) {before now : ℕ} {past since : ℕ → ℕ → Files → Type 0} {shown : ℕ → Type 0} → Adds before now past since (Beside files (IsSameKept magic)) shown
    → Adds before now (λ t n. AsKept magic (past t n)) (λ t n. AsKept magic (since t n)) (IsKept magic files) shown
opened_time magic files time = seen_adds (kept magic) time (λ c same. kept_told magic files c same)
  where
    kept_told : (m : List ℕ) (told : Option Files) (c : Files) → Beside told (IsSameKept m) c → IsKept m told (kept m c)
    kept_told m None c same = tt
    kept_told m (Some f) c same = same

-- the magic, out of what no call changes
pub same_magic : (first second rest more : List ℕ) (most other : ℕ) → length first ≡ 16 → length second ≡ 16 → (most ∷ (first ++ rest)) ≡ (other ∷ (second ++ more)) → first ≡ second
same_magic first second rest more most other long wide same =
    sym (front first rest long) ∙ ap (λ (xs : List ℕ). take 16 (drop 1 xs)) same ∙ front second more wide
  where
    front : (xs ys : List ℕ) → length xs ≡ 16 → take 16 (xs ++ ys) ≡ xs
    front xs ys long = take-append-le 16 xs ys (omega (arith, long)) ∙ take_all 16 xs (omega (arith, long))
