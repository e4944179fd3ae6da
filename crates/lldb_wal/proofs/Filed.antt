-- What a filer's two files are behind a commit.
use Rattle.std.proofs.Common.{◌≡◌, ℕ, ◌+◌, ◌^◌, ◌<◌, ◌≤◌, List, [], ◌∷◌, length, take, Option, Some, None, option_map, refl, sym, ap, subst, ◌∙◌, arith}
use Rattle.std.specs.Prelude.{IfSome}
use Rattle.std.proofs.lemmas.List.{take_all}
use Rattle.ql_edge.specs.Disk.{Files}
use Rattle.lldb_base.specs.declared.batch.Piece.{Piece}
use Rattle.lldb_base.specs.Batch.{Edits, IsBatch, CanTake, applied, written}
use Rattle.lldb_base.proofs.Pieces.{end_within}
use Rattle.lldb_base.proofs.Puts.{length_applied}
use Rattle.lldb_wal.specs.Fields.{longest}
use Rattle.lldb_wal.specs.Filer.{data_of, IsStored}
use Rattle.lldb_wal.specs.Kept.{stored}
use Rattle.lldb_wal.proofs.Completed.{absorbs_applied, same_front}

pub end_fits : (shift size : ℕ) (batch : Edits) → IsBatch batch → CanTake 16 shift size batch → size ≤ longest → shift + batch.size < 2 ^ 64
end_fits shift size batch made can within = let far = end_within 16 shift size longest batch can within in omega (arith, far, made.room)

pub takes_told : (magic : List ℕ) (shift size : ℕ) (batch : Edits) (files : Option Files) → IsStored magic size files → CanTake 16 shift size batch → IfSome files (λ f. CanTake 16 shift (length f.0) batch)
takes_told magic shift size batch None is can = tt
takes_told magic shift size batch (Some f) is can = subst (λ (n : ℕ). CanTake 16 shift n batch) (sym is.2) can

pub long_told : (magic : List ℕ) (size : ℕ) (files : Option Files) → IsStored magic size files → IfSome files (λ f. 16 ≤ length f.0)
long_told magic size None is = tt
long_told magic size (Some f) is = is.1

pub within_told : (magic : List ℕ) (size : ℕ) (files : Option Files) → IsStored magic size files → size ≤ longest → IfSome files (λ f. length f.0 ≤ longest)
within_told magic size None is within = tt
within_told magic size (Some f) is within = omega (arith, is.2, within)

pub stored_again : (magic : List ℕ) (shift size : ℕ) (batch : Edits) (old now : Option Files) → IsStored magic size old → now ≡ option_map (stored shift batch) old → IsBatch batch → CanTake 16 shift size batch → shift + batch.size ≤ longest
    → IsStored magic (shift + batch.size) now
stored_again magic shift size batch None now is same made can end = rw same tt
stored_again magic shift size batch (Some f) now is same made can end =
    let takes : CanTake 16 shift (length f.0) batch = subst (λ (n : ℕ). CanTake 16 shift n batch) (sym is.2) can in
    let a = absorbs_applied shift batch f.0 made takes end in
    rw same (same_front shift batch f.0 (applied shift batch f.0) is.1 a ∙ is.0, a.long, length_applied 16 shift batch f.0 takes)

pub content_stored : (shift : ℕ) (batch : Edits) (old now : Option Files) → now ≡ option_map (stored shift batch) old → option_map data_of now ≡ option_map (applied shift batch) (option_map data_of old)
content_stored shift batch None now is = ap (option_map data_of) is
content_stored shift batch (Some f) now is = ap (option_map data_of) is

no_pieces : (shift n : ℕ) (ps : List Piece) (bytes : List ℕ) → ps ≡ [] → length bytes ≤ n → take n (written shift ps bytes) ≡ bytes
no_pieces shift n ps bytes none all = ap (λ (qs : List Piece). take n (written shift qs bytes)) none ∙ take_all n bytes all

-- a batch without pieces and of the same length changes nothing
pub nothing_applied : (magic : List ℕ) (shift size : ℕ) (batch : Edits) (files : Option Files) → IsStored magic size files → length batch.pieces ≡ 0 → shift + batch.size ≡ size → option_map data_of files ≡ option_map (applied shift batch) (option_map data_of files)
nothing_applied magic shift size batch None is none same = refl
nothing_applied magic shift size batch (Some f) is none same = ap Some (sym (no_pieces shift (shift + batch.size) batch.pieces f.0 (empty batch.pieces none) (omega (arith, same, is.2))))
  where
    empty : (ps : List Piece) → length ps ≡ 0 → ps ≡ []
    empty [] is = refl
    empty (p ∷ ps) is = absurd (omega (arith, is))
