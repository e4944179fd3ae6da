-- An empty tree that was made.
use Rattle.std.proofs.Common.{◌≡◌, ℕ, ◌^◌, ◌<◌, [], ◌∷◌, Option, Some, None, IfSome, refl, arith}
use Rattle.lldb_base.specs.Contents.{Contents, content_of, with_content}
use Rattle.lldb_btree.specs.declared.node.Node.TheVariants.{Leaf}
use Rattle.lldb_btree.specs.Trees.{HoldsTree}
use Rattle.lldb_btree.proofs.Puts.{put_same, edit_create}

pub tree_made : (told now : Option Contents) (h : ℕ) (m : Contents) → told ≡ Some m → h < 2 ^ 64 → IfSome told (λ map. content_of h map ≡ None) → IfSome told (λ map. now ≡ Some (with_content h (0 ∷ 0 ∷ []) map)) → HoldsTree now m h 0 [] []
tree_made told now h m is low fresh made =
    let dead : content_of h m ≡ None = rw is at fresh in
    let new_is : now ≡ Some (with_content h (0 ∷ 0 ∷ []) m) = rw is at made in
    let edit = edit_create m h (0 ∷ 0 ∷ []) dead in
    record {
      new = with_content h (0 ∷ 0 ∷ []) m;
      told = new_is;
      levels_now = 1;
      footprint_now = h ∷ [];
      tree = record {
        d = 0;
        top = record {
          node = Leaf [];
          under = [];
          held = put_same h (0 ∷ 0 ∷ []) m;
          handle = low;
          enough = omega arith;
          few = omega arith;
          over = (refl, refl);
          footprint = refl;
        };
        depth = refl;
        sorted = record { rises = tt; fits = tt };
        once = edit.once;
      };
      edits = edit;
      higher = omega arith;
      grows = omega arith;
    }
