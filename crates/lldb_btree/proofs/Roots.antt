-- A look-up from the root of a tree.
use Rattle.std.proofs.Common.{◌≡◌, ℕ, ◌+◌, ◌≤◌, Bool, List, Option, Result, Ok, Err, IfOk, sym, ap, ◌∙◌, arith}
use Rattle.lldb_base.specs.Contents.{Contents}
use Rattle.lldb_base.specs.declared.trouble.Trouble.{Trouble}
use Rattle.lldb_btree.specs.declared.bound.Bound.TheVariants.{From}
use Rattle.lldb_btree.specs.declared.node.Pair.{Pair}
use Rattle.lldb_btree.specs.Bounds.{is_ahead}
use Rattle.lldb_btree.specs.Pairs.{find, first, value_in}
use Rattle.lldb_btree.specs.Trees.{Part, CanWalk, IsTold, MayBeNoTree, least_of}
use Rattle.lldb_btree.proofs.Looking.{found_first}
use Rattle.lldb_btree.proofs.Steps.{NoWalk}
use Rattle.lldb_btree.proofs.Walking.{from_root}

abbrev pub root_part : ℕ → List Pair → List ℕ → Part
root_part handle pairs footprint = record { handle = handle; pairs = pairs; footprint = footprint }

pub no_root : (told : Option Contents) (handle : ℕ) → NoWalk told handle 17 → MayBeNoTree handle told
no_root told handle none levels pairs footprint t = none t.map t.tree.d (least_of t.tree.d) (root_part handle pairs footprint) (from_root told handle levels pairs footprint t)

pub reads_root : (told : Option Contents) (handle before after : ℕ) → ((m : Contents) (d least : ℕ) (p : Part) → CanWalk told m d least p handle 17 → after ≤ before + (d + 1)) → (levels : ℕ) (pairs : List Pair) (footprint : List ℕ) → IsTold told handle levels pairs footprint → after ≤ before + levels
reads_root told handle before after next levels pairs footprint t =
    let most : after ≤ before + (t.tree.d + 1) = next t.map t.tree.d (least_of t.tree.d) (root_part handle pairs footprint) (from_root told handle levels pairs footprint t) in
    omega (arith, most, t.tree.depth)

pub answer_root : (told : Option Contents) (handle : ℕ) (test : List ℕ → Bool) (found : Option Pair) → ((m : Contents) (d least : ℕ) (p : Part) → CanWalk told m d least p handle 17 → found ≡ first test p.pairs) → (levels : ℕ) (pairs : List Pair) (footprint : List ℕ) → IsTold told handle levels pairs footprint → found ≡ first test pairs
answer_root told handle test found next levels pairs footprint t = next t.map t.tree.d (least_of t.tree.d) (root_part handle pairs footprint) (from_root told handle levels pairs footprint t)

levels_at : (levels d : ℕ) (result : Result ℕ Trouble) → levels ≡ d + 1 → IfOk result (λ n. n ≡ d + 1) → IfOk result (λ n. n ≡ levels)
levels_at levels d (Ok n) e is = is ∙ sym e
levels_at levels d (Err f) e is = tt

pub levels_root : (told : Option Contents) (handle : ℕ) (result : Result ℕ Trouble) → ((m : Contents) (d least : ℕ) (p : Part) → CanWalk told m d least p handle 17 → IfOk result (λ n. n ≡ d + 1)) → (levels : ℕ) (pairs : List Pair) (footprint : List ℕ) → IsTold told handle levels pairs footprint → IfOk result (λ n. n ≡ levels)
levels_root told handle result next levels pairs footprint t = levels_at levels t.tree.d result t.tree.depth (next t.map t.tree.d (least_of t.tree.d) (root_part handle pairs footprint) (from_root told handle levels pairs footprint t))

pub get_found : (key copy : List ℕ) (found : Option Pair) (pairs : List Pair) (v : Option (List ℕ)) → copy ≡ key → found ≡ first (is_ahead (From copy)) pairs → v ≡ value_in key found → find key pairs ≡ v
get_found key copy found pairs v same is value = found_first key pairs ∙ ap (λ (k : List ℕ). value_in key (first (is_ahead (From k)) pairs)) (sym same) ∙ ap (value_in key) (sym is) ∙ sym value
