-- The ids of a told database are small enough.
use Rattle.std.proofs.Common.{◌≡◌, ℕ, zero, suc, ◌<◌, ◌≤◌, Bool, true, false, nat_lt, List, [], ◌∷◌, find, slice_get, Option, Some, None, IfSome, refl, subst, arith}
use Rattle.std.specs.List.{AllByRecursion}
use Rattle.ql_rel.specs.declared.db.Db.{Db}
use Rattle.ql_rel.specs.declared.db.Row.{Row}
use Rattle.ql_rel.specs.declared.db.Table.{Table}
use Rattle.ql_rel.specs.Databases.{rows_at, rows_if}
use Rattle.ql_rel.specs.Limits.{last_id}
use Rattle.ql_rel.specs.Rels.{is_after, row_after, GivesRow}
use Rattle.ql_rel.specs.WellFormed.{AllBelow, HoldsRows, IsWellFormed}
use Rattle.ql_exec.proofs.Scanned.{same_row}

below_found : (a next : ℕ) (rows : List Row) (r : Row) → AllBelow next rows → find (is_after a) rows ≡ Some r → r.id < next
below_found a next [] r h e = absurd (cc)
below_found a next (x ∷ rows) r h e =
    let by : (b : Bool) → nat_lt a x.id ≡ b → r.id < next = elim [
      | true ↦ λ t. let same : x ≡ r = same_row x r (rw t at e) in subst (λ (z : Row). z.id < next) same h.0
      | false ↦ λ t. below_found a next rows r h.1 (rw t at e)
    ] in
    by (nat_lt a x.id) refl

below_at : (db : Db) (n : ℕ) (tables : List Table) → AllByRecursion (HoldsRows db) tables → AllBelow db.next_id (rows_if (slice_get tables n))
below_at db n [] h = tt
below_at db zero (t ∷ tables) h = h.0.below
below_at db (suc n) (t ∷ tables) h = below_at db n tables h.1

small_in : (d : Db) (table a : ℕ) (r : Row) → IsWellFormed d → row_after table a d ≡ Some r → r.id ≤ last_id
small_in d table a r w e =
    let below : r.id < d.next_id = below_found a d.next_id (rows_at table d) r (below_at d table d.tables w.rows) e in
    let left = w.left in
    omega (arith, below, left)

-- an id over the greatest is given only where nothing is told
pub never_told : (o : Option Db) (table a : ℕ) (r : Row) → IfSome o IsWellFormed → IfSome o (λ d. GivesRow true r (row_after table a d)) → last_id < r.id → o ≡ None
never_told None table a r w h l = refl
never_told (Some d) table a r w h l = let small = small_in d table a r w h in absurd (omega (arith, small, l))
