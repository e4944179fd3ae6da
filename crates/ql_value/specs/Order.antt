-- The order of values.
use Rattle.std.specs.Prelude.{ℕ}
use Rattle.std.specs.declared.cmp.Ordering.{Ordering}
use Rattle.std.specs.Ordering.{nat_cmp, int_cmp, bool_cmp}
use Rattle.std.specs.Cmp.Lexicographic.{slice_cmp}
use Rattle.ql_value.specs.declared.value.Value.{Value}
use Rattle.ql_value.specs.declared.value.Value.TheVariants as v

-- the sorts of values in their order: NULL comes first
abbrev pub rank : Value → ℕ
rank v.Null = 0
rank (v.Bool _) = 1
rank (v.Int _ _) = 2
rank (v.Text _) = 3
rank (v.Blob _) = 4

-- false before true, numbers by size, strings and blobs by their bytes, and other pairs by their sorts
abbrev pub compared : Value → Value → Ordering
compared (v.Bool a) (v.Bool b) = bool_cmp a b
compared (v.Int _ a) (v.Int _ b) = int_cmp a b
compared (v.Text a) (v.Text b) = slice_cmp nat_cmp a b
compared (v.Blob a) (v.Blob b) = slice_cmp nat_cmp a b
compared a b = nat_cmp (rank a) (rank b)
