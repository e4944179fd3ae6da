-- The functions: their names, and how many parts they take.
use Rattle.std.specs.Prelude.{ℕ, ◌==◌, nat_lt, Bool, List, codes}
use Rattle.ql_syntax.specs.declared.syntax.Function.{Function}
use Rattle.ql_syntax.specs.declared.syntax.Function.TheVariants as f

-- the name of a function
abbrev pub function_bytes : Function → List ℕ
function_bytes f.Id = codes "id"
function_bytes f.Len = codes "len"
function_bytes f.Contains = codes "contains"
function_bytes f.HasPrefix = codes "hasPrefix"
function_bytes f.HasSuffix = codes "hasSuffix"
function_bytes f.Coalesce = codes "coalesce"
function_bytes f.Count = codes "count"
function_bytes f.Sum = codes "sum"
function_bytes f.Avg = codes "avg"
function_bytes f.Min = codes "min"
function_bytes f.Max = codes "max"

-- a function takes so many parts; `*`, which only count takes, is none
abbrev pub takes : Function → ℕ → Bool
takes f.Id n = nat_lt n 2
takes f.Len n = n == 1
takes f.Contains n = n == 2
takes f.HasPrefix n = n == 2
takes f.HasSuffix n = n == 2
takes f.Coalesce n = nat_lt 0 n
takes f.Count n = nat_lt n 2
takes f.Sum n = n == 1
takes f.Avg n = n == 1
takes f.Min n = n == 1
takes f.Max n = n == 1
