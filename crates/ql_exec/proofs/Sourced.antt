-- A record set that is a table or a subselect, by its tree.
use Rattle.std.proofs.Common.{◌≡◌, ℕ, List, sym, ap, ◌∙◌}
use Rattle.ql_syntax.specs.declared.syntax.Expr.TheOpen.{SetSource-F}
use Rattle.ql_syntax.specs.declared.syntax.FromSet.{FromSet, out-FromSet}
use Rattle.ql_syntax.specs.declared.syntax.Select.{Select}
use Rattle.ql_syntax.specs.declared.syntax.SetSource.{out-SetSource}
use Rattle.ql_syntax.specs.declared.syntax.SetSource.TheVariants as source

pub table_source : (set : FromSet) (name got : List ℕ) → (out-FromSet set).source ≡ source.Table name → got ≡ name → out-SetSource (out-FromSet set).source ≡ SetSource-F.Table got
table_source set name got i e = ap out-SetSource i ∙ source.outs-Table name ∙ ap SetSource-F.Table (sym e)

pub query_source : (set : FromSet) (select : Select) → (out-FromSet set).source ≡ source.Query select → out-SetSource (out-FromSet set).source ≡ SetSource-F.Query select
query_source set select i = ap out-SetSource i ∙ source.outs-Query select
