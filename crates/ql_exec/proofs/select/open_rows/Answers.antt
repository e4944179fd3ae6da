-- No record set, one, or more than one.
use Rattle.std.proofs.Common.{◌≤◌, List, length, sym, subst, ◌∙◌}
use Rattle.ql_syntax.specs.declared.syntax.FromSet.{FromSet}
use Rattle.ql_syntax.specs.declared.syntax.Select.{out-Select}
use Rattle.ql_exec.proofs.Few.{none_is, sole_is}
use Rattle.ql_exec.proofs.Opened.{none_opens, none_types, sole_opens, sole_types, sole_there, several_later}
use Rattle.ql_exec.proofs.select.open_rows.Goals as goal

pub returns-in-empty-clause-rows : goal.returns-in-empty-clause-rows
returns-in-empty-clause-rows g c = none_opens (out-Select c.args.select.now).sets _ (sym c.as_slice.ensures ∙ none_is c.as_slice.result.now c.in-empty.len_below)

pub returns-in-empty-clause-types : goal.returns-in-empty-clause-types
returns-in-empty-clause-types g c = none_types (g.R.Rel.schema c.args.rel.now) (out-Select c.args.select.now).sets (sym c.as_slice.ensures ∙ none_is c.as_slice.result.now c.in-empty.len_below)

pub open_set-requires-clause-there : goal.open_set-requires-clause-there
open_set-requires-clause-there g c =
    let x = c.set-item.result in
    sole_there (g.R.Rel.schema c.args.rel.now) (out-Select c.args.select.now).sets x (sym c.as_slice.ensures ∙ sole_is c.as_slice.result.now x x c.in-len1.len_at_least c.in-len1.len_below c.set-item.is) c.requires.there

pub returns-in-len1-clause-rows : goal.returns-in-len1-clause-rows
returns-in-len1-clause-rows g c =
    let x = c.set-item.result in
    sole_opens (out-Select c.args.select.now).sets x c.open_set.result _ (sym c.as_slice.ensures ∙ sole_is c.as_slice.result.now x x c.in-len1.len_at_least c.in-len1.len_below c.set-item.is) c.open_set.ensures.rows

pub returns-in-len1-clause-types : goal.returns-in-len1-clause-types
returns-in-len1-clause-types g c =
    let x = c.set-item.result in
    sole_types (g.R.Rel.schema c.args.rel.now) (out-Select c.args.select.now).sets x c.open_set.result (sym c.as_slice.ensures ∙ sole_is c.as_slice.result.now x x c.in-len1.len_at_least c.in-len1.len_below c.set-item.is) c.open_set.ensures.types

pub returns-in_default-clause-rows : goal.returns-in_default-clause-rows
returns-in_default-clause-rows g c =
    several_later (out-Select c.args.select.now).sets _ (subst (λ (xs : List FromSet). 2 ≤ length xs) c.as_slice.ensures c.in_default.len_at_least)
