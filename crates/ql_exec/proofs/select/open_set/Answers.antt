-- The record set is a table that is there, or a subselect.
use Rattle.ql_rel.specs.Plans.{add_set}
use Rattle.std.proofs.Common.{[]}
use Rattle.ql_exec.proofs.Opened.{table_opens, query_later, table_types_are}
use Rattle.ql_exec.proofs.Planned.{stood_set}
use Rattle.ql_exec.proofs.Sourced.{table_source, query_source}
use Rattle.ql_exec.proofs.select.open_set.Goals as goal

pub table_named-requires : goal.table_named-requires
table_named-requires g c =
    let is = table_source c.args.set.now c.in-Table.name c.get.result.now c.in-Table.is c.get.ensures in
    (stood_set (g.R.Rel.schema c.args.rel.now) c.args.set.now c.get.result.now is c.requires.there).there

pub returns-in-Table-clause-rows : goal.returns-in-Table-clause-rows
returns-in-Table-clause-rows g c =
    let is = table_source c.args.set.now c.in-Table.name c.get.result.now c.in-Table.is c.get.ensures in
    table_opens c.table_named.result (g.R.Rel.schema c.args.rel.now) c.args.set.now c.get.result.now _ is c.table_named.ensures (g.met.R.Rel.told_schema c.args.rel.now) c.requires.formed

pub returns-in-Table-clause-there : goal.returns-in-Table-clause-there
returns-in-Table-clause-there g c =
    let is = table_source c.args.set.now c.in-Table.name c.get.result.now c.in-Table.is c.get.ensures in
    (table_types_are c.table_named.result (g.R.Rel.schema c.args.rel.now) c.get.result.now (add_set (g.R.Rel.schema c.args.rel.now) [] c.args.set.now) c.table_named.ensures (stood_set (g.R.Rel.schema c.args.rel.now) c.args.set.now c.get.result.now is c.requires.there)).0

pub returns-in-Table-clause-types : goal.returns-in-Table-clause-types
returns-in-Table-clause-types g c =
    let is = table_source c.args.set.now c.in-Table.name c.get.result.now c.in-Table.is c.get.ensures in
    (table_types_are c.table_named.result (g.R.Rel.schema c.args.rel.now) c.get.result.now (add_set (g.R.Rel.schema c.args.rel.now) [] c.args.set.now) c.table_named.ensures (stood_set (g.R.Rel.schema c.args.rel.now) c.args.set.now c.get.result.now is c.requires.there)).1

pub returns-in-Query-clause-rows : goal.returns-in-Query-clause-rows
returns-in-Query-clause-rows g c = query_later c.args.set.now c.in-Query.field-0 _ (query_source c.args.set.now c.in-Query.field-0 c.in-Query.is)
