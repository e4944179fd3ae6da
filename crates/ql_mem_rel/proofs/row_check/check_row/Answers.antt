use Rattle.std.proofs.Common.{sym, ◌∙◌}
use Rattle.ql_rel.specs.Changes.{row_of}
use Rattle.ql_mem_rel.proofs.CheckLemmas.{refused_there, refused_nowhere}
use Rattle.ql_mem_rel.proofs.row_check.check_row.Goals as goal

pub returns-then-has_long_key-clause-refused : goal.returns-then-has_long_key-clause-refused
returns-then-has_long_key-clause-refused c =
    refused_there c.args.table (row_of c.args.id c.args.values.now) c.args.schema.now c.as_slice.result.now c.as_slice-index-items.result.now c.index-as_slice-table.result c.loop-index.index-index c.index-item.result
    c.in_ok-new.field-0 c.row_length.result c.as_slice.ensures c.as_slice-index-items.ensures c.requires c.index-as_slice-table.is c.row_length.ensures c.if-row_length-gt-ROW_LIMIT.false c.loop-index.invariant
    c.loop-index-test.true c.index-item.is (sym c.has_long_key.ensures ∙ c.if-has_long_key.true) (c.in_ok-new.ensures ∙ c.as_slice-then-has_long_key.ensures.value)

pub returns-clause-refused : goal.returns-clause-refused
returns-clause-refused c =
    refused_nowhere c.args.table (row_of c.args.id c.args.values.now) c.args.schema.now c.as_slice.result.now c.as_slice-index-items.result.now c.index-as_slice-table.result c.loop-index.index-index
    c.row_length.result c.as_slice.ensures c.as_slice-index-items.ensures c.requires c.index-as_slice-table.is c.row_length.ensures c.if-row_length-gt-ROW_LIMIT.false c.loop-index.invariant c.loop-index-test.false
