use Rattle.ql_parse_expr.proofs.nested.+parse.Given as goal

abbrev pub decreases-parse_expr : goal.decreases-parse_expr
decreases-parse_expr l = l.room

abbrev pub decreases-parse_select : goal.decreases-parse_select
decreases-parse_select l = l.room
