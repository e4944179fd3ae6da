use Rattle.std.proofs.Common.{◌≡◌, ◌<◌, length, vec_len, ◌∙◌, sym, rules, arith}
use Rattle.ql_mem_rel.proofs.PlaceLemmas.{kept_rows, removed_row, place_within}
use Rattle.ql_mem_rel.proofs.row_piece.RowPiece.remove.Goals as goal

pub remove-requires : goal.remove-requires
remove-requires c =
    let within = place_within c.args.id c.args.self.now c.in-Some.at (sym c.in-Some.ensures) in
    let here : c.in-Some.at < length c.self.inside.rows.items = rw (← c.self.view_is) at within in
    let counts : vec_len c.self.inside.rows ≡ length c.self.inside.rows.items = search rules in
    omega arith

pub returns-in-Some : goal.returns-in-Some
returns-in-Some c = c.remove.ensures.items ∙ rw c.self.view_is (removed_row c.args.id 1 c.args.self.now c.in-Some.at c.requires (sym c.in-Some.ensures))

pub returns-in_default : goal.returns-in_default
returns-in_default c = sym (kept_rows c.args.id c.args.self.now (sym c.in_default.ensures))
