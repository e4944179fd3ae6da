use Rattle.std.proofs.Common.{reverse, sym, ap, ◌∙◌}
use Rattle.ql_syntax.specs.Lexemes.{sees, is_number}
use Rattle.ql_cursor.proofs.CursorLemmas.{head_number}
use Rattle.ql_cursor.proofs.cursor.Cursor.number.Goals as goal

pub number_of-requires : goal.number_of-requires
number_of-requires c = head_number _ _ _ _ (sym (ap reverse c.deref.ensures.value) ∙ c.in-Some.ensures) c.self.invariant (ap (sees is_number) c.self.view_is ∙ c.requires)
