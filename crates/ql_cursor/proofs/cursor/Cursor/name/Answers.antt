use Rattle.std.proofs.Common.{reverse, sym, ap, ◌∙◌}
use Rattle.ql_lex.specs.Tokens.{IsName, spelling_of}
use Rattle.ql_syntax.specs.Lexemes.{sees, is_name}
use Rattle.ql_cursor.proofs.CursorLemmas.{head_name}
use Rattle.ql_cursor.proofs.cursor.Cursor.name.Goals as goal

named : (c : goal.After-spelling) → IsName (spelling_of c.self.inside.source.now c.in-Some.token)
named c = head_name _ _ _ _ (sym (ap reverse c.deref.ensures.value) ∙ c.in-Some.ensures) c.self.invariant (ap (sees is_name) c.self.view_is ∙ c.requires)

pub new-requires-clause-some : goal.new-requires-clause-some
new-requires-clause-some c = rw c.spelling.ensures (named c).some

pub new-requires-clause-within : goal.new-requires-clause-within
new-requires-clause-within c = rw c.spelling.ensures (named c).within
