-- What predicates mean.
use Rattle.std.proofs.Common.{◌≡◌, ℕ, Bool, List, refl}
use Rattle.ql_syntax.specs.declared.syntax.Expr.{Expr}
use Rattle.ql_syntax.specs.declared.syntax.Expr.TheVariants as e
use Rattle.ql_syntax.specs.Lexemes.{Lexeme}
use Rattle.ql_parse_expr.specs.Predicates.{null_rule, null_of, membership_rule, membership_of}
use Rattle.ql_syntax.specs.Rules.{predicate}
use Rattle.ql_syntax.specs.Readings.{Parse, Reads, left, right, present, node, both, first, second, enclosed}
use Rattle.ql_syntax.specs.Trees.{tested_of}

-- NULL tests
pub null_tree : {n : ℕ} (part : Expr) {ts rest : List Lexeme} {a : Parse} → Reads n null_rule ts a rest → null_of part a ≡ tested_of part (present (node predicate (right a)))
null_tree part (both h (both i k)) = refl

-- IN and BETWEEN
pub membership_tree : {n : ℕ} (part : Expr) {ts rest : List Lexeme} {a : Parse} → Reads n membership_rule ts a rest → membership_of part a ≡ tested_of part (present (node predicate (left a)))
membership_tree part (both h (first e (both i (enclosed o (first f k) c)))) = refl
membership_tree part (both h (first e (both i (enclosed o (second f g (both k l)) c)))) = refl
membership_tree part (both h (second e f (both i (both j (both k l))))) = refl

-- equal parts and bounds make equal tests
pub same_between : {a a' b b' d d' : Expr} (negated : Bool) → a ≡ a' → b ≡ b' → d ≡ d' → e.IsBetween negated a b d ≡ e.IsBetween negated a' b' d'
same_between negated i j k = rw (i, j, k) refl
