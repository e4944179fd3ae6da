-- A few scripts, read by hand.
use Rattle.std.proofs.Common.{◌≡◌, ℕ, List, [], ◌∷◌, refl}
use Rattle.std.specs.Prelude.{codes}
use Rattle.ql_lex.specs.declared.marks.Mark.{Mark}
use Rattle.ql_lex.specs.declared.marks.Mark.TheVariants as m
use Rattle.ql_lex.specs.declared.words.Word.{Word}
use Rattle.ql_lex.specs.declared.words.Word.TheVariants as w
use Rattle.ql_lex.specs.declared.token.TokenKind.TheVariants as kind
use Rattle.ql_lex.specs.Marks.{mark_bytes}
use Rattle.ql_lex.specs.Words.{word_bytes}
use Rattle.ql_syntax.specs.Lexemes.{Lexeme}
use Rattle.ql_syntax.specs.Rules.{script, the, expr}
use Rattle.ql_syntax.specs.Readings.{Parse, Reads, unexpected, too_nested, Stops}
use Rattle.ql_syntax.specs.Readings as r
use Rattle.ql_syntax.specs.Trees.{expr_of}
use Rattle.ql_value.specs.declared.operator.BinOp.TheVariants as bin
use Rattle.ql_syntax.specs.declared.syntax.Expr.TheVariants as e
use Rattle.ql_syntax.specs.declared.syntax.Link.{roll-Link}
use Rattle.ql_syntax.specs.Scripts.{IsUnexpected}

abbrev mark : Mark → Lexeme
mark a = record { kind = kind.Mark a; text = mark_bytes a }

abbrev word : Word → Lexeme
word a = record { kind = kind.Word a; text = word_bytes a }

abbrev name : List ℕ → Lexeme
name bytes = record { kind = kind.Name; text = bytes }

abbrev number : List ℕ → Lexeme
number bytes = record { kind = kind.Number; text = bytes }

-- SELECT FROM t;
abbrev from_alone : List Lexeme
from_alone = word w.From ∷ name (codes "t") ∷ mark m.Semicolon ∷ []

-- in `SELECT FROM t;` the token 1 is unexpected
pub no_fields : IsUnexpected (word w.Select ∷ from_alone) 1
no_fields = record {
  here = from_alone;
  stops = r.in_first (r.in_part refl (r.by_its_rule (r.in_right refl refl (r.in_right refl refl (r.in_right refl refl
      (r.in_left refl (r.by_its_rule (r.in_second (r.takes refl) (r.in_second (r.left_out refl) (r.in_first (r.neither refl refl)))))))))));
  place = refl;
}

-- `COMMIT COMMIT`: a statement needs a semicolon behind it
pub no_semicolon : IsUnexpected (word w.Commit ∷ word w.Commit ∷ []) 1
no_semicolon = record {
  here = word w.Commit ∷ [];
  stops = r.in_second (r.entered refl (r.by_rule (r.second refl refl (r.first refl (r.takes refl))))) (r.in_second (r.ended refl) r.not_at_end);
  place = refl;
}

-- `BEGIN` alone: the end comes too early
pub too_short : IsUnexpected (word w.Begin ∷ []) 1
too_short = record {
  here = [];
  stops = r.in_first (r.in_part refl (r.by_its_rule (r.in_left refl (r.in_second (r.takes refl) (r.other_token refl)))));
  place = refl;
}

-- the empty script reads, and so do semicolons alone
pub only_semicolons : (n : ℕ) → (a : Parse) × Reads n script (mark m.Semicolon ∷ mark m.Semicolon ∷ []) a []
only_semicolons n = (
  _,
  r.both (r.left_out refl) (r.both (r.goes_on refl (r.both (r.takes refl) (r.left_out refl))
      (r.goes_on refl (r.both (r.takes refl) (r.left_out refl)) (r.ended refl))) r.at_end),
)

-- `5 - 7` is a chain with one link
pub one_link : (n : ℕ) → (a : Parse) × Reads n (the expr) (number (codes "5") ∷ mark m.Minus ∷ number (codes "7") ∷ []) a []
    × (expr_of a ≡ e.Chain (e.Number 5) (roll-Link (record { op = bin.Sub; part = e.Number 7 }) ∷ []))
one_link n = (
  _,
  r.by_rule (r.both (r.by_rule (r.both (r.by_rule (r.both (r.by_rule (r.both
      (r.by_rule (r.both (r.by_rule (r.both (r.ended refl) (r.by_rule (r.first refl (r.takes refl))))) (r.ended refl)))
      (r.goes_on refl (r.both (r.takes refl) (r.by_rule (r.both (r.by_rule (r.both (r.ended refl) (r.by_rule (r.first refl (r.takes refl))))) (r.ended refl))))
      (r.ended refl))))
      (r.both (r.ended refl) (r.left_out refl)))) (r.ended refl))) (r.ended refl)),
  refl,
)
