-- Each operator that a level takes is printed as one of that level.
use Rattle.std.proofs.Common.{◌≡◌, true, [], refl}
use Rattle.ql_lex.specs.declared.marks.Mark.TheVariants as m
use Rattle.ql_lex.specs.declared.words.Word.TheVariants as w
use Rattle.ql_lex.specs.declared.token.TokenKind.{TokenKind}
use Rattle.ql_lex.specs.declared.token.TokenKind.TheVariants as kind
use Rattle.ql_syntax.specs.Lexemes.{Lexeme, is_either, is_both, is_comparison, is_sum, is_product, is_prefix}
use Rattle.ql_syntax.specs.Trees.{bin_op, un_op}
use Rattle.ql_print.proofs.BackTokens.{un_token}
use Rattle.ql_print.proofs.BackParts.{IsLevel, after_term, after_factor, after_sum, after_product, after_primary}

-- a token of this kind
abbrev of_kind : TokenKind → Lexeme
of_kind k = record { kind = k; text = [] }

either_kind : (k : TokenKind) → is_either (of_kind k) ≡ true → IsLevel is_either after_term (bin_op k)
either_kind (kind.Mark m.OrOr) h = record { again = refl; after = λ ts. record { none = refl } }
either_kind (kind.Word w.Or) h = record { again = refl; after = λ ts. record { none = refl } }
either_kind _ h = absurd (cc)

pub either_level : (t : Lexeme) → is_either t ≡ true → IsLevel is_either after_term (bin_op t.kind)
either_level t h = either_kind t.kind h

both_kind : (k : TokenKind) → is_both (of_kind k) ≡ true → IsLevel is_both after_factor (bin_op k)
both_kind (kind.Mark m.AndAnd) h = record { again = refl; after = λ ts. record { none = refl } }
both_kind (kind.Word w.And) h = record { again = refl; after = λ ts. record { none = refl } }
both_kind _ h = absurd (cc)

pub both_level : (t : Lexeme) → is_both t ≡ true → IsLevel is_both after_factor (bin_op t.kind)
both_level t h = both_kind t.kind h

comparison_kind : (k : TokenKind) → is_comparison (of_kind k) ≡ true → IsLevel is_comparison after_sum (bin_op k)
comparison_kind (kind.Mark m.EqualEqual) h = record { again = refl; after = λ ts. record { none = refl } }
comparison_kind (kind.Mark m.Equal) h = record { again = refl; after = λ ts. record { none = refl } }
comparison_kind (kind.Mark m.BangEqual) h = record { again = refl; after = λ ts. record { none = refl } }
comparison_kind (kind.Mark m.LessGreater) h = record { again = refl; after = λ ts. record { none = refl } }
comparison_kind (kind.Mark m.Less) h = record { again = refl; after = λ ts. record { none = refl } }
comparison_kind (kind.Mark m.LessEqual) h = record { again = refl; after = λ ts. record { none = refl } }
comparison_kind (kind.Mark m.Greater) h = record { again = refl; after = λ ts. record { none = refl } }
comparison_kind (kind.Mark m.GreaterEqual) h = record { again = refl; after = λ ts. record { none = refl } }
comparison_kind (kind.Word w.Like) h = record { again = refl; after = λ ts. record { none = refl } }
comparison_kind _ h = absurd (cc)

pub comparison_level : (t : Lexeme) → is_comparison t ≡ true → IsLevel is_comparison after_sum (bin_op t.kind)
comparison_level t h = comparison_kind t.kind h

sum_kind : (k : TokenKind) → is_sum (of_kind k) ≡ true → IsLevel is_sum after_product (bin_op k)
sum_kind (kind.Mark m.Plus) h = record { again = refl; after = λ ts. record { none = refl } }
sum_kind (kind.Mark m.Minus) h = record { again = refl; after = λ ts. record { none = refl } }
sum_kind (kind.Mark m.Bar) h = record { again = refl; after = λ ts. record { none = refl } }
sum_kind (kind.Mark m.Caret) h = record { again = refl; after = λ ts. record { none = refl } }
sum_kind _ h = absurd (cc)

pub sum_level : (t : Lexeme) → is_sum t ≡ true → IsLevel is_sum after_product (bin_op t.kind)
sum_level t h = sum_kind t.kind h

product_kind : (k : TokenKind) → is_product (of_kind k) ≡ true → IsLevel is_product after_primary (bin_op k)
product_kind (kind.Mark m.Star) h = record { again = refl; after = λ ts. record { none = refl } }
product_kind (kind.Mark m.Slash) h = record { again = refl; after = λ ts. record { none = refl } }
product_kind (kind.Mark m.Percent) h = record { again = refl; after = λ ts. record { none = refl } }
product_kind (kind.Mark m.ShiftLeft) h = record { again = refl; after = λ ts. record { none = refl } }
product_kind (kind.Mark m.ShiftRight) h = record { again = refl; after = λ ts. record { none = refl } }
product_kind (kind.Mark m.Ampersand) h = record { again = refl; after = λ ts. record { none = refl } }
product_kind (kind.Mark m.AndNot) h = record { again = refl; after = λ ts. record { none = refl } }
product_kind _ h = absurd (cc)

pub product_level : (t : Lexeme) → is_product t ≡ true → IsLevel is_product after_primary (bin_op t.kind)
product_level t h = product_kind t.kind h

prefix_kind : (k : TokenKind) → is_prefix (of_kind k) ≡ true → is_prefix (un_token (un_op k)) ≡ true
prefix_kind (kind.Mark m.Plus) h = refl
prefix_kind (kind.Mark m.Minus) h = refl
prefix_kind (kind.Mark m.Bang) h = refl
prefix_kind (kind.Mark m.Caret) h = refl
prefix_kind _ h = absurd (cc)

pub prefix_again : (t : Lexeme) → is_prefix t ≡ true → is_prefix (un_token (un_op t.kind)) ≡ true
prefix_again t h = prefix_kind t.kind h
