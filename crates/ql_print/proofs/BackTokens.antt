-- The tokens that each form of a tree prints, before other tokens.
use Rattle.std.proofs.Common.{◌≡◌, ℕ, Bool, true, false, List, [], ◌∷◌, ◌++◌, Option, Some, None, refl, ap, ◌∙◌, append_assoc}
use Rattle.std.specs.Prelude.{map, flat_map}
use Rattle.std.specs.Char.{to_ascii_uppercase}
use Rattle.std.proofs.lemmas.Grind.{flat_map-append}
use Rattle.ql_lex.specs.declared.marks.Mark.{Mark}
use Rattle.ql_lex.specs.declared.marks.Mark.TheVariants as m
use Rattle.ql_lex.specs.declared.words.Word.{Word}
use Rattle.ql_lex.specs.declared.words.Word.TheVariants as w
use Rattle.ql_lex.specs.declared.token.TokenKind.TheVariants as kind
use Rattle.ql_lex.specs.Marks.{mark_bytes}
use Rattle.ql_lex.specs.Words.{word_bytes}
use Rattle.ql_value.specs.declared.operator.BinOp.{BinOp}
use Rattle.ql_value.specs.declared.operator.BinOp.TheVariants as bin
use Rattle.ql_value.specs.declared.operator.UnOp.{UnOp}
use Rattle.ql_value.specs.declared.operator.UnOp.TheVariants as un
use Rattle.ql_value.specs.Print.{quoted}
use Rattle.std.specs.Fmt.{decimal}
use Rattle.ql_syntax.specs.declared.syntax.Expr.{Expr}
use Rattle.ql_syntax.specs.declared.syntax.Field.{Field}
use Rattle.ql_syntax.specs.declared.syntax.FromSet.{FromSet}
use Rattle.ql_syntax.specs.declared.syntax.Join.{Join}
use Rattle.ql_syntax.specs.declared.syntax.Link.{Link}
use Rattle.ql_syntax.specs.declared.syntax.Select.{Select}
use Rattle.ql_syntax.specs.declared.syntax.SetSource.{SetSource}
use Rattle.ql_syntax.specs.Ink as ink
use Rattle.ql_syntax.specs.Ink.{Ink, tokens_of}
use Rattle.ql_syntax.specs.Lexemes.{Lexeme}
use Rattle.ql_syntax.specs.Printing.{Inks, ink_of_bin, ink_of_un, ink_of_expr, ink_of_link, ink_of_select, ink_of_field, ink_of_source, ink_of_set, ink_of_one_join}

-- a mark as a token
abbrev pub mark_token : Mark → Lexeme
mark_token a = record { kind = kind.Mark a; text = mark_bytes a }

-- a keyword in capital letters as a token
abbrev pub word_token : Word → Lexeme
word_token a = record { kind = kind.Word a; text = map to_ascii_uppercase (word_bytes a) }

-- a keyword in small letters as a token
abbrev pub small_token : Word → Lexeme
small_token a = record { kind = kind.Word a; text = word_bytes a }

-- a name as a token
abbrev pub name_token : List ℕ → Lexeme
name_token bytes = record { kind = kind.Name; text = bytes }

-- a number as a token
abbrev pub number_token : ℕ → Lexeme
number_token n = record { kind = kind.Number; text = decimal n }

-- a string as a token
abbrev pub text_token : List ℕ → Lexeme
text_token bytes = record { kind = kind.Text; text = quoted false bytes }

-- an operator between two parts as a token
abbrev pub bin_token : BinOp → Lexeme
bin_token bin.Mul = mark_token m.Star
bin_token bin.Div = mark_token m.Slash
bin_token bin.Rem = mark_token m.Percent
bin_token bin.Shl = mark_token m.ShiftLeft
bin_token bin.Shr = mark_token m.ShiftRight
bin_token bin.And = mark_token m.Ampersand
bin_token bin.AndNot = mark_token m.AndNot
bin_token bin.Add = mark_token m.Plus
bin_token bin.Sub = mark_token m.Minus
bin_token bin.Or = mark_token m.Bar
bin_token bin.Xor = mark_token m.Caret
bin_token bin.Eq = mark_token m.EqualEqual
bin_token bin.Ne = mark_token m.BangEqual
bin_token bin.Lt = mark_token m.Less
bin_token bin.Le = mark_token m.LessEqual
bin_token bin.Gt = mark_token m.Greater
bin_token bin.Ge = mark_token m.GreaterEqual
bin_token bin.Both = mark_token m.AndAnd
bin_token bin.Either = mark_token m.OrOr
bin_token bin.Like = word_token w.Like

-- an operator before a part as a token
abbrev pub un_token : UnOp → Lexeme
un_token un.Plus = mark_token m.Plus
un_token un.Minus = mark_token m.Minus
un_token un.Not = mark_token m.Bang
un_token un.Flip = mark_token m.Caret

pub ink_of_bin_is : (op : BinOp) → ink_of_bin op ≡ ink.written (bin_token op)
ink_of_bin_is bin.Mul = refl
ink_of_bin_is bin.Div = refl
ink_of_bin_is bin.Rem = refl
ink_of_bin_is bin.Shl = refl
ink_of_bin_is bin.Shr = refl
ink_of_bin_is bin.And = refl
ink_of_bin_is bin.AndNot = refl
ink_of_bin_is bin.Add = refl
ink_of_bin_is bin.Sub = refl
ink_of_bin_is bin.Or = refl
ink_of_bin_is bin.Xor = refl
ink_of_bin_is bin.Eq = refl
ink_of_bin_is bin.Ne = refl
ink_of_bin_is bin.Lt = refl
ink_of_bin_is bin.Le = refl
ink_of_bin_is bin.Gt = refl
ink_of_bin_is bin.Ge = refl
ink_of_bin_is bin.Both = refl
ink_of_bin_is bin.Either = refl
ink_of_bin_is bin.Like = refl

pub ink_of_un_is : (op : UnOp) → ink_of_un op ≡ ink.written (un_token op)
ink_of_un_is un.Plus = refl
ink_of_un_is un.Minus = refl
ink_of_un_is un.Not = refl
ink_of_un_is un.Flip = refl

-- the tokens of pieces, before others
abbrev pub before : Inks → List Lexeme → List Lexeme
before inks rest = tokens_of inks ++ rest

pub before_both : (x y : Inks) (rest : List Lexeme) → before (x ++ y) rest ≡ before x (before y rest)
before_both x y rest = rw (flat_map-append ink.token_in x y, append_assoc (tokens_of x) (tokens_of y) rest) refl

-- the tokens of an expression, before others
unfoldable pub expr_before : Expr → List Lexeme → List Lexeme
expr_before x rest = before (ink_of_expr x) rest

-- the tokens of a link, before others
unfoldable pub link_before : Link → List Lexeme → List Lexeme
link_before x rest = before (ink_of_link x) rest

-- the tokens of a SELECT, before others
unfoldable pub select_before : Select → List Lexeme → List Lexeme
select_before x rest = before (ink_of_select x) rest

-- the tokens of a field, before others
unfoldable pub field_before : Field → List Lexeme → List Lexeme
field_before x rest = before (ink_of_field x) rest

-- the tokens of a record set, before others
unfoldable pub set_before : FromSet → List Lexeme → List Lexeme
set_before x rest = before (ink_of_set x) rest

-- the tokens of a join, before others
unfoldable pub join_before : Join → List Lexeme → List Lexeme
join_before x rest = before (ink_of_one_join x) rest

-- the tokens of the source of a record set, before others
unfoldable pub source_before : SetSource → List Lexeme → List Lexeme
source_before x rest = before (ink_of_source x) rest

-- the tokens of further parts of a list, before others
abbrev pub further_before : {A : Type 0} → (A → List Lexeme → List Lexeme) → List A → List Lexeme → List Lexeme
further_before part [] rest = rest
further_before part (x ∷ xs) rest = mark_token m.Comma ∷ part x (further_before part xs rest)

-- the tokens of the parts of a list, before others
abbrev pub listed_before : {A : Type 0} → (A → List Lexeme → List Lexeme) → List A → List Lexeme → List Lexeme
listed_before part [] rest = rest
listed_before part (x ∷ xs) rest = part x (further_before part xs rest)

-- the tokens of links, before others
abbrev pub links_before : List Link → List Lexeme → List Lexeme
links_before [] rest = rest
links_before (x ∷ xs) rest = link_before x (links_before xs rest)

-- the tokens of operators before a part, before others
abbrev pub ops_before : List UnOp → List Lexeme → List Lexeme
ops_before [] rest = rest
ops_before (op ∷ ops) rest = un_token op ∷ ops_before ops rest

-- the tokens of a column, before others
abbrev pub column_before : Option (List ℕ) → List ℕ → List Lexeme → List Lexeme
column_before None column rest = name_token column ∷ rest
column_before (Some table) column rest = name_token table ∷ mark_token m.Dot ∷ name_token column ∷ rest

-- NOT, where it is written, before others
abbrev pub not_before : Bool → List Lexeme → List Lexeme
not_before true rest = word_token w.Not ∷ rest
not_before false rest = rest

-- `true` or `false` as a token
abbrev pub truth_token : Bool → Lexeme
truth_token true = small_token w.True
truth_token false = small_token w.False

-- the name that AS gives, before others
abbrev pub alias_before : Option (List ℕ) → List Lexeme → List Lexeme
alias_before None rest = rest
alias_before (Some alias) rest = word_token w.As ∷ name_token alias ∷ rest

-- a keyword and the expression behind it, before others
abbrev pub behind_before : Word → Option Expr → List Lexeme → List Lexeme
behind_before word None rest = rest
behind_before word (Some part) rest = word_token word ∷ expr_before part rest

-- DISTINCT, where it is written, before others
abbrev pub distinct_before : Bool → List Lexeme → List Lexeme
distinct_before true rest = word_token w.Distinct ∷ rest
distinct_before false rest = rest

-- what a SELECT shows, before others
abbrev pub fields_before : List Field → List Lexeme → List Lexeme
fields_before [] rest = mark_token m.Star ∷ rest
fields_before (x ∷ xs) rest = listed_before field_before (x ∷ xs) rest

-- FROM and the record sets, before others
abbrev pub sets_before : List FromSet → List Lexeme → List Lexeme
sets_before [] rest = rest
sets_before (x ∷ xs) rest = word_token w.From ∷ listed_before set_before (x ∷ xs) rest

-- a join, where there is one, before others
abbrev pub some_join_before : Option Join → List Lexeme → List Lexeme
some_join_before None rest = rest
some_join_before (Some join) rest = join_before join rest

-- GROUP BY and its columns, before others
abbrev pub groups_before : List Expr → List Lexeme → List Lexeme
groups_before [] rest = rest
groups_before (x ∷ xs) rest = word_token w.Group ∷ word_token w.By ∷ listed_before expr_before (x ∷ xs) rest

-- DESC, where it is written, before others
abbrev pub direction_before : Bool → List Lexeme → List Lexeme
direction_before true rest = word_token w.Desc ∷ rest
direction_before false rest = rest

-- ORDER BY, its expressions and its direction, before others
abbrev pub keys_before : List Expr → Bool → List Lexeme → List Lexeme
keys_before [] descending rest = rest
keys_before (x ∷ xs) descending rest = word_token w.Order ∷ word_token w.By ∷ listed_before expr_before (x ∷ xs) (direction_before descending rest)

-- a list
further_is : {A : Type 0} (f : A → Inks) (xs : List A) (rest : List Lexeme) →
    before (flat_map (λ (y : Inks). (ink.mark m.Comma ∷ ink.space ∷ []) ++ y) (map f xs)) rest ≡ further_before (λ x. before (f x)) xs rest
further_is f [] rest = refl
further_is f (x ∷ xs) rest = ap (λ ts. mark_token m.Comma ∷ ts) (before_both (f x) _ rest ∙ ap (before (f x)) (further_is f xs rest))

pub before_listed : {A : Type 0} (f : A → Inks) (xs : List A) (rest : List Lexeme) → before (ink.listed (map f xs)) rest ≡ listed_before (λ x. before (f x)) xs rest
before_listed f [] rest = refl
before_listed f (x ∷ xs) rest = before_both (f x) _ rest ∙ ap (before (f x)) (further_is f xs rest)

-- a part in brackets
pub before_bracketed : (x : Inks) (rest : List Lexeme) → before (ink.bracketed x) rest ≡ mark_token m.Open ∷ before x (mark_token m.Close ∷ rest)
before_bracketed x rest = ap (λ ts. mark_token m.Open ∷ ts) (before_both x (ink.mark m.Close ∷ []) rest)
