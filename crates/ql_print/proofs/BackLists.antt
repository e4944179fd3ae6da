-- Printed lists are read again member by member.
use Rattle.std.proofs.Common.{◌≡◌, ℕ, Bool, true, false, List, [], ◌∷◌, refl}
use Rattle.std.specs.Prelude.{map}
use Rattle.std.proofs.lemmas.Bool.{or_right}
use Rattle.ql_lex.specs.declared.marks.Mark.TheVariants as m
use Rattle.ql_lex.specs.declared.words.Word.TheVariants as w
use Rattle.ql_lex.specs.declared.token.TokenKind.{TokenKind}
use Rattle.ql_lex.specs.declared.token.TokenKind.TheVariants as kind
use Rattle.ql_syntax.specs.declared.syntax.Expr.{Expr}
use Rattle.ql_syntax.specs.Lexemes.{Lexeme, kind_is_mark, kind_is_word, is_mark, is_word, is_comma, is_number, is_prefix, sees}
use Rattle.ql_syntax.specs.Rules.{Rule, further, list, the, enters, begins_primary, begins_expr, expr, term, factor, sum, product, unary, primary}
use Rattle.ql_syntax.specs.Readings.{Parse, Reads, pair, stop, cell}
use Rattle.ql_syntax.specs.Readings as r
use Rattle.ql_syntax.specs.Trees.{expr_of, exprs_of}
use Rattle.ql_syntax.specs.ReadsBack.{plain_expr}
use Rattle.ql_print.proofs.BackTokens.{mark_token, expr_before, further_before, listed_before}
use Rattle.ql_print.proofs.BackParts.{Kept, Avoids, avoids_first, avoids_rest, after_expr, Back}

-- a printed member is read by the rule, up to the tokens behind it, as that member
pub record BackItem {A : Type 0} (n : ℕ) (x : Rule) (print : A → List Lexeme → List Lexeme) (meaning : Parse → A) (plain : A → A) (a : A) (rest : List Lexeme) : Type 0 where
  pub parse : Parse
  pub reads : Reads n x (print a rest) parse rest
  pub tree : meaning parse ≡ plain a
  pub begins : enters x (print a rest) ≡ true

-- the same of further members
pub record BackMore {A : Type 0} (n : ℕ) (x : Rule) (print : A → List Lexeme → List Lexeme) (meanings : Parse → List A) (plain : A → A) (inner : List (Lexeme → Bool)) (xs : List A) (rest : List Lexeme) : Type 0 where
  pub parse : Parse
  pub reads : Reads n (further x) (further_before print xs rest) parse rest
  pub tree : meanings parse ≡ map plain xs
  pub after : Avoids inner (further_before print xs rest)

-- the same of a list
pub record BackList {A : Type 0} (n : ℕ) (x : Rule) (print : A → List Lexeme → List Lexeme) (meaning : Parse → A) (meanings : Parse → List A) (plain : A → A) (xs : List A) (rest : List Lexeme) : Type 0 where
  pub first : Parse
  pub more : Parse
  pub reads : Reads n (list x) (listed_before print xs rest) (pair first more) rest
  pub tree : ◌≡◌ {A = List A} (meaning first ∷ meanings more) (map plain xs)
  pub begins : enters x (listed_before print xs rest) ≡ true

pub no_more : {A : Type 0} {n : ℕ} {x : Rule} {print : A → List Lexeme → List Lexeme} {meanings : Parse → List A} {plain : A → A} {inner : List (Lexeme → Bool)} {rest : List Lexeme} →
    meanings stop ≡ [] → Avoids (is_comma ∷ inner) rest → BackMore n x print meanings plain inner [] rest
no_more e h = record { parse = stop; reads = r.no_comma (avoids_first h); tree = e; after = avoids_rest h }

pub one_more : {A : Type 0} {n : ℕ} {x : Rule} {print : A → List Lexeme → List Lexeme} {meaning : Parse → A} {meanings : Parse → List A} {plain : A → A} {inner : List (Lexeme → Bool)} {a : A} {xs : List A} {rest : List Lexeme} →
    ((a b : Parse) → ◌≡◌ {A = List A} (meanings (cell a b)) (meaning a ∷ meanings b)) → ((ts : List Lexeme) → Avoids inner (mark_token m.Comma ∷ ts)) →
    BackItem n x print meaning plain a (further_before print xs rest) → BackMore n x print meanings plain inner xs rest → BackMore n x print meanings plain inner (a ∷ xs) rest
one_more e c b l = record {
  parse = cell b.parse l.parse;
  reads = r.member refl b.begins b.reads l.reads;
  tree = rw (e b.parse l.parse, b.tree, l.tree) refl;
  after = c _;
}

pub listed : {A : Type 0} {n : ℕ} {x : Rule} {print : A → List Lexeme → List Lexeme} {meaning : Parse → A} {meanings : Parse → List A} {plain : A → A} {inner : List (Lexeme → Bool)} {a : A} {xs : List A} {rest : List Lexeme} →
    BackItem n x print meaning plain a (further_before print xs rest) → BackMore n x print meanings plain inner xs rest → BackList n x print meaning meanings plain (a ∷ xs) rest
listed b l = record {
  first = b.parse;
  more = l.parse;
  reads = r.both b.reads l.reads;
  tree = rw (b.tree, l.tree) refl;
  begins = b.begins;
}

-- Further members are read again where each member is.
pub more_again : {A : Type 0} {n : ℕ} {x : Rule} {print : A → List Lexeme → List Lexeme} {meaning : Parse → A} {meanings : Parse → List A} {plain : A → A} {inner : List (Lexeme → Bool)} →
    meanings stop ≡ [] → ((a b : Parse) → ◌≡◌ {A = List A} (meanings (cell a b)) (meaning a ∷ meanings b)) → ((ts : List Lexeme) → Avoids inner (mark_token m.Comma ∷ ts)) →
    ((ts r : List Lexeme) (a : Parse) → Reads n x ts a r → Kept a → (rest : List Lexeme) → Avoids inner rest → BackItem n x print meaning plain (meaning a) rest) →
    {ts r : List Lexeme} {b : Parse} → Reads n (further x) ts b r → Kept b → (rest : List Lexeme) → Avoids (is_comma ∷ inner) rest → BackMore n x print meanings plain inner (meanings b) rest
more_again e f c each (r.no_comma d) k rest h = rw e (no_more e h)
more_again e f c each (r.trailing d g) k rest h = rw e (no_more e h)
more_again e f c each (r.member {a = a} {b = b} d g i j) k rest h =
    let more = more_again e f c each j k.1 rest h in
    rw (f a b) (one_more f c (each _ _ _ i k.0 _ more.after) more)

-- So is a list.
pub list_again : {A : Type 0} {n : ℕ} {x : Rule} {print : A → List Lexeme → List Lexeme} {meaning : Parse → A} {meanings : Parse → List A} {plain : A → A} {inner : List (Lexeme → Bool)} →
    meanings stop ≡ [] → ((a b : Parse) → ◌≡◌ {A = List A} (meanings (cell a b)) (meaning a ∷ meanings b)) → ((ts : List Lexeme) → Avoids inner (mark_token m.Comma ∷ ts)) →
    ((ts r : List Lexeme) (a : Parse) → Reads n x ts a r → Kept a → (rest : List Lexeme) → Avoids inner rest → BackItem n x print meaning plain (meaning a) rest) →
    {ts mid r : List Lexeme} {a b : Parse} → Reads n x ts a mid → Reads n (further x) mid b r → Kept a → Kept b → (rest : List Lexeme) → Avoids (is_comma ∷ inner) rest →
    BackList n x print meaning meanings plain (meaning a ∷ meanings b) rest
list_again {meaning = meaning} e f c each h k kept others rest after =
    let more = more_again {meaning = meaning} e f c each k others rest after in
    listed (each _ _ _ h kept _ more.after) more

-- what reads as an expression begins one
pub primary_begins : {n : ℕ} {ts rest : List Lexeme} {a : Parse} → Reads n (the primary) ts a rest → begins_primary ts ≡ true
primary_begins (r.by_rule (r.first e h)) = rw e refl
primary_begins (r.by_rule (r.second {ts = ts} f e h)) = or_right (sees is_number ts) _ e

unary_begins : {n : ℕ} {ts rest : List Lexeme} {a : Parse} → Reads n (the unary) ts a rest → begins_expr ts ≡ true
unary_begins (r.by_rule (r.both (r.ended {ts = ts} e) k)) = or_right (sees is_prefix ts) _ (primary_begins k)
unary_begins (r.by_rule (r.both (r.goes_on e h i) k)) = rw e refl

product_begins : {n : ℕ} {ts rest : List Lexeme} {a : Parse} → Reads n (the product) ts a rest → begins_expr ts ≡ true
product_begins (r.by_rule (r.both h k)) = unary_begins h

sum_begins : {n : ℕ} {ts rest : List Lexeme} {a : Parse} → Reads n (the sum) ts a rest → begins_expr ts ≡ true
sum_begins (r.by_rule (r.both h k)) = product_begins h

factor_begins : {n : ℕ} {ts rest : List Lexeme} {a : Parse} → Reads n (the factor) ts a rest → begins_expr ts ≡ true
factor_begins (r.by_rule (r.both h k)) = sum_begins h

term_begins : {n : ℕ} {ts rest : List Lexeme} {a : Parse} → Reads n (the term) ts a rest → begins_expr ts ≡ true
term_begins (r.by_rule (r.both h k)) = factor_begins h

pub expr_begins : {n : ℕ} {ts rest : List Lexeme} {a : Parse} → Reads n (the expr) ts a rest → begins_expr ts ≡ true
expr_begins (r.by_rule (r.both h k)) = term_begins h

-- what does not begin an expression
record BeginsOther (k : TokenKind) : Type 0 where
  star : kind_is_mark m.Star k ≡ false
  distinct : kind_is_word w.Distinct k ≡ false
  not : kind_is_word w.Not k ≡ false

begins_other : (k : TokenKind) (text : List ℕ) (ts : List Lexeme) → begins_expr (record { kind = k; text = text } ∷ ts) ≡ true → BeginsOther k
begins_other (kind.Mark m.Star) text ts h = absurd (cc)
begins_other (kind.Word w.Distinct) text ts h = absurd (cc)
begins_other (kind.Word w.Not) text ts h = absurd (cc)
begins_other _ text ts h = record { star = refl; distinct = refl; not = refl }

pub expr_no_star : (ts : List Lexeme) → begins_expr ts ≡ true → sees (is_mark m.Star) ts ≡ false
expr_no_star [] h = refl
expr_no_star (t ∷ ts) h = (begins_other t.kind t.text ts h).star

pub expr_no_distinct : (ts : List Lexeme) → begins_expr ts ≡ true → sees (is_word w.Distinct) ts ≡ false
expr_no_distinct [] h = refl
expr_no_distinct (t ∷ ts) h = (begins_other t.kind t.text ts h).distinct

pub expr_no_not : (ts : List Lexeme) → begins_expr ts ≡ true → sees (is_word w.Not) ts ≡ false
expr_no_not [] h = refl
expr_no_not (t ∷ ts) h = (begins_other t.kind t.text ts h).not

prefix_other : (k : TokenKind) (text : List ℕ) (ts : List Lexeme) → begins_primary (record { kind = k; text = text } ∷ ts) ≡ true → is_prefix (record { kind = k; text = text }) ≡ false
prefix_other (kind.Mark m.Plus) text ts h = absurd (cc)
prefix_other (kind.Mark m.Minus) text ts h = absurd (cc)
prefix_other (kind.Mark m.Bang) text ts h = absurd (cc)
prefix_other (kind.Mark m.Caret) text ts h = absurd (cc)
prefix_other _ text ts h = refl

pub primary_no_prefix : (ts : List Lexeme) → begins_primary ts ≡ true → sees is_prefix ts ≡ false
primary_no_prefix [] h = refl
primary_no_prefix (t ∷ ts) h = prefix_other t.kind t.text ts h

-- an expression as a member of a list
pub expr_item : {n : ℕ} {x : Expr} {rest : List Lexeme} → Back n expr x rest → BackItem n (the expr) expr_before expr_of plain_expr x rest
expr_item b = record { parse = b.parse; reads = b.reads; tree = b.tree; begins = expr_begins b.reads }

-- further expressions
abbrev pub BackExprs : ℕ → List Expr → List Lexeme → Type 0
BackExprs n xs rest = BackMore n (the expr) expr_before exprs_of plain_expr after_expr xs rest

-- a list of expressions
abbrev pub BackExprList : ℕ → List Expr → List Lexeme → Type 0
BackExprList n xs rest = BackList n (the expr) expr_before expr_of exprs_of plain_expr xs rest

-- one further expression
pub one_expr : {n : ℕ} {x : Expr} {xs : List Expr} {rest : List Lexeme} → Back n expr x (further_before expr_before xs rest) → BackExprs n xs rest → BackExprs n (x ∷ xs) rest
one_expr b l = one_more (λ a b. refl) (λ ts. record { none = refl }) (expr_item b) l
