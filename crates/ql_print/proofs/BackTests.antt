-- Printed operators before a part, and printed predicates behind one, are read again.
use Rattle.std.proofs.Common.{◌≡◌, ℕ, suc, Bool, true, false, List, [], ◌∷◌, refl, ap}
use Rattle.std.specs.Prelude.{◌||◌}
use Rattle.std.proofs.lemmas.Bool.{or_left, or_right}
use Rattle.ql_lex.specs.declared.marks.Mark.TheVariants as m
use Rattle.ql_lex.specs.declared.words.Word.TheVariants as w
use Rattle.ql_value.specs.declared.operator.UnOp.{UnOp}
use Rattle.ql_syntax.specs.declared.syntax.Expr.{Expr}
use Rattle.ql_syntax.specs.declared.syntax.Expr.TheVariants as e
use Rattle.ql_syntax.specs.declared.syntax.Link.{Link}
use Rattle.ql_syntax.specs.declared.syntax.Select.{Select}
use Rattle.ql_syntax.specs.Lexemes.{Lexeme, is_word, is_comparison, is_prefix, sees}
use Rattle.ql_syntax.specs.Rules.{Rule, token, ◌then◌, ◌or◌, maybe, many, list, bracketed, subselect, word, the, begins_expr, select, expr, factor, predicate, sum, unary, primary}
use Rattle.ql_syntax.specs.Readings.{Parse, Reads, leaf, pair, left, right, absent, present, stop, cell, group, node}
use Rattle.ql_syntax.specs.Readings as r
use Rattle.ql_syntax.specs.Trees.{select_of, ops_of, is_present, chain, signed, tested_of}
use Rattle.ql_syntax.specs.ReadsBack.{plain_expr, plain_select}
use Rattle.ql_print.proofs.PlainEquations.{plain_of_unary, plain_of_in, plain_of_in_select, plain_of_between, plain_of_is_null}
use Rattle.ql_print.proofs.BackTokens.{mark_token, word_token, un_token, expr_before, select_before, listed_before, links_before, ops_before, not_before}
use Rattle.ql_print.proofs.BackForms.{before_chain, before_signed, before_in, before_in_select, before_between, before_is_null}
use Rattle.ql_print.proofs.BackOps.{un_op_is}
use Rattle.ql_print.proofs.BackLevels.{prefix_again}
use Rattle.ql_print.proofs.BackParts.{Back, BackLinks, Avoids, avoids_first, avoids_rest, after_sum, after_compared, after_factor, plain_chain}
use Rattle.ql_print.proofs.BackLists.{BackExprList, primary_begins, primary_no_prefix}

-- the printed operators before a part are read again
pub record BackOps (n : ℕ) (ops : List UnOp) (rest : List Lexeme) : Type 0 where
  pub parse : Parse
  pub reads : Reads n (many (token is_prefix)) (ops_before ops rest) parse rest
  pub tree : ops_of parse ≡ ops

pub back_ops : {n : ℕ} {ts r : List Lexeme} {a : Parse} → Reads n (many (token is_prefix)) ts a r → (rest : List Lexeme) → sees is_prefix rest ≡ false → BackOps n (ops_of a) rest
back_ops (r.ended e) rest f = record { parse = stop; reads = r.ended f; tree = refl }
back_ops (r.goes_on e (r.takes {t = t} s) k) rest f =
    let more = back_ops k rest f in
    record {
      parse = cell (leaf (un_token _)) more.parse;
      reads = r.goes_on (prefix_again t s) (r.takes (prefix_again t s)) more.reads;
      tree = rw (un_op_is, more.tree) refl;
    }

plain_signed : (ops : List UnOp) (x : Expr) → plain_expr (signed ops x) ≡ signed ops (plain_expr x)
plain_signed [] x = refl
plain_signed (op ∷ ops) x = plain_of_unary (op ∷ ops) x

pub signed_again : {n : ℕ} {x : Expr} {ops : List UnOp} {rest : List Lexeme} → Back n primary x rest → BackOps n ops (expr_before x rest) → Back n unary (signed ops x) rest
signed_again {x = x} {ops = ops} {rest = rest} b o = record {
  parse = node unary (pair o.parse b.parse);
  reads = rw (before_signed ops x rest) (r.by_rule (r.both o.reads b.reads));
  tree = rw (plain_signed ops x, o.tree, b.tree) refl;
}

pub primary_prefix : {n : ℕ} {x : Expr} {rest : List Lexeme} → Back n primary x rest → sees is_prefix (expr_before x rest) ≡ false
primary_prefix {x = x} {rest = rest} b = primary_no_prefix (expr_before x rest) (primary_begins b.reads)

-- what stands behind a part is printed, and read again as the same predicate
pub record BackTest (n : ℕ) (f : Expr → Expr) (rest : List Lexeme) : Type 0 where
  pub tokens : List Lexeme
  pub parse : Parse
  pub spelled : (x : Expr) → expr_before (f x) rest ≡ expr_before x tokens
  pub reads : Reads n (maybe (the predicate)) tokens parse rest
  pub tree : (x : Expr) → tested_of (plain_expr x) parse ≡ plain_expr (f x)
  pub after : Avoids after_compared tokens

pub no_test : {n : ℕ} {rest : List Lexeme} → Avoids after_factor rest → BackTest n (λ x. x) rest
no_test {rest = rest} h =
    let not = avoids_first h in
    let among = avoids_first (avoids_rest h) in
    let between = avoids_first (avoids_rest (avoids_rest h)) in
    let is = avoids_first (avoids_rest (avoids_rest (avoids_rest h))) in
    record {
      tokens = rest;
      parse = absent;
      spelled = λ x. refl;
      reads = r.left_out (rw (not, among, between, is) refl);
      tree = λ x. refl;
      after = avoids_rest (avoids_rest (avoids_rest (avoids_rest h)));
    }

-- how NOT is read
abbrev not_parse : Bool → Parse
not_parse true = present (leaf (word_token w.Not))
not_parse false = absent

not_reads : {n : ℕ} (negated : Bool) (ts : List Lexeme) → sees (is_word w.Not) ts ≡ false → Reads n (maybe (word w.Not)) (not_before negated ts) (not_parse negated) ts
not_reads true ts f = r.entered refl (r.takes refl)
not_reads false ts f = r.left_out f

not_present : (negated : Bool) → is_present (not_parse negated) ≡ negated
not_present true = refl
not_present false = refl

-- IN and BETWEEN
abbrev among_rule : Rule
among_rule =
    word w.In then bracketed (list (the expr) or subselect)
    or word w.Between then the sum then word w.And then the sum

among_reads : {n : ℕ} {ts rest : List Lexeme} {a : Parse} (negated : Bool) → sees (is_word w.Not) ts ≡ false → (sees (is_word w.In) ts || sees (is_word w.Between) ts) ≡ true → Reads n among_rule ts a rest →
    Reads n (maybe (the predicate)) (not_before negated ts) (present (node predicate (left (pair (not_parse negated) a)))) rest
among_reads true f e h = r.entered refl (r.by_rule (r.first refl (r.both (r.entered refl (r.takes refl)) h)))
among_reads {ts = ts} false f e h =
    let begins = or_right (sees (is_word w.Not) ts) (sees (is_word w.In) ts || sees (is_word w.Between) ts) e in
    r.entered (or_left (sees (is_word w.Not) ts || (sees (is_word w.In) ts || sees (is_word w.Between) ts)) (sees (is_word w.Is) ts) begins)
    (r.by_rule (r.first begins (r.both (r.left_out f) h)))

not_after : (negated : Bool) (ts : List Lexeme) → Avoids after_compared ts → Avoids after_compared (not_before negated ts)
not_after true ts h = record { none = refl }
not_after false ts h = h

pub in_again : {n : ℕ} (negated : Bool) {xs : List Expr} {rest : List Lexeme} → BackExprList n xs (mark_token m.Close ∷ rest) → BackTest (suc n) (λ x. e.IsIn negated x xs) rest
in_again negated {xs = xs} {rest = rest} b = record {
  tokens = not_before negated (word_token w.In ∷ mark_token m.Open ∷ listed_before expr_before xs (mark_token m.Close ∷ rest));
  parse = present (node predicate (left (pair (not_parse negated) (left (pair (leaf (word_token w.In)) (group (left (pair b.first b.more))))))));
  spelled = λ x. before_in x negated xs rest;
  reads = among_reads negated refl refl (r.first refl (r.both (r.takes refl) (r.enclosed refl (r.first b.begins b.reads) refl)));
  tree = λ x. rw (plain_of_in x negated xs, not_present negated) (ap (e.IsIn negated (plain_expr x)) b.tree);
  after = not_after negated _ (record { none = refl });
}

pub between_again : {n : ℕ} (negated : Bool) {low high : Expr} {rest : List Lexeme} → Back n sum low (word_token w.And ∷ expr_before high rest) → Back n sum high rest → BackTest n (λ x. e.IsBetween negated x low high) rest
between_again negated {low = low} {high = high} {rest = rest} l h = record {
  tokens = not_before negated (word_token w.Between ∷ expr_before low (word_token w.And ∷ expr_before high rest));
  parse = present (node predicate (left (pair (not_parse negated) (right (pair (leaf (word_token w.Between)) (pair l.parse (pair (leaf (word_token w.And)) h.parse)))))));
  spelled = λ x. before_between x negated low high rest;
  reads = among_reads negated refl refl (r.second refl refl (r.both (r.takes refl) (r.both l.reads (r.both (r.takes refl) h.reads))));
  tree = λ x. rw (plain_of_between x negated low high, not_present negated, l.tree, h.tree) refl;
  after = not_after negated _ (record { none = refl });
}

pub null_test_again : {n : ℕ} (negated : Bool) (rest : List Lexeme) → BackTest n (λ x. e.IsNull negated x) rest
null_test_again negated rest = record {
  tokens = word_token w.Is ∷ not_before negated (word_token w.Null ∷ rest);
  parse = present (node predicate (right (pair (leaf (word_token w.Is)) (pair (not_parse negated) (leaf (word_token w.Null))))));
  spelled = λ x. before_is_null x negated rest;
  reads = r.entered refl (r.by_rule (r.second refl refl (r.both (r.takes refl) (r.both (not_reads negated _ refl) (r.takes refl)))));
  tree = λ x. rw (plain_of_is_null x negated, not_present negated) refl;
  after = record { none = refl };
}

-- a printed SELECT is read up to the tokens behind it as that SELECT
pub record BackSelect (n : ℕ) (query : Select) (rest : List Lexeme) : Type 0 where
  pub parse : Parse
  pub reads : Reads n (the select) (select_before query rest) parse rest
  pub tree : select_of parse ≡ plain_select query
  pub behind : List Lexeme
  pub spelled : select_before query rest ≡ word_token w.Select ∷ behind

pub in_select_again : {n : ℕ} (negated : Bool) {query : Select} {rest : List Lexeme} → BackSelect n query (mark_token m.Close ∷ rest) → BackTest (suc n) (λ x. e.IsInSelect negated x query) rest
in_select_again {n = n} negated {query = query} {rest = rest} b =
    let begins : sees (is_word w.Select) (select_before query (mark_token m.Close ∷ rest)) ≡ true = rw b.spelled refl in
    let other : begins_expr (select_before query (mark_token m.Close ∷ rest)) ≡ false = rw b.spelled refl in
    record {
      tokens = not_before negated (word_token w.In ∷ mark_token m.Open ∷ select_before query (mark_token m.Close ∷ rest));
      parse = present (node predicate (left (pair (not_parse negated) (left (pair (leaf (word_token w.In)) (group (right (pair b.parse absent))))))));
      spelled = λ x. before_in_select x negated query rest;
      reads = among_reads negated refl refl (r.first refl (r.both (r.takes refl) (r.enclosed refl (r.second other begins (r.both b.reads (r.left_out refl))) refl)));
      tree = λ x. rw (plain_of_in_select x negated query, not_present negated, b.tree) refl;
      after = not_after negated _ (record { none = refl });
    }

-- sums that are compared, with what stands behind them
pub tested_again : {n : ℕ} {f : Expr → Expr} {x : Expr} {ls : List Link} {rest : List Lexeme} (t : BackTest n f rest) →
    Back n sum x (links_before ls t.tokens) → BackLinks n is_comparison sum after_sum ls t.tokens → Back n factor (f (chain x ls)) rest
tested_again {f = f} {x = x} {ls = ls} {rest = rest} t b l = record {
  parse = node factor (pair b.parse (pair l.parse t.parse));
  reads = rw (t.spelled (chain x ls), before_chain x ls t.tokens) (r.by_rule (r.both b.reads (r.both l.reads t.reads)));
  tree = rw (b.tree, l.tree, ← plain_chain x ls) (t.tree (chain x ls));
}
