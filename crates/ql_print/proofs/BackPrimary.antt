-- Printed primaries are read again.
use Rattle.std.proofs.Common.{◌≡◌, ℕ, suc, Bool, true, false, List, [], ◌∷◌, Option, Some, None, refl, ap}
use Rattle.std.specs.Prelude.{◌&&◌}
use Rattle.std.specs.Fmt.{decimal}
use Rattle.std.proofs.lemmas.Bool.{or_right}
use Rattle.ql_lex.specs.Meaning.{text_value}
use Rattle.ql_lex.specs.Numbers.{number_value}
use Rattle.ql_lex.specs.declared.marks.Mark.TheVariants as m
use Rattle.ql_lex.specs.declared.words.Word.TheVariants as w
use Rattle.ql_value.specs.Print.{quoted}
use Rattle.ql_value.specs.declared.value.Kind.{Kind}
use Rattle.ql_value.specs.declared.value.Kind.TheVariants as k
use Rattle.ql_syntax.specs.declared.syntax.Expr.{Expr}
use Rattle.ql_syntax.specs.declared.syntax.Expr.TheVariants as e
use Rattle.ql_syntax.specs.declared.syntax.Function.{Function}
use Rattle.ql_syntax.specs.declared.syntax.Function.TheVariants as f
use Rattle.ql_syntax.specs.Lexemes.{Lexeme, is_mark, is_text, is_open, is_kind, is_count, is_function, sees}
use Rattle.ql_syntax.specs.Functions.{function_bytes}
use Rattle.ql_syntax.specs.Printing.{word_of_kind}
use Rattle.ql_syntax.specs.Rules.{Rule, token, before, ◌then◌, ◌or◌, maybe, list, bracketed, mark, word, the, enters, expr, ref, primary}
use Rattle.ql_syntax.specs.Readings.{Parse, Reads, leaf, pair, left, right, absent, present, group, node}
use Rattle.ql_syntax.specs.Readings as r
use Rattle.ql_syntax.specs.Trees.{expr_of, column_of}
use Rattle.ql_print.proofs.PlainEquations.{plain_of_number, plain_of_text, plain_of_truth, plain_of_null, plain_of_column, plain_of_paren, plain_of_call, plain_of_convert}
use Rattle.ql_print.proofs.BackTokens.{mark_token, word_token, small_token, name_token, number_token, text_token, expr_before, listed_before, column_before}
use Rattle.ql_print.proofs.BackForms.{before_number, before_text, before_truth, before_null, before_column, before_paren, before_call, before_convert}
use Rattle.ql_print.proofs.BackOps.{kind_named_is}
use Rattle.ql_print.proofs.BackParts.{Back, Avoids, avoids_first, avoids_rest, after_primary}
use Rattle.ql_print.proofs.BackLists.{BackExprList, expr_no_star}
use Rattle.ql_print.proofs.BackCalls.{IsCalled}

-- a primary that is no number
abbrev pub after_number_rule : Rule
after_number_rule =
    token is_text
    or word w.True
    or word w.False
    or word w.Null
    or before is_count is_open then bracketed (maybe (mark m.Star or list (the expr)))
    or before is_function is_open then bracketed (maybe (list (the expr)))
    or the ref
    or bracketed (the expr)
    or token is_kind then bracketed (the expr)

-- one that is no literal
abbrev pub after_null_rule : Rule
after_null_rule =
    before is_count is_open then bracketed (maybe (mark m.Star or list (the expr)))
    or before is_function is_open then bracketed (maybe (list (the expr)))
    or the ref
    or bracketed (the expr)
    or token is_kind then bracketed (the expr)

-- the parse of a primary that is no literal
abbrev pub other_primary : Parse → Parse
other_primary a = node primary (right (right (right (right (right a)))))

pub number_again : {n : ℕ} (v : ℕ) (rest : List Lexeme) → number_value (decimal v) ≡ v → Back n primary (e.Number v) rest
number_again v rest h = record {
  parse = node primary (left (leaf (number_token v)));
  reads = rw (before_number v rest) (r.by_rule (r.first refl (r.takes refl)));
  tree = rw (plain_of_number v, h) refl;
}

pub text_again : {n : ℕ} (bytes : List ℕ) (rest : List Lexeme) → text_value (quoted false bytes) ≡ bytes → Back n primary (e.Text bytes) rest
text_again bytes rest h = record {
  parse = node primary (right (left (leaf (text_token bytes))));
  reads = rw (before_text bytes rest) (r.by_rule (r.second refl refl (r.first refl (r.takes refl))));
  tree = rw (plain_of_text bytes) (ap e.Text h);
}

pub true_again : {n : ℕ} (rest : List Lexeme) → Back n primary (e.Truth true) rest
true_again rest = record {
  parse = node primary (right (right (left (leaf (small_token w.True)))));
  reads = rw (before_truth true rest) (r.by_rule (r.second refl refl (r.second refl refl (r.first refl (r.takes refl)))));
  tree = rw (plain_of_truth true) refl;
}

pub false_again : {n : ℕ} (rest : List Lexeme) → Back n primary (e.Truth false) rest
false_again rest = record {
  parse = node primary (right (right (right (left (leaf (small_token w.False))))));
  reads = rw (before_truth false rest) (r.by_rule (r.second refl refl (r.second refl refl (r.second refl refl (r.first refl (r.takes refl))))));
  tree = rw (plain_of_truth false) refl;
}

pub null_again : {n : ℕ} (rest : List Lexeme) → Back n primary e.Null rest
null_again rest = record {
  parse = node primary (right (right (right (right (left (leaf (word_token w.Null)))))));
  reads = rw (before_null rest) (r.by_rule (r.second refl refl (r.second refl refl (r.second refl refl (r.second refl refl (r.first refl (r.takes refl)))))));
  tree = rw plain_of_null refl;
}

-- a name begins no literal
other_reads : {n : ℕ} {bytes : List ℕ} {ts rest : List Lexeme} {a : Parse} →
    enters after_null_rule (name_token bytes ∷ ts) ≡ true → Reads n after_null_rule (name_token bytes ∷ ts) a rest → Reads n (the primary) (name_token bytes ∷ ts) (other_primary a) rest
other_reads e h = r.by_rule (r.second refl e (r.second refl e (r.second refl e (r.second refl e (r.second refl e h)))))

-- a name that does not stand before a bracket is no call
pub and_false : (a b : Bool) → b ≡ false → (a && b) ≡ false
and_false true b h = h
and_false false b h = refl

ref_reads : {n : ℕ} {bytes : List ℕ} {ts rest : List Lexeme} {a : Parse} →
    sees is_open ts ≡ false → Reads n (the ref) (name_token bytes ∷ ts) a rest → Reads n (the primary) (name_token bytes ∷ ts) (other_primary (right (right (left a)))) rest
ref_reads {bytes = bytes} {ts = ts} f h =
    let count : (is_count (name_token bytes) && sees is_open ts) ≡ false = and_false (is_count (name_token bytes)) _ f in
    let function : (is_function (name_token bytes) && sees is_open ts) ≡ false = and_false (is_function (name_token bytes)) _ f in
    let reads_ref = r.first {x = the ref} {y = bracketed (the expr) or token is_kind then bracketed (the expr)} refl h in
    let begins : enters (before is_function is_open then bracketed (maybe (list (the expr))) or the ref or bracketed (the expr) or token is_kind then bracketed (the expr)) (name_token bytes ∷ ts) ≡ true =
    or_right (is_function (name_token bytes) && sees is_open ts) _ refl in
    other_reads (or_right (is_count (name_token bytes) && sees is_open ts) _ begins) (r.second count begins (r.second function refl reads_ref))

-- a column, up to tokens that do not go on with it
column_reads : (n : ℕ) (table : Option (List ℕ)) (column : List ℕ) (rest : List Lexeme) → sees (is_mark m.Dot) rest ≡ false →
    (a : Parse) × Reads n (the ref) (column_before table column rest) (node ref a) rest × (column_of a ≡ e.Column table column)
column_reads n None column rest h = (pair (leaf (name_token column)) absent, r.by_rule (r.both (r.takes refl) (r.left_out h)), refl)
column_reads n (Some table) column rest h = (
  pair (leaf (name_token table)) (present (pair (leaf (mark_token m.Dot)) (leaf (name_token column)))),
  r.by_rule (r.both (r.takes refl) (r.entered refl (r.both (r.takes refl) (r.takes refl)))),
  refl,
)

pub ref_again : {n : ℕ} (table : Option (List ℕ)) (column : List ℕ) (rest : List Lexeme) → sees (is_mark m.Dot) rest ≡ false → Back n ref (e.Column table column) rest
ref_again {n = n} table column rest h = let c = column_reads n table column rest h in record {
  parse = node ref c.0;
  reads = rw (before_column table column rest) c.1;
  tree = rw (plain_of_column table column) c.2;
}

pub column_again : {n : ℕ} (table : Option (List ℕ)) (column : List ℕ) (rest : List Lexeme) → Avoids after_primary rest → Back n primary (e.Column table column) rest
column_again {n = n} None column rest h = let c = column_reads n None column rest (avoids_first h) in record {
  parse = other_primary (right (right (left (node ref c.0))));
  reads = rw (before_column None column rest) (ref_reads (avoids_first (avoids_rest h)) c.1);
  tree = rw (plain_of_column None column) c.2;
}
column_again {n = n} (Some table) column rest h = let c = column_reads n (Some table) column rest (avoids_first h) in record {
  parse = other_primary (right (right (left (node ref c.0))));
  reads = rw (before_column (Some table) column rest) (ref_reads refl c.1);
  tree = rw (plain_of_column (Some table) column) c.2;
}

-- a column that was read
pub back_ref : {n : ℕ} {ts r : List Lexeme} {a : Parse} → Reads n (the ref) ts a r → (rest : List Lexeme) → sees (is_mark m.Dot) rest ≡ false → Back n ref (expr_of a) rest
back_ref (r.by_rule (r.both h (r.left_out e))) rest f = ref_again None _ rest f
back_ref (r.by_rule (r.both h (r.entered e (r.both i k)))) rest f = ref_again (Some _) _ rest f

pub back_column : {n : ℕ} {ts r : List Lexeme} {a : Parse} → Reads n (the ref) ts a r → (rest : List Lexeme) → Avoids after_primary rest → Back n primary (expr_of a) rest
back_column (r.by_rule (r.both h (r.left_out e))) rest f = column_again None _ rest f
back_column (r.by_rule (r.both h (r.entered e (r.both i k)))) rest f = column_again (Some _) _ rest f

pub paren_again : {n : ℕ} {x : Expr} {rest : List Lexeme} → Back n expr x (mark_token m.Close ∷ rest) → Back (suc n) primary (e.Paren x) rest
paren_again {x = x} {rest = rest} b = record {
  parse = other_primary (right (right (right (left (group b.parse)))));
  reads = rw (before_paren x rest) (r.by_rule (r.second refl refl (r.second refl refl (r.second refl refl (r.second refl refl (r.second refl refl
      (r.second refl refl (r.second refl refl (r.second refl refl (r.first refl (r.enclosed refl b.reads refl)))))))))));
  tree = rw (plain_of_paren x, b.tree) refl;
}

convert_reads : {n : ℕ} {ts rest : List Lexeme} {a : Parse} (kind : Kind) → Reads n (bracketed (the expr)) ts a rest →
    Reads n (the primary) (small_token (word_of_kind kind) ∷ ts) (other_primary (right (right (right (right (pair (leaf (small_token (word_of_kind kind))) a)))))) rest
convert_reads k.Bool h = r.by_rule (r.second refl refl (r.second refl refl (r.second refl refl (r.second refl refl (r.second refl refl (r.second refl refl (r.second refl refl (r.second refl refl (r.second refl refl (r.both (r.takes refl) h))))))))))
convert_reads k.Int8 h = r.by_rule (r.second refl refl (r.second refl refl (r.second refl refl (r.second refl refl (r.second refl refl (r.second refl refl (r.second refl refl (r.second refl refl (r.second refl refl (r.both (r.takes refl) h))))))))))
convert_reads k.Int16 h = r.by_rule (r.second refl refl (r.second refl refl (r.second refl refl (r.second refl refl (r.second refl refl (r.second refl refl (r.second refl refl (r.second refl refl (r.second refl refl (r.both (r.takes refl) h))))))))))
convert_reads k.Int32 h = r.by_rule (r.second refl refl (r.second refl refl (r.second refl refl (r.second refl refl (r.second refl refl (r.second refl refl (r.second refl refl (r.second refl refl (r.second refl refl (r.both (r.takes refl) h))))))))))
convert_reads k.Int64 h = r.by_rule (r.second refl refl (r.second refl refl (r.second refl refl (r.second refl refl (r.second refl refl (r.second refl refl (r.second refl refl (r.second refl refl (r.second refl refl (r.both (r.takes refl) h))))))))))
convert_reads k.Uint8 h = r.by_rule (r.second refl refl (r.second refl refl (r.second refl refl (r.second refl refl (r.second refl refl (r.second refl refl (r.second refl refl (r.second refl refl (r.second refl refl (r.both (r.takes refl) h))))))))))
convert_reads k.Uint16 h = r.by_rule (r.second refl refl (r.second refl refl (r.second refl refl (r.second refl refl (r.second refl refl (r.second refl refl (r.second refl refl (r.second refl refl (r.second refl refl (r.both (r.takes refl) h))))))))))
convert_reads k.Uint32 h = r.by_rule (r.second refl refl (r.second refl refl (r.second refl refl (r.second refl refl (r.second refl refl (r.second refl refl (r.second refl refl (r.second refl refl (r.second refl refl (r.both (r.takes refl) h))))))))))
convert_reads k.Uint64 h = r.by_rule (r.second refl refl (r.second refl refl (r.second refl refl (r.second refl refl (r.second refl refl (r.second refl refl (r.second refl refl (r.second refl refl (r.second refl refl (r.both (r.takes refl) h))))))))))
convert_reads k.Text h = r.by_rule (r.second refl refl (r.second refl refl (r.second refl refl (r.second refl refl (r.second refl refl (r.second refl refl (r.second refl refl (r.second refl refl (r.second refl refl (r.both (r.takes refl) h))))))))))
convert_reads k.Blob h = r.by_rule (r.second refl refl (r.second refl refl (r.second refl refl (r.second refl refl (r.second refl refl (r.second refl refl (r.second refl refl (r.second refl refl (r.second refl refl (r.both (r.takes refl) h))))))))))

pub convert_again : {n : ℕ} (kind : Kind) {x : Expr} {rest : List Lexeme} → Back n expr x (mark_token m.Close ∷ rest) → Back (suc n) primary (e.Convert kind x) rest
convert_again kind {x = x} {rest = rest} b = record {
  parse = other_primary (right (right (right (right (pair (leaf (small_token (word_of_kind kind))) (group b.parse))))));
  reads = rw (before_convert kind x rest) (convert_reads kind (r.enclosed refl b.reads refl));
  tree = rw (plain_of_convert kind x, kind_named_is kind, b.tree) refl;
}

-- count, with or without parts
pub count_again : {n : ℕ} {star : Bool} (rest : List Lexeme) → Back (suc n) primary (e.Call f.Count star []) rest
count_again {star = star} rest = record {
  parse = other_primary (left (pair (leaf (name_token (function_bytes f.Count))) (group absent)));
  reads = rw (before_call f.Count star [] rest) (other_reads refl (r.first refl (r.both (r.takes_before refl refl) (r.enclosed refl (r.left_out refl) refl))));
  tree = rw (plain_of_call f.Count star []) refl;
}

pub count_parts_again : {n : ℕ} {xs : List Expr} {rest : List Lexeme} → BackExprList n xs (mark_token m.Close ∷ rest) → Back (suc n) primary (e.Call f.Count false xs) rest
count_parts_again {xs = xs} {rest = rest} b =
    let no_star : sees (is_mark m.Star) (listed_before expr_before xs (mark_token m.Close ∷ rest)) ≡ false = expr_no_star (listed_before expr_before xs (mark_token m.Close ∷ rest)) b.begins in
    record {
      parse = other_primary (left (pair (leaf (name_token (function_bytes f.Count))) (group (present (right (pair b.first b.more))))));
      reads = rw (before_call f.Count false xs rest) (other_reads refl (r.first refl (r.both (r.takes_before refl refl)
          (r.enclosed refl (r.entered (or_right (sees (is_mark m.Star) (listed_before expr_before xs (mark_token m.Close ∷ rest))) _ b.begins) (r.second no_star b.begins b.reads)) refl))));
      tree = rw (plain_of_call f.Count false xs) (ap (e.Call f.Count false) b.tree);
    }

function_reads : {n : ℕ} {ts rest : List Lexeme} {a : Parse} (function : Function) → IsCalled function → Reads n (bracketed (maybe (list (the expr)))) (mark_token m.Open ∷ ts) a rest →
    Reads n (the primary) (name_token (function_bytes function) ∷ mark_token m.Open ∷ ts) (other_primary (right (left (pair (leaf (name_token (function_bytes function))) a)))) rest
function_reads {ts = ts} function c h =
    let name : Lexeme = name_token (function_bytes function) in
    let count : (is_count name && true) ≡ false = rw c.no_count refl in
    let called : (is_function name && true) ≡ true = rw c.called refl in
    let begins : enters (before is_function is_open then bracketed (maybe (list (the expr))) or the ref or bracketed (the expr) or token is_kind then bracketed (the expr)) (name ∷ mark_token m.Open ∷ ts) ≡ true =
    or_right (is_function name && true) _ refl in
    other_reads (or_right (is_count name && true) _ begins) (r.second count begins (r.first called (r.both (r.takes_before c.called refl) h)))

pub call_again : {n : ℕ} (function : Function) (rest : List Lexeme) → IsCalled function → Back (suc n) primary (e.Call function false []) rest
call_again function rest c = record {
  parse = other_primary (right (left (pair (leaf (name_token (function_bytes function))) (group absent))));
  reads = rw (before_call function false [] rest) (function_reads function c (r.enclosed refl (r.left_out refl) refl));
  tree = rw (plain_of_call function false [], c.named) refl;
}

pub call_parts_again : {n : ℕ} (function : Function) {xs : List Expr} {rest : List Lexeme} → IsCalled function → BackExprList n xs (mark_token m.Close ∷ rest) → Back (suc n) primary (e.Call function false xs) rest
call_parts_again function {xs = xs} {rest = rest} c b = record {
  parse = other_primary (right (left (pair (leaf (name_token (function_bytes function))) (group (present (pair b.first b.more))))));
  reads = rw (before_call function false xs rest) (function_reads function c (r.enclosed refl (r.entered b.begins b.reads) refl));
  tree = rw (plain_of_call function false xs, c.named) (ap (e.Call function false) b.tree);
}
