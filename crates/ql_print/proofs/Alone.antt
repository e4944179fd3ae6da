-- What was read is read again from what it prints by itself.
use Rattle.std.proofs.Common.{◌≡◌, ℕ, zero, suc, ◌+◌, ◌-◌, ◌≤◌, List, [], ◌∷◌, ◌++◌, Ok, refl, sym, ◌∙◌, subst, append-nil, arith}
use Rattle.std.specs.Prelude.{All, IfSome}
use Rattle.std.proofs.lemmas.List.Elements.{All-nil, All-cons}
use Rattle.ql_lex.specs.Tokens as lex
use Rattle.ql_lex.specs.declared.token.Token.{Token}
use Rattle.ql_lex.specs.declared.words.Word.TheVariants as w
use Rattle.ql_syntax.specs.declared.statement.ColumnDef.{ColumnDef}
use Rattle.ql_syntax.specs.declared.statement.Item.{Item}
use Rattle.ql_syntax.specs.Ink.{text_of, tokens_of}
use Rattle.ql_syntax.specs.Lexemes.{Lexeme, lexemes}
use Rattle.ql_syntax.specs.Printing.{Inks, ink_of_expr}
use Rattle.ql_syntax.specs.Readings.{Parse, Reads}
use Rattle.ql_syntax.specs.Readings as r
use Rattle.ql_syntax.specs.Rules.{item_rule, Rule, ◌then◌, ◌or◌, maybe, word, the, expr, column}
use Rattle.ql_syntax.specs.StatementPrinting.{ink_of_column, ink_of_item}
use Rattle.ql_syntax.specs.Statements.{column_of, rule_in}
use Rattle.ql_syntax.specs.StoredParts.{inner_item_of, WasRead, IsReadFrom, IsExprBack, IsColumnBack, IsItemBack, ExprsReadBack, ColumnsReadBack, ItemsReadBack}
use Rattle.ql_syntax.specs.Trees.{expr_of, option_of}
use Rattle.ql_print.proofs.Back.{exprs_again}
use Rattle.ql_print.proofs.BackColumns.{back_column_def}
use Rattle.ql_print.proofs.BackParts.{IsKept, Kept}
use Rattle.ql_print.proofs.BackScripts.{each_reading}
use Rattle.ql_print.proofs.BackStatementForms.{column_before, column_is, item_before, item_is}
use Rattle.ql_print.proofs.BackStatements.{back_inner_item}
use Rattle.ql_print.proofs.BackTokens.{before, expr_before}
use Rattle.ql_print.proofs.Fits.{Fits, AreSpelled, fits}
use Rattle.ql_print.proofs.LexedInk.{IsReadAs}
use Rattle.ql_print.proofs.SoundForms.{item_sound}
use Rattle.ql_print.proofs.SoundInk.{IsSound}
use Rattle.ql_print.proofs.SoundQueries.{exprs_sound}
use Rattle.ql_print.proofs.SoundStatements.{all_spelled, column_sound_of, inner_item_there, lexed_again, number_kept, text_kept}

-- more room

one_more : {n : ℕ} {x : Rule} {ts rest : List Lexeme} {a : Parse} → Reads n x ts a rest → Reads (suc n) x ts a rest
one_more (r.takes e) = r.takes e
one_more (r.takes_before e d) = r.takes_before e d
one_more r.takes_nothing = r.takes_nothing
one_more (r.both h k) = r.both (one_more h) (one_more k)
one_more (r.first e h) = r.first e (one_more h)
one_more (r.second e d h) = r.second e d (one_more h)
one_more (r.left_out e) = r.left_out e
one_more (r.entered e h) = r.entered e (one_more h)
one_more (r.ended e) = r.ended e
one_more (r.goes_on e h k) = r.goes_on e (one_more h) (one_more k)
one_more (r.enclosed o h c) = r.enclosed o (one_more h) c
one_more (r.no_comma e) = r.no_comma e
one_more (r.trailing e d) = r.trailing e d
one_more (r.member e d h k) = r.member e d (one_more h) (one_more k)
one_more r.at_end = r.at_end
one_more (r.by_rule h) = r.by_rule (one_more h)

so_many_more : {x : Rule} {ts rest : List Lexeme} {a : Parse} (more n room : ℕ) → room ≡ more + n → Reads n x ts a rest → Reads room x ts a rest
so_many_more {x = x} {ts = ts} {rest = rest} {a = a} zero n room e h =
    let same : n ≡ room = omega arith in
    let P : ℕ → Type 0 = λ i. Reads i x ts a rest in
    subst P same h
so_many_more (suc more) n room e h = so_many_more more (suc n) room (omega arith) (one_more h)

-- what is read in some room is read in each that is no smaller
pub in_more : {n room : ℕ} {x : Rule} {ts rest : List Lexeme} {a : Parse} → n ≤ room → Reads n x ts a rest → Reads room x ts a rest
in_more {n = n} {room = room} l h = so_many_more (room - n) n room (omega arith) h

-- what is known of what was read

spelled_behind : (front here : List Lexeme) → AreSpelled (front ++ here) → AreSpelled here
spelled_behind [] here h = h
spelled_behind (t ∷ ts) here h = spelled_behind ts here h.1

-- the tokens from a place of a source on are spelled as their kinds are
pub spelled_from : (source : List ℕ) (tokens : List Token) (front here : List Lexeme) → lex.Reads source (Ok tokens) → lexemes source tokens ≡ front ++ here → AreSpelled here
spelled_from source tokens front here lexed e =
    let P : List Lexeme → Type 0 = λ ts. AreSpelled ts in
    spelled_behind front here (subst P e (all_spelled source tokens lexed))

pub spelled_here : {A : Type 0} {x : Rule} {meaning : Parse → A} {n : ℕ} {a : A} (h : WasRead x meaning n a) → AreSpelled h.here
spelled_here h = spelled_from h.source h.tokens h.front h.here h.lexed h.place

all_kept : (ts : List Lexeme) → AreSpelled ts → All IsKept ts
all_kept [] h = All-nil IsKept
all_kept (t ∷ ts) h = All-cons IsKept t ts (record { number = λ e. number_kept t e h.0; text = text_kept t }) (all_kept ts h.1)

-- every token of a reading is spelled as its kind is, and its literals mean the same once they are printed
pub record IsKnown (n : ℕ) (x : Rule) (a : Parse) : Type 0 where
  pub fitting : Fits n x a
  pub kept : Kept a

pub known : {n : ℕ} {x : Rule} {ts rest : List Lexeme} {a : Parse} → Reads n x ts a rest → AreSpelled ts → IsKnown n x a
known {ts = ts} h spelled = record { fitting = (fits h spelled).0; kept = (each_reading IsKept h (all_kept ts spelled)).0 }

-- from tokens to a text

read_from : {A : Type 0} {n : ℕ} {x : Rule} {meaning : Parse → A} {again : A} (text : List ℕ) (tokens : List Token) (ts : List Lexeme) (parse : Parse) →
    lex.Reads text (Ok tokens) → lexemes text tokens ≡ ts → Reads n x ts parse [] → again ≡ meaning parse → IsReadFrom x meaning n text again
read_from {x = x} text tokens ts parse lexed same reads tree =
    let P : ℕ → List Lexeme → Type 0 = λ room us. Reads room x us parse [] in
    record { tokens = tokens; lexed = lexed; parse = parse; reads = λ room l. subst (P room) (sym same) (in_more l reads); tree = tree }

-- what prints soundly, and is read from its tokens, is read from its text
alone : {A : Type 0} {n : ℕ} {x : Rule} {meaning : Parse → A} {again : A} (ink : Inks) (ts : List Lexeme) (parse : Parse) →
    IsSound ink → before ink [] ≡ ts → Reads n x ts parse [] → again ≡ meaning parse → IsReadFrom x meaning n (text_of ink) again
alone ink ts parse sound is reads tree =
    let l : IsReadAs (text_of ink) (text_of ink) ink = lexed_again ink sound in
    read_from (text_of ink) l.tokens ts parse l.lexes (l.same ∙ sym (append-nil (tokens_of ink)) ∙ is) reads tree

-- an expression by itself

pub expr_alone : {n : ℕ} {ts rest : List Lexeme} {a : Parse} → Reads n (the expr) ts a rest → IsKnown n (the expr) a → IsExprBack n (expr_of a)
unfolding expr_before
expr_alone {n = n} {a = a} h k =
    let b = (exprs_again n).again h k.kept [] (record { none = refl }) in
    alone (ink_of_expr (expr_of a)) (expr_before (expr_of a) []) b.parse ((exprs_sound n).sound k.fitting) refl b.reads (sym b.tree)

pub exprs_read_back : ExprsReadBack
exprs_read_back room x h = subst (IsExprBack room) (sym h.tree) (expr_alone h.reads (known h.reads (spelled_here h)))

-- a column by itself

column_alone : {n : ℕ} {ts rest : List Lexeme} {a : Parse} → Reads n (the column) ts a rest → IsKnown n (the column) a → IsColumnBack n (column_of a)
column_alone {ts = ts} {rest = rest} {a = a} h k =
    let b = back_column_def ts rest a h k.kept [] (record { none = refl }) in
    alone (ink_of_column (column_of a)) (column_before (column_of a) []) b.parse (column_sound_of k.fitting) (column_is (column_of a) []) b.reads (sym b.tree)

rule_alone : {n : ℕ} {ts rest : List Lexeme} {a : Parse} → Reads n (maybe (word w.Not then word w.Null or the expr)) ts a rest → AreSpelled ts → IfSome (rule_in a) (IsExprBack n)
rule_alone (r.left_out e) spelled = tt
rule_alone (r.entered e (r.first d h)) spelled = tt
rule_alone (r.entered e (r.second d d' h)) spelled = expr_alone h (known h spelled)

default_alone : {n : ℕ} {ts rest : List Lexeme} {a : Parse} → Reads n (maybe (word w.Default then the expr)) ts a rest → AreSpelled ts → IfSome (option_of a) (IsExprBack n)
default_alone (r.left_out e) spelled = tt
default_alone (r.entered e (r.both h k)) spelled = expr_alone k (known k (fits h spelled).1)

-- the rule and the default of a column by themselves
record AreExprsBack (n : ℕ) (x : ColumnDef) : Type 0 where
  rule : IfSome x.rule (IsExprBack n)
  default : IfSome x.default (IsExprBack n)

exprs_alone : {n : ℕ} {ts rest : List Lexeme} {a : Parse} → Reads n (the column) ts a rest → AreSpelled ts → AreExprsBack n (column_of a)
exprs_alone (r.by_rule (r.both (r.takes s) (r.both h (r.both i k)))) spelled =
    let behind_kind = (fits h spelled.1).1 in
    record { rule = rule_alone i behind_kind; default = default_alone k (fits i behind_kind).1 }

pub columns_read_back : ColumnsReadBack
columns_read_back room x h =
    let spelled = spelled_here h in
    let exprs : AreExprsBack room x = subst (AreExprsBack room) (sym h.tree) (exprs_alone h.reads spelled) in
    record {
      was_read = h;
      back = subst (IsColumnBack room) (sym h.tree) (column_alone h.reads (known h.reads spelled));
      rule = exprs.rule;
      default = exprs.default;
    }

-- what an index orders by

item_alone : {n : ℕ} {ts rest : List Lexeme} {a : Parse} → Reads n item_rule ts a rest → IsKnown n item_rule a → IsItemBack n (inner_item_of a)
item_alone {a = a} h k =
    let it : Item = inner_item_of a in
    let b = back_inner_item h [] refl in
    alone (ink_of_item it) (item_before it []) b.parse (item_sound it (inner_item_there k.fitting)) (item_is it []) b.reads (sym b.tree)

pub items_read_back : ItemsReadBack
items_read_back room x h = record { was_read = h; back = subst (IsItemBack room) (sym h.tree) (item_alone h.reads (known h.reads (spelled_here h))) }
