-- The alternatives of a statement, by its first token.
use Rattle.std.proofs.Common.{◌≡◌, ℕ, Bool, true, false, ◌||◌, List, [], ◌∷◌, length, drop, refl, sym, subst}
use Rattle.std.proofs.Common.{rules}
use denote.Enum.Bare.{sameb, same_true}
use Rattle.std.specs.Prelude.{Some, None, Result, Ok, Err}
use Rattle.ql_lex.specs.contracts.words.Word as word
use Rattle.ql_lex.specs.declared.words.Word.{Word}
use Rattle.ql_lex.specs.declared.words.Word.TheVariants as w
use Rattle.ql_lex.specs.declared.token.TokenKind.{TokenKind}
use Rattle.ql_lex.specs.declared.token.TokenKind.TheVariants as kind
use Rattle.ql_cursor.specs.declared.fault.Fault.{Fault}
use Rattle.ql_cursor.specs.declared.fault.Fault.TheVariants as f
use Rattle.ql_syntax.specs.declared.statement.Statement.{Statement}
use Rattle.ql_syntax.specs.declared.statement.Statement.TheVariants as s
use Rattle.ql_syntax.specs.Lexemes.{Lexeme, is_word, sees, kind_at, text_at}
use Rattle.ql_syntax.specs.Rules.{the, statement, select, creation, removal, alteration, insertion, update, deletion, begins_the}
use Rattle.ql_syntax.specs.Readings.{Parse, leaf, node, left, right, takes, first, second, by_rule}
use Rattle.ql_cursor.specs.Parses.{Gives, Fails, Answers}
use Rattle.ql_syntax.specs.Trees.{select_of}
use Rattle.ql_parse.specs.StatementParts.{begin_rule, begin_of, truncation_rule}
use Rattle.ql_syntax.specs.Statements.{statement_of, creation_of, removal_of, alteration_of, truncation_of, insertion_of, update_of, deletion_of}
use Rattle.ql_cursor.proofs.Sequences.{fails_the, fails_left, fails_right, fails_neither}
use Rattle.ql_cursor.proofs.StepLemmas.{head_is}

-- what holds of a token of one kind at the front holds of any token of that kind
by_word : (P : List Lexeme → Type 0) (ts : List Lexeme) (a : Word) → kind_at ts ≡ Some (kind.Word a) → P (record { kind = kind.Word a; text = text_at ts } ∷ drop 1 ts) → P ts
by_word P ts a k h = subst P (sym (head_is ts (kind.Word a) k)) h

-- a SELECT as a statement
abbrev pub query_of : Parse → Statement
query_of a = s.Query (select_of a)

pub at_begin : (n : ℕ) (ts new : List Lexeme) (r : Result Statement Fault) → kind_at ts ≡ Some (kind.Word w.Begin) → Answers n (begin_rule) begin_of ts r new → Answers n (the statement) statement_of ts r new
at_begin n ts new (Ok v) k =
    by_word (λ us. Gives n (begin_rule) begin_of us v new → Gives n (the statement) statement_of us v new) ts w.Begin k
    (λ h. record { parse = node statement (left (h.parse)); reads = by_rule (first refl (h.reads)); means = h.means })
at_begin n ts new (Err e) k =
    by_word (λ us. Fails n (begin_rule) us e → Fails n (the statement) us e) ts w.Begin k
    (λ h. fails_the statement (fails_left refl h))

pub at_commit : (n : ℕ) (ts new : List Lexeme) → kind_at ts ≡ Some (kind.Word w.Commit) → new ≡ drop 1 ts → Gives n (the statement) statement_of ts s.Commit new
at_commit n ts new k d =
    rw d (by_word (λ us. Gives n (the statement) statement_of us s.Commit (drop 1 us)) ts w.Commit k
    (record { parse = node statement (right (left (leaf (record { kind = kind.Word w.Commit; text = text_at ts })))); reads = by_rule (second refl refl (first refl (takes refl))); means = refl }))

pub at_rollback : (n : ℕ) (ts new : List Lexeme) → kind_at ts ≡ Some (kind.Word w.Rollback) → new ≡ drop 1 ts → Gives n (the statement) statement_of ts s.Rollback new
at_rollback n ts new k d =
    rw d (by_word (λ us. Gives n (the statement) statement_of us s.Rollback (drop 1 us)) ts w.Rollback k
    (record { parse = node statement (right (right (left (leaf (record { kind = kind.Word w.Rollback; text = text_at ts }))))); reads = by_rule (second refl refl (second refl refl (first refl (takes refl)))); means = refl }))

pub at_query : (n : ℕ) (ts new : List Lexeme) (r : Result Statement Fault) → kind_at ts ≡ Some (kind.Word w.Select) → Answers n (the select) query_of ts r new → Answers n (the statement) statement_of ts r new
at_query n ts new (Ok v) k =
    by_word (λ us. Gives n (the select) query_of us v new → Gives n (the statement) statement_of us v new) ts w.Select k
    (λ h. record { parse = node statement (right (right (right (left (h.parse))))); reads = by_rule (second refl refl (second refl refl (second refl refl (first refl (h.reads))))); means = h.means })
at_query n ts new (Err e) k =
    by_word (λ us. Fails n (the select) us e → Fails n (the statement) us e) ts w.Select k
    (λ h. fails_the statement (fails_right refl refl (fails_right refl refl (fails_right refl refl (fails_left refl h)))))

pub at_creation : (n : ℕ) (ts new : List Lexeme) (r : Result Statement Fault) → kind_at ts ≡ Some (kind.Word w.Create) → Answers n (the creation) creation_of ts r new → Answers n (the statement) statement_of ts r new
at_creation n ts new (Ok v) k =
    by_word (λ us. Gives n (the creation) creation_of us v new → Gives n (the statement) statement_of us v new) ts w.Create k
    (λ h. record { parse = node statement (right (right (right (right (left (h.parse)))))); reads = by_rule (second refl refl (second refl refl (second refl refl (second refl refl (first refl (h.reads)))))); means = h.means })
at_creation n ts new (Err e) k =
    by_word (λ us. Fails n (the creation) us e → Fails n (the statement) us e) ts w.Create k
    (λ h. fails_the statement (fails_right refl refl (fails_right refl refl (fails_right refl refl (fails_right refl refl (fails_left refl h))))))

pub at_removal : (n : ℕ) (ts new : List Lexeme) (r : Result Statement Fault) → kind_at ts ≡ Some (kind.Word w.Drop) → Answers n (the removal) removal_of ts r new → Answers n (the statement) statement_of ts r new
at_removal n ts new (Ok v) k =
    by_word (λ us. Gives n (the removal) removal_of us v new → Gives n (the statement) statement_of us v new) ts w.Drop k
    (λ h. record { parse = node statement (right (right (right (right (right (left (h.parse))))))); reads = by_rule (second refl refl (second refl refl (second refl refl (second refl refl (second refl refl (first refl (h.reads))))))); means = h.means })
at_removal n ts new (Err e) k =
    by_word (λ us. Fails n (the removal) us e → Fails n (the statement) us e) ts w.Drop k
    (λ h. fails_the statement (fails_right refl refl (fails_right refl refl (fails_right refl refl (fails_right refl refl (fails_right refl refl (fails_left refl h)))))))

pub at_alteration : (n : ℕ) (ts new : List Lexeme) (r : Result Statement Fault) → kind_at ts ≡ Some (kind.Word w.Alter) → Answers n (the alteration) alteration_of ts r new → Answers n (the statement) statement_of ts r new
at_alteration n ts new (Ok v) k =
    by_word (λ us. Gives n (the alteration) alteration_of us v new → Gives n (the statement) statement_of us v new) ts w.Alter k
    (λ h. record { parse = node statement (right (right (right (right (right (right (left (h.parse)))))))); reads = by_rule (second refl refl (second refl refl (second refl refl (second refl refl (second refl refl (second refl refl (first refl (h.reads)))))))); means = h.means })
at_alteration n ts new (Err e) k =
    by_word (λ us. Fails n (the alteration) us e → Fails n (the statement) us e) ts w.Alter k
    (λ h. fails_the statement (fails_right refl refl (fails_right refl refl (fails_right refl refl (fails_right refl refl (fails_right refl refl (fails_right refl refl (fails_left refl h))))))))

pub at_truncation : (n : ℕ) (ts new : List Lexeme) (r : Result Statement Fault) → kind_at ts ≡ Some (kind.Word w.Truncate) → Answers n (truncation_rule) truncation_of ts r new → Answers n (the statement) statement_of ts r new
at_truncation n ts new (Ok v) k =
    by_word (λ us. Gives n (truncation_rule) truncation_of us v new → Gives n (the statement) statement_of us v new) ts w.Truncate k
    (λ h. record { parse = node statement (right (right (right (right (right (right (right (left (h.parse))))))))); reads = by_rule (second refl refl (second refl refl (second refl refl (second refl refl (second refl refl (second refl refl (second refl refl (first refl (h.reads))))))))); means = h.means })
at_truncation n ts new (Err e) k =
    by_word (λ us. Fails n (truncation_rule) us e → Fails n (the statement) us e) ts w.Truncate k
    (λ h. fails_the statement (fails_right refl refl (fails_right refl refl (fails_right refl refl (fails_right refl refl (fails_right refl refl (fails_right refl refl (fails_right refl refl (fails_left refl h)))))))))

pub at_insertion : (n : ℕ) (ts new : List Lexeme) (r : Result Statement Fault) → kind_at ts ≡ Some (kind.Word w.Insert) → Answers n (the insertion) insertion_of ts r new → Answers n (the statement) statement_of ts r new
at_insertion n ts new (Ok v) k =
    by_word (λ us. Gives n (the insertion) insertion_of us v new → Gives n (the statement) statement_of us v new) ts w.Insert k
    (λ h. record { parse = node statement (right (right (right (right (right (right (right (right (left (h.parse)))))))))); reads = by_rule (second refl refl (second refl refl (second refl refl (second refl refl (second refl refl (second refl refl (second refl refl (second refl refl (first refl (h.reads)))))))))); means = h.means })
at_insertion n ts new (Err e) k =
    by_word (λ us. Fails n (the insertion) us e → Fails n (the statement) us e) ts w.Insert k
    (λ h. fails_the statement (fails_right refl refl (fails_right refl refl (fails_right refl refl (fails_right refl refl (fails_right refl refl (fails_right refl refl (fails_right refl refl (fails_right refl refl (fails_left refl h))))))))))

pub at_update : (n : ℕ) (ts new : List Lexeme) (r : Result Statement Fault) → kind_at ts ≡ Some (kind.Word w.Update) → Answers n (the update) update_of ts r new → Answers n (the statement) statement_of ts r new
at_update n ts new (Ok v) k =
    by_word (λ us. Gives n (the update) update_of us v new → Gives n (the statement) statement_of us v new) ts w.Update k
    (λ h. record { parse = node statement (right (right (right (right (right (right (right (right (right (left (h.parse))))))))))); reads = by_rule (second refl refl (second refl refl (second refl refl (second refl refl (second refl refl (second refl refl (second refl refl (second refl refl (second refl refl (first refl (h.reads))))))))))); means = h.means })
at_update n ts new (Err e) k =
    by_word (λ us. Fails n (the update) us e → Fails n (the statement) us e) ts w.Update k
    (λ h. fails_the statement (fails_right refl refl (fails_right refl refl (fails_right refl refl (fails_right refl refl (fails_right refl refl (fails_right refl refl (fails_right refl refl (fails_right refl refl (fails_right refl refl (fails_left refl h)))))))))))

pub at_deletion : (n : ℕ) (ts new : List Lexeme) (r : Result Statement Fault) → kind_at ts ≡ Some (kind.Word w.Delete) → Answers n (the deletion) deletion_of ts r new → Answers n (the statement) statement_of ts r new
at_deletion n ts new (Ok v) k =
    by_word (λ us. Gives n (the deletion) deletion_of us v new → Gives n (the statement) statement_of us v new) ts w.Delete k
    (λ h. record { parse = node statement (right (right (right (right (right (right (right (right (right (right (h.parse))))))))))); reads = by_rule (second refl refl (second refl refl (second refl refl (second refl refl (second refl refl (second refl refl (second refl refl (second refl refl (second refl refl (second refl refl (h.reads))))))))))); means = h.means })
at_deletion n ts new (Err e) k =
    by_word (λ us. Fails n (the deletion) us e → Fails n (the statement) us e) ts w.Delete k
    (λ h. fails_the statement (fails_right refl refl (fails_right refl refl (fails_right refl refl (fails_right refl refl (fails_right refl refl (fails_right refl refl (fails_right refl refl (fails_right refl refl (fails_right refl refl (fails_right refl refl (h))))))))))))

both_false : (a b : Bool) → a || b ≡ false → (a ≡ false) × (b ≡ false)
both_false true b e = cc
both_false false b e = (refl, e)

-- no statement begins there
pub fails_none : {n : ℕ} {ts : List Lexeme} {d : Fault} → begins_the statement ts ≡ false → d ≡ f.Unexpected (length ts) → Fails n (the statement) ts d
fails_none {ts = ts} e h = let i = both_false _ _ e in fails_the statement (fails_neither i.0 i.1 h)

-- no statement begins at the end
pub none_at_end : (ts : List Lexeme) → kind_at ts ≡ None → begins_the statement ts ≡ false
none_at_end [] k = refl
none_at_end (t ∷ ts) k = cc

-- nor at a token that is no keyword
pub none_at_other : (ts : List Lexeme) (k : TokenKind) → kind_at ts ≡ Some k → ((a : Word) → k ≡ kind.Word a → ⊥) → begins_the statement ts ≡ false
none_at_other ts kind.Name e other = rw (head_is ts kind.Name e) refl
none_at_other ts kind.Number e other = rw (head_is ts kind.Number e) refl
none_at_other ts kind.Text e other = rw (head_is ts kind.Text e) refl
none_at_other ts (kind.Mark m) e other = rw (head_is ts (kind.Mark m) e) refl
none_at_other ts (kind.Word a) e other = absurd (other a refl)

not_same : (a x : Word) → (a ≡ x → ⊥) → (b : Bool) → sameb word.the_type a x ≡ b → b ≡ false
not_same a x other true e = absurd (other (same_true word.the_type (search rules) a x e))
not_same a x other false e = refl

-- the next token is another keyword
pub other_word : (ts : List Lexeme) (a x : Word) → kind_at ts ≡ Some (kind.Word a) → (a ≡ x → ⊥) → sees (is_word x) ts ≡ false
other_word ts a x e other = rw (head_is ts (kind.Word a) e) (not_same a x other _ refl)
