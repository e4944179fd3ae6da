-- What the parts of statements mean.
use Rattle.std.proofs.Common.{◌≡◌, ℕ, Bool, true, false, ◌&&◌, List, [], ◌∷◌, drop, refl, ap}
use Rattle.std.specs.Prelude.{Option}
use Rattle.ql_value.specs.declared.value.Kind.{Kind}
use Rattle.ql_syntax.specs.declared.statement.ColumnDef.{ColumnDef}
use Rattle.ql_syntax.specs.declared.syntax.Expr.{Expr}
use Rattle.ql_syntax.specs.Lexemes.{Lexeme, sees, sees_two}
use Rattle.ql_syntax.specs.Trees.{name_of}
use Rattle.ql_lex.specs.declared.words.Word.{Word}
use Rattle.ql_syntax.specs.Rules.{item_rule, creation, removal, alteration, before, bracketed}
use Rattle.ql_cursor.specs.Parses.{Gives, no_value}
use Rattle.ql_syntax.specs.Readings.{Parse, Reads, leaf, takes_before, pair, left, right, group, node, both, first, second, enclosed}
use Rattle.ql_parse.specs.StatementParts.{one_item_of, table_rule, table_of, index_rule, index_of, table_or_index_rule, table_or_index_of, quiet_rule, quiet_of, change_rule, change_of}
use Rattle.ql_syntax.specs.Statements.{item_of, creation_of, removal_of, alteration_of}
use Rattle.ql_syntax.specs.declared.statement.Assign.{Assign}
use Rattle.ql_syntax.specs.declared.statement.Item.{Item}
use Rattle.ql_syntax.specs.declared.statement.RowSource.{RowSource}
use Rattle.ql_syntax.specs.declared.statement.Statement.TheVariants as s

-- equal parts make equal columns
pub same_column : {n n' : List ℕ} {k k' : Kind} {b b' : Bool} {r r' d d' : Option Expr} → n ≡ n' → k ≡ k' → ◌≡◌ {A = Bool × Option Expr} (b, r) (b', r') → d ≡ d'
    → ◌≡◌ {A = ColumnDef} (record { name = n; kind = k; not_null = b; rule = r; default = d }) (record { name = n'; kind = k'; not_null = b'; rule = r'; default = d' })
same_column e f g h =
    let first = ap (λ (x : Bool × Option Expr). x.0) g in
    let second = ap (λ (x : Bool × Option Expr). x.1) g in
    rw (e, f, first, second, h) refl

-- what an index orders by, in its brackets
pub item_tree : {n : ℕ} {ts rest : List Lexeme} {a : Parse} → Reads n item_rule ts a rest → one_item_of a ≡ item_of (group a)
item_tree (first e h) = refl
item_tree (second f e h) = refl

-- the columns of a table, in their brackets
pub table_tree : {n : ℕ} {ts rest : List Lexeme} {a : Parse} (k : Parse) → Reads n table_rule ts a rest → table_of a ≡ creation_of (node creation (pair k (left a)))
table_tree k (both h (both i (both j (enclosed o l c)))) = refl

pub index_tree : {n : ℕ} {ts rest : List Lexeme} {a : Parse} (k : Parse) → Reads n index_rule ts a rest → index_of a ≡ creation_of (node creation (pair k (right a)))
index_tree k (both h (both i (both j (both l (both m (both o p)))))) = refl

-- what CREATE makes
pub table_or_index_tree : {n : ℕ} {ts rest : List Lexeme} (k : Parse) (a : Parse) → Reads n table_or_index_rule ts a rest → table_or_index_of a ≡ creation_of (node creation (pair k a))
table_or_index_tree k _ (first e h) = table_tree k h
table_or_index_tree k _ (second f e h) = index_tree k h

-- equal parts make equal statements
pub same_table : {b b' : Bool} {n n' : List ℕ} {xs xs' : List ColumnDef} → b ≡ b' → n ≡ n' → xs ≡ xs' → s.CreateTable b n xs ≡ s.CreateTable b' n' xs'
same_table e f g = rw (e, f, g) refl

pub same_index : {u u' b b' : Bool} {n n' t t' : List ℕ} {i i' : Item} → u ≡ u' → b ≡ b' → n ≡ n' → ◌≡◌ {A = List ℕ × Item} (t, i) (t', i')
    → s.CreateIndex u b n t i ≡ s.CreateIndex u' b' n' t' i'
same_index e f g h =
    let first = ap (λ (x : List ℕ × Item). x.0) h in
    let second = ap (λ (x : List ℕ × Item). x.1) h in
    rw (e, f, g, first, second) refl

pub enclosed_item : {n : ℕ} {ts rest : List Lexeme} {a : Parse} → Reads n (bracketed item_rule) ts (group a) rest → one_item_of a ≡ item_of (group a)
enclosed_item (enclosed o h c) = item_tree h

and_both : (a b : Bool) → a && b ≡ true → (a ≡ true) × (b ≡ true)
and_both true b e = (refl, e)
and_both false b e = cc

-- a token that was seen before another is taken
pub taken_before : (n : ℕ) {test next : Lexeme → Bool} {old new : List Lexeme} → sees_two test next old ≡ true → new ≡ drop 1 old → Gives n (before test next) no_value old tt new
taken_before n {old = []} e d = cc
taken_before n {test = test} {next = next} {old = t ∷ ts} e d =
    let both = and_both (test t) (sees next ts) e in
    rw d (record { parse = leaf t; reads = takes_before both.0 both.1; means = refl })

-- what DROP takes away
pub dropped_table : {n : ℕ} {ts rest : List Lexeme} {a : Parse} {quiet : Bool} {table : List ℕ} (w : Word) (k : Parse) → Reads n (quiet_rule w) ts a rest
    → ◌≡◌ {A = Bool × List ℕ} (quiet, table) (quiet_of a) → s.DropTable quiet table ≡ removal_of (node removal (pair k (left a)))
dropped_table w k (both h (both i j)) e = ap (λ (x : Bool × List ℕ). s.DropTable x.0 x.1) e

pub dropped_index : {n : ℕ} {ts rest : List Lexeme} {a : Parse} {quiet : Bool} {index : List ℕ} (w : Word) (k : Parse) → Reads n (quiet_rule w) ts a rest
    → ◌≡◌ {A = Bool × List ℕ} (quiet, index) (quiet_of a) → s.DropIndex quiet index ≡ removal_of (node removal (pair k (right a)))
dropped_index w k (both h (both i j)) e = ap (λ (x : Bool × List ℕ). s.DropIndex x.0 x.1) e

-- what ALTER changes
pub change_tree : {n : ℕ} {ts rest : List Lexeme} {table : List ℕ} (k k' t : Parse) → table ≡ name_of t → (a : Parse) → Reads n change_rule ts a rest
    → change_of table a ≡ alteration_of (node alteration (pair k (pair k' (pair t a))))
change_tree k k' t e _ (first f (both h i)) = rw e refl
change_tree k k' t e _ (second f g (both h (both i j))) = rw e refl

-- equal parts make equal statements
pub same_insert : {t t' : List ℕ} {cs cs' : List (List ℕ)} {r r' : RowSource} → t ≡ t' → cs ≡ cs' → r ≡ r' → s.Insert t cs r ≡ s.Insert t' cs' r'
same_insert e f g = rw (e, f, g) refl

pub same_assign : {c c' : List ℕ} {v v' : Expr} → c ≡ c' → v ≡ v' → ◌≡◌ {A = Assign} (record { column = c; value = v }) (record { column = c'; value = v' })
same_assign e f = rw (e, f) refl

pub same_update : {t t' : List ℕ} {xs xs' : List Assign} {w w' : Option Expr} → t ≡ t' → xs ≡ xs' → w ≡ w' → s.Update t xs w ≡ s.Update t' xs' w'
same_update e f g = rw (e, f, g) refl

pub same_delete : {t t' : List ℕ} {w w' : Option Expr} → t ≡ t' → w ≡ w' → s.Delete t w ≡ s.Delete t' w'
same_delete e f = rw (e, f) refl
