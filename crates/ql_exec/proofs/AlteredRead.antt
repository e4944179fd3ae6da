-- A table with a column more or less is read as itself, where its columns have no expressions.
use Rattle.std.proofs.Common.{◌≡◌, ℕ, zero, suc, ◌+◌, ◌<◌, true, false, List, [], ◌∷◌, ◌++◌, length, remove, subst, arith, length-append}
use Rattle.std.proofs.Math.Logic.{∥∥₁_map}
use Rattle.std.proofs.lemmas.List.Edits.{length-remove}
use Rattle.std.proofs.lemmas.List.Elements.{All-nil, All-cons, All-append}
use Rattle.std.specs.Prelude.{All}
use Rattle.std.specs.List.{list_all}
use Rattle.ql_syntax.specs.declared.statement.ColumnDef.{ColumnDef}
use Rattle.ql_syntax.specs.declared.statement.Statement.{Statement}
use Rattle.ql_syntax.specs.declared.statement.Statement.TheVariants as s
use Rattle.ql_syntax.specs.Ink.{text_of}
use Rattle.ql_syntax.specs.Lexemes.{Lexeme, lexemes}
use Rattle.ql_syntax.specs.Readings.{Parse, Reads}
use Rattle.ql_syntax.specs.Readings as r
use Rattle.ql_syntax.specs.ReadsBack.{IsReadBack}
use Rattle.ql_syntax.specs.Rules.{the, column}
use Rattle.ql_syntax.specs.Scripts.{limit}
use Rattle.ql_syntax.specs.StatementPrinting.{ink_of_statement}
use Rattle.ql_syntax.specs.Statements.{IsRead, column_of}
use Rattle.ql_syntax.specs.StoredParts.{inner_limit, WasRead, ArePartsKept, MadeReadBack, PartsReadBack}
use Rattle.ql_rel.specs.declared.schema.TableSchema.{TableSchema}
use Rattle.ql_rel.specs.CreatePlans.{takes_all}
use Rattle.ql_rel.specs.Creates.{create_table}
use Rattle.ql_rel.specs.WellFormed.{ReadingOf, IsReadAsItself}
use Rattle.ql_rel.proofs.AlteredColumns.{all_more, all_less}
use Rattle.ql_rel.proofs.ColumnForms.{wider}
use Rattle.ql_rel.proofs.NarrowForms.{narrower}
use Rattle.ql_exec.proofs.ReadBack.{plain_same, plain_columns}

-- a column without expressions is read whatever room for brackets there is
plain_read : {n m : ℕ} {ts rest : List Lexeme} {a : Parse} → Reads n (the column) ts a rest → takes_all (column_of a) ≡ true → Reads m (the column) ts a rest
plain_read (r.by_rule (r.both (r.takes s) (r.both (r.takes k) (r.both (r.left_out e) (r.left_out d))))) h = r.by_rule (r.both (r.takes s) (r.both (r.takes k) (r.both (r.left_out e) (r.left_out d))))
plain_read (r.by_rule (r.both (r.takes s) (r.both (r.takes k) (r.both (r.left_out e) (r.entered d (r.both i j)))))) h = absurd (cc)
plain_read (r.by_rule (r.both (r.takes s) (r.both (r.takes k) (r.both (r.entered e (r.first f i)) d)))) h = absurd (cc)
plain_read (r.by_rule (r.both (r.takes s) (r.both (r.takes k) (r.both (r.entered e (r.second f g i)) d)))) h = absurd (cc)

abbrev WasColumn : ColumnDef → Type 0
WasColumn c = WasRead (the column) column_of inner_limit c

inner_read : (c : ColumnDef) → takes_all c ≡ true → WasRead (the column) column_of limit c → WasColumn c
inner_read c h w = record {
  source = w.source;
  tokens = w.tokens;
  lexed = w.lexed;
  front = w.front;
  here = w.here;
  place = w.place;
  parse = w.parse;
  rest = w.rest;
  reads = plain_read w.reads (subst (λ (x : ColumnDef). takes_all x ≡ true) w.tree h);
  tree = w.tree;
}

-- the column of an ALTER TABLE ADD was read
column_was : PartsReadBack → (name : List ℕ) (c : ColumnDef) → takes_all c ≡ true → IsReadBack (s.AddColumn name c) → WasColumn c
column_was parts name c h r =
    let statement : Statement = s.AddColumn name c in
    let text = text_of (ink_of_statement statement) in
    let read : IsRead (lexemes text r.tokens) (statement ∷ []) = subst (λ (x : ColumnDef). IsRead (lexemes text r.tokens) (s.AddColumn name x ∷ [])) (plain_same c h) r.read in
    let kept : ArePartsKept statement = parts text r.tokens (statement ∷ []) r.lexed read 0 statement (omega arith) in
    inner_read c h kept.1.was_read

-- a table with other columns that were read
remade : PartsReadBack → MadeReadBack → (name : List ℕ) (cs ds : List ColumnDef) → 0 < length ds → list_all takes_all ds ≡ true → (All WasColumn cs → All WasColumn ds) → ReadingOf (s.CreateTable false name cs) → ReadingOf (s.CreateTable false name ds)
remade parts made name cs [] some plain k r = absurd (omega (arith, some))
remade parts made name cs (x ∷ xs) some plain k r =
    let statement : Statement = s.CreateTable false name cs in
    let text = text_of (ink_of_statement statement) in
    let kept : ArePartsKept statement = parts text r.tokens (statement ∷ []) r.lexed r.read 0 statement (omega arith) in
    let back : IsReadBack (s.CreateTable false name (x ∷ xs)) = made.tables false name x xs kept.0 (k (λ j d l. (kept.1 j d l).was_read)) in
    record {
      tokens = back.tokens;
      lexed = back.lexed;
      read = subst (λ (ys : List ColumnDef). IsRead (lexemes (text_of (ink_of_statement (s.CreateTable false name (x ∷ xs)))) back.tokens) (s.CreateTable false name ys ∷ [])) (plain_columns (x ∷ xs) plain) back.read;
    }

pub wider_read : PartsReadBack → MadeReadBack → (name : List ℕ) (c : ColumnDef) (t : TableSchema) → takes_all c ≡ true → list_all takes_all t.columns ≡ true → IsReadBack (s.AddColumn name c) → IsReadAsItself (create_table t) → IsReadAsItself (create_table (wider c t))
wider_read parts made name c t h plain r w =
    let long : length (t.columns ++ c ∷ []) ≡ length t.columns + 1 = length-append t.columns (c ∷ []) in
    let new = column_was parts name c h r in
    ∥∥₁_map w (remade parts made t.name t.columns (t.columns ++ c ∷ []) (omega (arith, long)) (all_more takes_all t.columns c plain h)
    (λ old. All-append WasColumn t.columns (c ∷ []) old (All-cons WasColumn c [] new (All-nil WasColumn))))

fewer_all : (P : ColumnDef → Type 0) (k : ℕ) (xs : List ColumnDef) → All P xs → All P (remove xs k)
fewer_all P zero [] h = h
fewer_all P (suc k) [] h = h
fewer_all P zero (x ∷ xs) h = λ j d l. h (suc j) d (omega (arith, l))
fewer_all P (suc k) (x ∷ xs) h = All-cons P x (remove xs k) (h 0 x (omega arith)) (fewer_all P k xs (λ j d l. h (suc j) d (omega (arith, l))))

pub narrower_read : PartsReadBack → MadeReadBack → (k : ℕ) (t : TableSchema) → k < length t.columns → 1 < length t.columns → list_all takes_all t.columns ≡ true → IsReadAsItself (create_table t) → IsReadAsItself (create_table (narrower k t))
narrower_read parts made k t l m plain w =
    let one = length-remove t.columns k l in
    ∥∥₁_map w (remade parts made t.name t.columns (remove t.columns k) (omega (arith, one, m)) (all_less takes_all k t.columns plain) (fewer_all WasColumn k t.columns))
