use Rattle.std.proofs.Common.{Some, Ok, Err, refl, ap, ◌∙◌}
use Rattle.ql_lex.specs.declared.token.TokenKind.TheVariants as kind
use Rattle.ql_lex.specs.declared.words.Word.TheVariants as w
use Rattle.ql_syntax.specs.declared.statement.Statement.TheVariants as s
use Rattle.ql_cursor.proofs.StepLemmas.{exits}
use Rattle.ql_parse.proofs.DispatchLemmas.{other_word, fails_none, at_begin, at_commit, at_rollback, at_query, at_creation, at_removal, at_alteration, at_truncation, at_insertion, at_update, at_deletion}
use Rattle.ql_parse.proofs.statement.statement_by_word.Goals as goal

pub returns-in-Begin : goal.returns-in-Begin
returns-in-Begin c = at_begin c.args.room c.args.cursor.now c.begin.new.cursor c.begin.result (c.requires.next ∙ ap (λ a. Some (kind.Word a)) c.in-Begin.is) (c.begin.ensures c.args.room)

pub returns-in-Create : goal.returns-in-Create
returns-in-Create c = at_creation c.args.room c.args.cursor.now c.creation.new.cursor c.creation.result (c.requires.next ∙ ap (λ a. Some (kind.Word a)) c.in-Create.is) c.creation.ensures

pub returns-in-Drop : goal.returns-in-Drop
returns-in-Drop c = at_removal c.args.room c.args.cursor.now c.removal.new.cursor c.removal.result (c.requires.next ∙ ap (λ a. Some (kind.Word a)) c.in-Drop.is) (c.removal.ensures c.args.room)

pub returns-in-Alter : goal.returns-in-Alter
returns-in-Alter c = at_alteration c.args.room c.args.cursor.now c.alteration.new.cursor c.alteration.result (c.requires.next ∙ ap (λ a. Some (kind.Word a)) c.in-Alter.is) c.alteration.ensures

pub returns-in-Truncate : goal.returns-in-Truncate
returns-in-Truncate c = at_truncation c.args.room c.args.cursor.now c.truncation.new.cursor c.truncation.result (c.requires.next ∙ ap (λ a. Some (kind.Word a)) c.in-Truncate.is) (c.truncation.ensures c.args.room)

pub returns-in-Insert : goal.returns-in-Insert
returns-in-Insert c = at_insertion c.args.room c.args.cursor.now c.insertion.new.cursor c.insertion.result (c.requires.next ∙ ap (λ a. Some (kind.Word a)) c.in-Insert.is) c.insertion.ensures

pub returns-in-Update : goal.returns-in-Update
returns-in-Update c = at_update c.args.room c.args.cursor.now c.update.new.cursor c.update.result (c.requires.next ∙ ap (λ a. Some (kind.Word a)) c.in-Update.is) c.update.ensures

pub returns-in-Delete : goal.returns-in-Delete
returns-in-Delete c = at_deletion c.args.room c.args.cursor.now c.deletion.new.cursor c.deletion.result (c.requires.next ∙ ap (λ a. Some (kind.Word a)) c.in-Delete.is) c.deletion.ensures

pub returns-in-Commit : goal.returns-in-Commit
returns-in-Commit c = at_commit _ _ _ (c.requires.next ∙ ap (λ a. Some (kind.Word a)) c.in-Commit.is) c.skip.ensures

pub returns-in-Rollback : goal.returns-in-Rollback
returns-in-Rollback c = at_rollback _ _ _ (c.requires.next ∙ ap (λ a. Some (kind.Word a)) c.in-Rollback.is) c.skip-in-Rollback.ensures

pub returns-in_err-parse_boxed_select-in-Select : goal.returns-in_err-parse_boxed_select-in-Select
returns-in_err-parse_boxed_select-in-Select c = exits _ _ _ _ c.from_residual.ensures.1
    (at_query c.args.room c.args.cursor.now c.parse_boxed_select.new.cursor (Err c.in_err-parse_boxed_select-in-Select.field-0.0) (c.requires.next ∙ ap (λ a. Some (kind.Word a)) c.in-Select.is) c.in_err-parse_boxed_select-in-Select.ensures)

pub returns-in_ok-parse_boxed_select-in-Select : goal.returns-in_ok-parse_boxed_select-in-Select
returns-in_ok-parse_boxed_select-in-Select c =
    at_query c.args.room c.args.cursor.now c.parse_boxed_select.new.cursor (Ok (s.Query c.in_ok-parse_boxed_select-in-Select.field-0)) (c.requires.next ∙ ap (λ a. Some (kind.Word a)) c.in-Select.is)
    (record { parse = c.in_ok-parse_boxed_select-in-Select.ensures.parse; reads = c.in_ok-parse_boxed_select-in-Select.ensures.reads; means = ap s.Query c.in_ok-parse_boxed_select-in-Select.ensures.means })

pub returns-in_default : goal.returns-in_default
returns-in_default c =
    fails_none (rw (
      other_word c.args.cursor.now c.args.word w.Begin c.requires.next c.in_default.not-Begin,
      other_word c.args.cursor.now c.args.word w.Commit c.requires.next c.in_default.not-Commit,
      other_word c.args.cursor.now c.args.word w.Rollback c.requires.next c.in_default.not-Rollback,
      other_word c.args.cursor.now c.args.word w.Select c.requires.next c.in_default.not-Select,
      other_word c.args.cursor.now c.args.word w.Create c.requires.next c.in_default.not-Create,
      other_word c.args.cursor.now c.args.word w.Drop c.requires.next c.in_default.not-Drop,
      other_word c.args.cursor.now c.args.word w.Alter c.requires.next c.in_default.not-Alter,
      other_word c.args.cursor.now c.args.word w.Truncate c.requires.next c.in_default.not-Truncate,
      other_word c.args.cursor.now c.args.word w.Insert c.requires.next c.in_default.not-Insert,
      other_word c.args.cursor.now c.args.word w.Update c.requires.next c.in_default.not-Update,
      other_word c.args.cursor.now c.args.word w.Delete c.requires.next c.in_default.not-Delete,
    ) refl) c.unexpected.ensures
