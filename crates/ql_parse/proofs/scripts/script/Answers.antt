use Rattle.std.proofs.Common.{◌≡◌, sym, ◌∙◌, length}
use Rattle.ql_lex.proofs.PlaceLemmas.{whole_in}
use Rattle.ql_parse.specs.declared.fault.ParseFault.TheVariants as p
use Rattle.ql_syntax.specs.Lexemes.{lexemes}
use Rattle.ql_cursor.specs.Parses.{Gives, Fails}
use Rattle.ql_syntax.specs.Rules as rule
use Rattle.ql_syntax.specs.Scripts.{limit}
use Rattle.ql_syntax.specs.Statements.{statements_of}
use Rattle.ql_parse.proofs.ScriptLemmas.{script_laws, is_read, is_unexpected, is_nested, ok_just_read, ok_no_stop, err_just_read, err_just_unexpected, err_just_nested, counted}
use Rattle.ql_parse.proofs.scripts.script.Goals as goal

pub new-cursor-requires : goal.new-cursor-requires
new-cursor-requires c = λ k d i. whole_in c.args.source.now c.args.tokens c.requires k d i

given : (c : goal.After-drop-cursor-inside) → Gives limit rule.script statements_of (lexemes c.args.source.now c.args.tokens) c.in-Ok.found c.statements.new.cursor
given c = rw c.new-cursor.ensures at c.in-Ok.ensures

pub returns-in-Ok-clause-read : goal.returns-in-Ok-clause-read
returns-in-Ok-clause-read c = is_read (given c)

pub returns-in-Ok-clause-just_read : goal.returns-in-Ok-clause-just_read
returns-in-Ok-clause-just_read c rs k = ok_just_read (given c) rs k

pub returns-in-Ok-clause-just_unexpected : goal.returns-in-Ok-clause-just_unexpected
returns-in-Ok-clause-just_unexpected c i k = absurd (ok_no_stop (given c) k.stops)

pub returns-in-Ok-clause-just_nested : goal.returns-in-Ok-clause-just_nested
returns-in-Ok-clause-just_nested c i k = absurd (ok_no_stop (given c) k.stops)

pub returns-in-Ok-clause-laws : goal.returns-in-Ok-clause-laws
returns-in-Ok-clause-laws c = script_laws

failed : (c : goal.After-drop-cursor-inside-2) → Fails limit rule.script (lexemes c.args.source.now c.args.tokens) c.in-Err.fault
failed c = rw c.new-cursor.ensures at c.in-Err.ensures

count : (c : goal.After-drop-cursor-inside-2) → c.len-count.result ≡ length (lexemes c.args.source.now c.args.tokens)
count c = c.len-count.ensures ∙ counted c.args.source.now c.args.tokens

pub returns-clause-unexpected : goal.returns-clause-unexpected
returns-clause-unexpected c i e =
    let same : c.parse_fault.result ≡ p.Unexpected i = cc in
    is_unexpected c.len-count.result i c.in-Err.fault (count c) (failed c) (sym c.parse_fault.ensures ∙ same)

pub returns-clause-too_nested : goal.returns-clause-too_nested
returns-clause-too_nested c i e =
    let same : c.parse_fault.result ≡ p.TooNested i = cc in
    is_nested c.len-count.result i c.in-Err.fault (count c) (failed c) (sym c.parse_fault.ensures ∙ same)

pub returns-clause-just_read : goal.returns-clause-just_read
returns-clause-just_read c rs k = rw c.parse_fault.ensures (err_just_read c.len-count.result c.in-Err.fault (failed c) rs k)

pub returns-clause-just_unexpected : goal.returns-clause-just_unexpected
returns-clause-just_unexpected c i k = rw c.parse_fault.ensures (err_just_unexpected c.len-count.result c.in-Err.fault (count c) (failed c) i k)

pub returns-clause-just_nested : goal.returns-clause-just_nested
returns-clause-just_nested c i k = rw c.parse_fault.ensures (err_just_nested c.len-count.result c.in-Err.fault (count c) (failed c) i k)

pub returns-clause-laws : goal.returns-clause-laws
returns-clause-laws c = script_laws
