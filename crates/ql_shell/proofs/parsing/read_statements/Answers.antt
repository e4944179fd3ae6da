use Rattle.std.proofs.Common.{◌≡◌, Ok, Err, sym, ap, ◌∙◌}
use Rattle.ql_print.proofs.ReadBack.{read_back_laws}
use Rattle.ql_shell.specs.Comes.{read, read_as}
use Rattle.ql_shell.specs.declared.status.Status.TheVariants.{Script}
use Rattle.ql_shell.proofs.Outcomes.{lexing_fault, parsing_fault, parsing_only, parsing_stopped}
use Rattle.ql_shell.proofs.parsing.read_statements.Goals as goal

pub returns-in-Err-clause-fault : goal.returns-in-Err-clause-fault
returns-in-Err-clause-fault c f e =
    let is : c.lexing_status.result ≡ Script f = cc in
    lexing_fault c.args.source.now c.in-Err.fault f c.requires c.in-Err.ensures.fault (sym c.lexing_status.ensures ∙ is)

pub returns-in-Ok-script-clause-read : goal.returns-in-Ok-script-clause-read
returns-in-Ok-script-clause-read c = read c.requires c.in-Ok.ensures.read c.in-Ok-script.ensures.read

pub returns-in-Ok-script-clause-only : goal.returns-in-Ok-script-clause-only
returns-in-Ok-script-clause-only c outcome comes =
    parsing_only c.args.source.now c.in-Ok.tokens (Ok c.in-Ok-script.statements) outcome c.requires c.in-Ok.ensures.only
    c.in-Ok-script.ensures.just_read c.in-Ok-script.ensures.just_unexpected c.in-Ok-script.ensures.just_nested comes

pub returns-in_ok-parsing_fault-in-Err-script-clause-fault : goal.returns-in_ok-parsing_fault-in-Err-script-clause-fault
returns-in_ok-parsing_fault-in-Err-script-clause-fault c f e =
    let is : c.in_ok-parsing_fault-in-Err-script.field-0 ≡ f = cc in
    let placed = c.in_ok-parsing_fault-in-Err-script.ensures c.in-Ok.tokens c.in-Ok.ensures.read in
    parsing_fault c.args.source.now c.in-Ok.tokens c.in-Err-script.fault f c.requires c.in-Ok.ensures.read
    (λ i same. c.in-Err-script.ensures.unexpected i (ap Err same)) (λ i same. c.in-Err-script.ensures.too_nested i (ap Err same)) (placed ∙ ap Script is)

pub returns-in_ok-parsing_fault-in-Err-script-clause-only : goal.returns-in_ok-parsing_fault-in-Err-script-clause-only
returns-in_ok-parsing_fault-in-Err-script-clause-only c outcome comes =
    parsing_stopped c.args.source.now c.in-Ok.tokens c.in-Err-script.fault c.in_ok-parsing_fault-in-Err-script.field-0 (read_as outcome)
    (c.in_ok-parsing_fault-in-Err-script.ensures c.in-Ok.tokens c.in-Ok.ensures.read)
    (parsing_only c.args.source.now c.in-Ok.tokens (Err c.in-Err-script.fault) outcome c.requires c.in-Ok.ensures.only
    c.in-Err-script.ensures.just_read c.in-Err-script.ensures.just_unexpected c.in-Err-script.ensures.just_nested comes)

pub returns-in-Ok-script-clause-read_back : goal.returns-in-Ok-script-clause-read_back
returns-in-Ok-script-clause-read_back c = read_back_laws.statements c.args.source.now c.in-Ok.tokens c.in-Ok-script.statements c.in-Ok.ensures.read c.in-Ok-script.ensures.read
