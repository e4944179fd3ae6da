use Rattle.std.proofs.Common.{◌≡◌, ◌++◌, take, arith}
use Rattle.std.proofs.lemmas.Grind.{common_steps}
use Rattle.ql_value.specs.Print.{shown_bytes}
use Rattle.ql_value.proofs.Shown.{front_of, on_err}
use Rattle.ql_value.proofs.print.print_run.Goals as goal

pub returns-in_err-print_byte-clause-err : goal.returns-in_err-print_byte-clause-err
returns-in_err-print_byte-clause-err c =
    let added : c.print_byte.new.out ≡ c.args.out.now ++ shown_bytes c.args.in_blob (take c.plain_front-plain.result c.args.bytes.now) = grind (arith, common_steps) in
    on_err _ _ (front_of c.args.in_blob c.args.bytes.now c.args.out.now _ c.plain_front-plain.result added)
