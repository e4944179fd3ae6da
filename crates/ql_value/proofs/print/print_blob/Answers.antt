use Rattle.std.proofs.Common.{codes, true, refl}
use Rattle.ql_value.specs.Print.{quoted}
use Rattle.ql_value.proofs.Shown.{front_after, on_err}
use Rattle.ql_value.proofs.print.print_blob.Goals as goal

pub returns-in_err-print_quoted-clause-err : goal.returns-in_err-print_quoted-clause-err
returns-in_err-print_quoted-clause-err c =
    on_err _ _ (front_after c.args.out.now c.extend.new.self _ (codes "blob(") (quoted true c.args.bytes.now) (codes ")") _ c.in_ok-extend.ensures.ok c.in_err-print_quoted.ensures.err refl)
