-- Every expression and every SELECT is read again, whatever room for brackets there is.
use Rattle.std.proofs.Common.{ℕ, zero, suc}
use Rattle.ql_print.proofs.BackPrimaries.{ExprsAgain, SelectsAgain, Inner}
use Rattle.ql_print.proofs.BackChains.{back_expr}
use Rattle.ql_print.proofs.BackSelects.{back_select}

outer : {n : ℕ} → Inner n → ExprsAgain n × SelectsAgain n
outer inner = (record { again = back_expr inner }, record { again = back_select inner })

pub inner_again : (n : ℕ) → Inner n
inner_again zero = tt
inner_again (suc n) = outer (inner_again n)

pub exprs_again : (n : ℕ) → ExprsAgain n
exprs_again n = (outer (inner_again n)).0

pub selects_again : (n : ℕ) → SelectsAgain n
selects_again n = (outer (inner_again n)).1
