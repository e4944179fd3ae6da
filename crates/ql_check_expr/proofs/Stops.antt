-- A refusal of a later part, behind parts that are known.
use Rattle.std.proofs.Common.{◌≡◌, Result, Ok, Err, sym, subst, ap}
use Rattle.std.specs.Prelude.{IsErrAnd}
use Rattle.ql_syntax.specs.Answers.{Answer, then_with}
use Rattle.ql_check_expr.specs.declared.fault.CheckFault.{CheckFault}
use Rattle.ql_check_expr.specs.declared.fault.CheckFault.TheVariants as fault
use Rattle.ql_check_expr.specs.Gives.{Gives}

through : {C D : Type 0} (a : Answer C) (h : C → Answer D) (f : CheckFault) → Gives a (Err f) → Gives (then_with a h) (Err f)
through a h (fault.Refused r) e = ap (λ z. then_with z h) e
through a h fault.NoMemory e = tt

same_fault : {D : Type 0} (a : Answer D) (f : CheckFault) (r : Result D CheckFault) → Gives a (Err f) → IsErrAnd r (λ g. g ≡ f) → Gives a r
same_fault a f (Ok y) e i = absurd i
same_fault a f (Err g) e i = subst (λ z. Gives a (Err z)) (sym i) e

pub third : {A B C D : Type 0} (a : Answer A) (b : A → Answer B) (c : A → B → Answer C) (d : A → B → C → Answer D) (x : A) (y : B) (f : CheckFault) (r : Result D CheckFault) → a ≡ Ok x → b x ≡ Ok y → Gives (c x y) (Err f) → IsErrAnd r (λ g. g ≡ f) → Gives (then_with a (λ u. then_with (b u) (λ v. then_with (c u v) (d u v)))) r
third a b c d x y f r e g h i =
    subst (λ z. Gives (then_with z (λ u. then_with (b u) (λ v. then_with (c u v) (d u v)))) r) (sym e)
    (subst (λ z. Gives (then_with z (λ v. then_with (c x v) (d x v))) r) (sym g) (same_fault (then_with (c x y) (d x y)) f r (through (c x y) (d x y) f h) i))
