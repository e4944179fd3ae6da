-- What `id` of one part comes to.
use Rattle.std.proofs.Common.{◌≡◌, ℕ, List, [], Option, Some, None, Result, Ok, Err, sym, subst, ap}
use Rattle.std.specs.Prelude.{IsErrAnd}
use Rattle.ql_value.specs.declared.refusal.TheConstants.{TYPE}
use Rattle.ql_syntax.specs.Answers.{Answer, then_with, refused}
use Rattle.ql_syntax.specs.declared.checked.Checked.{Checked}
use Rattle.ql_syntax.specs.declared.scope.Scope.{Scope}
use Rattle.ql_syntax.specs.Scopes.{id_place_of}
use Rattle.ql_syntax.specs.Resolving.{at_place, id_of_part}
use Rattle.ql_check_expr.specs.declared.fault.CheckFault.{CheckFault}
use Rattle.ql_check_expr.specs.declared.fault.CheckFault.TheVariants as fault
use Rattle.ql_check_expr.specs.Gives.{Gives}

-- a name
pub id_named : (s : Scope) (x : Option (List ℕ)) (name : List ℕ) (a : Answer Checked) (r : Result Checked CheckFault) → x ≡ Some name → Gives (at_place (id_place_of s name)) r → Gives (id_of_part s x a) r
id_named s x name a r e h = subst (λ z. Gives (id_of_part s z a) r) (sym e) h

-- a part that is refused itself
part_refused : (a : Answer Checked) (f : CheckFault) → Gives a (Err f) → Gives (then_with a (λ c. refused {A = Checked} TYPE)) (Err f)
part_refused a (fault.Refused r) h = ap (λ z. then_with z (λ c. refused {A = Checked} TYPE)) h
part_refused a fault.NoMemory h = tt

pub id_of_refused : (s : Scope) (x : Option (List ℕ)) (a : Answer Checked) (f : CheckFault) → x ≡ None → Gives a (Err f) → Gives (id_of_part s x a) (Err f)
id_of_refused s x a f e h = subst (λ z. Gives (id_of_part s z a) (Err f)) (sym e) (part_refused a f h)

-- another part
pub id_of_other : (s : Scope) (x : Option (List ℕ)) (a : Answer Checked) (c : Checked) (f : CheckFault) → x ≡ None → a ≡ Ok c → f ≡ fault.Refused (record { number = TYPE; name = [] }) → Gives (id_of_part s x a) (Err f)
id_of_other s x a c f e h k =
    subst (λ z. Gives (id_of_part s x a) (Err z)) (sym k)
    (subst (λ z. id_of_part s z a ≡ refused {A = Checked} TYPE) (sym e) (ap (λ z. then_with z (λ c. refused {A = Checked} TYPE)) h))

pub id_of_fault : (s : Scope) (x : Option (List ℕ)) (a : Answer Checked) (f : CheckFault) (r : Result Checked CheckFault) → x ≡ None → Gives a (Err f) → IsErrAnd r (λ g. g ≡ f) → Gives (id_of_part s x a) r
id_of_fault s x a f (Ok c) e h i = absurd i
id_of_fault s x a f (Err g) e h i = subst (λ z. Gives (id_of_part s x a) (Err z)) (sym i) (id_of_refused s x a f e h)
