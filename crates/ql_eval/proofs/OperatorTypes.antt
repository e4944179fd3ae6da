-- Operators on values of their operands' types.
use Rattle.std.proofs.Common.{◌≡◌, ◌≢◌, ℤ, pos, Bool, true, false, ◌||◌, ◌==◌, not, int_lt, unsigned_abs, if◌then◌else◌, Result, Ok, Err, IfOk, refl, sym, subst, ◌∙◌}
use Rattle.ql_value.specs.declared.fault.ValueFault.{ValueFault}
use Rattle.ql_value.specs.declared.fault.ValueFault.TheVariants as fault
use Rattle.ql_value.specs.declared.operator.BinOp.{BinOp}
use Rattle.ql_value.specs.declared.operator.BinOp.TheVariants as op
use Rattle.ql_value.specs.declared.value.Kind.{Kind}
use Rattle.ql_value.specs.declared.value.Kind.TheVariants as k
use Rattle.ql_value.specs.declared.value.Value.{Value}
use Rattle.ql_value.specs.declared.value.Value.TheVariants as v
use Rattle.ql_value.specs.Number.{HasKind}
use Rattle.ql_value.specs.Arith.{on_numbers}
use Rattle.ql_value.proofs.KindLaws.{the_kind_laws}
use Rattle.ql_value.specs.Kinds.{is_integer, is_truth, is_text}
use Rattle.ql_syntax.specs.Values.{Outcome, gives, refuses, means_nothing, then_from, outcome_of, calculated, comparison, both, either, operated, decides, linked}
use Rattle.ql_syntax.specs.declared.typing.Typing.{Typing}
use Rattle.ql_syntax.specs.declared.typing.Typing.TheVariants.{OnlyNull, OfKind, Ill}
use Rattle.ql_syntax.specs.Typing.{IsTyped, HasType, among, given_type, meet, truth_of, operator_type}
use Rattle.ql_eval.proofs.TypeLemmas.{Passes, AreBoth, among_passes, among_typed, given_parts, null_has, meet_both, pair_typed, meet_typed}
use Rattle.ql_eval.proofs.Sorts.{IsNumber, IsTruth, IsText, number_value, truth_value, text_value}

-- the outcome is a refusal, or a value of the type
abbrev pub Comes : Typing → Outcome → Type 0
Comes t (gives x) = HasType t x
Comes t (refuses _) = Unit {0}
Comes t means_nothing = ⊥

pub then_comes : (s t : Typing) (a : Outcome) (f : Value → Outcome) → Comes s a → ((x : Value) → HasType s x → Comes t (f x)) → Comes t (then_from a f)
then_comes s t (gives x) f h g = g x h
then_comes s t (refuses _) f h g = tt
then_comes s t means_nothing f h g = absurd h

-- no operator of arithmetic on numbers lacks memory
no_lack_if : (b : Bool) (e : ValueFault) (r : Result Value ValueFault) → e ≢ fault.NoMemory → r ≢ Err fault.NoMemory → (if b then Err e else r) ≢ Err fault.NoMemory
no_lack_if true e r h g = λ same. h (cc)
no_lack_if false e r h g = g

no_lack_numbers : (o : BinOp) (kind : Kind) (a b : ℤ) → on_numbers o kind a b ≢ Err fault.NoMemory
no_lack_numbers op.Div kind a b = no_lack_if (unsigned_abs b == 0) fault.Divide _ (λ e. cc) (λ e. cc)
no_lack_numbers op.Rem kind a b = no_lack_if (unsigned_abs b == 0) fault.Divide _ (λ e. cc) (λ e. cc)
no_lack_numbers op.Shl kind a b = no_lack_if (int_lt b (pos 0)) fault.NegativeCount _ (λ e. cc) (λ e. cc)
no_lack_numbers op.Shr kind a b = no_lack_if (int_lt b (pos 0)) fault.NegativeCount _ (λ e. cc) (λ e. cc)
no_lack_numbers _ kind a b = λ e. cc

-- what an outcome of kind is
pub comes_of : (kind : Kind) (r : Result Value ValueFault) → r ≢ Err fault.NoMemory → IfOk r (HasKind kind) → Comes (OfKind kind) (outcome_of r)
comes_of kind (Ok x) n h = h
comes_of kind (Err fault.Divide) n h = tt
comes_of kind (Err fault.Range) n h = tt
comes_of kind (Err fault.NegativeCount) n h = tt
comes_of kind (Err fault.NoMemory) n h = absurd (n refl)

pub numbers_come : (o : BinOp) (kind : Kind) (a b : ℤ) → IfOk (on_numbers o kind a b) (HasKind kind) → Comes (OfKind kind) (outcome_of (on_numbers o kind a b))
numbers_come o kind a b h = comes_of kind (on_numbers o kind a b) (no_lack_numbers o kind a b) h

-- arithmetic on two numbers, either of which may be NULL
pub calculated_numbers : (o : BinOp) (kind own : Kind) (x y : Value) → IsNumber x → IsNumber y → HasKind kind x → HasKind own y → Comes (OfKind kind) (calculated o x y)
calculated_numbers o kind own v.Null _ m n h g = tt
calculated_numbers o kind own (v.Int i a) v.Null m n h g = tt
calculated_numbers o kind own (v.Int i a) (v.Int j b) m n h g = comes_of kind (on_numbers o i a b) (no_lack_numbers o i a b) (the_kind_laws.arithmetic o kind own (v.Int i a) (v.Int j b) h g)
calculated_numbers o kind own (v.Int i a) (v.Bool _) m n h g = absurd n
calculated_numbers o kind own (v.Int i a) (v.Text _) m n h g = absurd n
calculated_numbers o kind own (v.Int i a) (v.Blob _) m n h g = absurd n
calculated_numbers o kind own (v.Bool _) y m n h g = absurd m
calculated_numbers o kind own (v.Text _) y m n h g = absurd m
calculated_numbers o kind own (v.Blob _) y m n h g = absurd m

null_comes : (o : BinOp) (x y : Value) → x ≡ v.Null → Comes OnlyNull (calculated o x y)
null_comes o x y e = subst (λ z. Comes OnlyNull (calculated o z y)) (sym e) refl

arithmetic_comes : (o : BinOp) (u : Typing) (x y : Value) → Passes is_integer u → AreBoth u x y → Comes u (calculated o x y)
arithmetic_comes o OnlyNull x y p b = null_comes o x y b.left
arithmetic_comes o (OfKind kind) x y p b = calculated_numbers o kind kind x y (number_value (OfKind kind) x p b.left) (number_value (OfKind kind) y p b.right) b.left b.right
arithmetic_comes o Ill x y p b = absurd p

joined_comes : (x y : Value) → IsText x → IsText y → Comes (OfKind k.Text) (calculated op.Add x y)
joined_comes v.Null y m n = tt
joined_comes (v.Text a) v.Null m n = tt
joined_comes (v.Text a) (v.Text b) m n = tt
joined_comes (v.Text a) (v.Bool _) m n = absurd n
joined_comes (v.Text a) (v.Int _ _) m n = absurd n
joined_comes (v.Text a) (v.Blob _) m n = absurd n
joined_comes (v.Bool _) y m n = absurd m
joined_comes (v.Int _ _) y m n = absurd m
joined_comes (v.Blob _) y m n = absurd m

add_comes : (u : Typing) (x y : Value) → Passes (λ kind. is_integer kind || is_text kind) u → AreBoth u x y → Comes u (calculated op.Add x y)
add_comes OnlyNull x y p b = null_comes op.Add x y b.left
add_comes (OfKind k.Text) x y p b = joined_comes x y (text_value (OfKind k.Text) x refl b.left) (text_value (OfKind k.Text) y refl b.right)
add_comes (OfKind k.Bool) x y p b = absurd (cc)
add_comes (OfKind k.Blob) x y p b = absurd (cc)
add_comes (OfKind kind) x y p b = arithmetic_comes op.Add (OfKind kind) x y refl b
add_comes Ill x y p b = absurd p

shift_one : (o : BinOp) (s t : Typing) (x y : Value) → Passes is_integer s → Passes is_integer t → HasType s x → HasType t y → Comes s (calculated o x y)
shift_one o OnlyNull t x y p q h g = null_comes o x y h
shift_one o (OfKind kind) OnlyNull x y p q h g = calculated_numbers o kind kind x y (number_value (OfKind kind) x p h) (number_value OnlyNull y q g) h (null_has kind y g)
shift_one o (OfKind kind) (OfKind own) x y p q h g = calculated_numbers o kind own x y (number_value (OfKind kind) x p h) (number_value (OfKind own) y q g) h g
shift_one o (OfKind kind) Ill x y p q h g = absurd q
shift_one o Ill t x y p q h g = absurd p

shift_comes : (o : BinOp) (s t : Typing) (x y : Value) → IsTyped (given_type (among is_integer t) (among is_integer s)) → HasType s x → HasType t y → Comes (given_type (among is_integer t) (among is_integer s)) (calculated o x y)
shift_comes o s t x y h f g =
    let parts = given_parts (among is_integer t) (among is_integer s) h in
    let count = among_passes is_integer t parts.0 in
    let left = among_passes is_integer s (subst IsTyped parts.1 h) in
    subst (λ u. Comes u (calculated o x y)) (sym (parts.1 ∙ left.1)) (shift_one o s t x y left.0 count.0 f g)

pub comparison_kind : (o : BinOp) (x y : Value) → HasKind k.Bool (comparison o x y)
comparison_kind o v.Null y = tt
comparison_kind o (v.Bool _) v.Null = tt
comparison_kind o (v.Bool _) (v.Bool _) = tt
comparison_kind o (v.Bool _) (v.Int _ _) = tt
comparison_kind o (v.Bool _) (v.Text _) = tt
comparison_kind o (v.Bool _) (v.Blob _) = tt
comparison_kind o (v.Int _ _) v.Null = tt
comparison_kind o (v.Int _ _) (v.Bool _) = tt
comparison_kind o (v.Int _ _) (v.Int _ _) = tt
comparison_kind o (v.Int _ _) (v.Text _) = tt
comparison_kind o (v.Int _ _) (v.Blob _) = tt
comparison_kind o (v.Text _) v.Null = tt
comparison_kind o (v.Text _) (v.Bool _) = tt
comparison_kind o (v.Text _) (v.Int _ _) = tt
comparison_kind o (v.Text _) (v.Text _) = tt
comparison_kind o (v.Text _) (v.Blob _) = tt
comparison_kind o (v.Blob _) v.Null = tt
comparison_kind o (v.Blob _) (v.Bool _) = tt
comparison_kind o (v.Blob _) (v.Int _ _) = tt
comparison_kind o (v.Blob _) (v.Text _) = tt
comparison_kind o (v.Blob _) (v.Blob _) = tt

-- what a truth comes to, where its operands have one type
pub truth_comes : (u : Typing) (a : Outcome) → IsTyped (truth_of u) → (IsTyped u → Comes (OfKind k.Bool) a) → Comes (truth_of u) a
truth_comes u a h g = let parts = given_parts u (OfKind k.Bool) h in subst (λ t. Comes t a) (sym parts.1) (g parts.0)

both_comes : (x y : Value) → IsTruth x → IsTruth y → Comes (OfKind k.Bool) (both x y)
both_comes (v.Bool false) y m n = tt
both_comes (v.Bool true) v.Null m n = tt
both_comes (v.Bool true) (v.Bool _) m n = tt
both_comes (v.Bool true) (v.Int _ _) m n = absurd n
both_comes (v.Bool true) (v.Text _) m n = absurd n
both_comes (v.Bool true) (v.Blob _) m n = absurd n
both_comes v.Null v.Null m n = tt
both_comes v.Null (v.Bool true) m n = tt
both_comes v.Null (v.Bool false) m n = tt
both_comes v.Null (v.Int _ _) m n = absurd n
both_comes v.Null (v.Text _) m n = absurd n
both_comes v.Null (v.Blob _) m n = absurd n
both_comes (v.Int _ _) y m n = absurd m
both_comes (v.Text _) y m n = absurd m
both_comes (v.Blob _) y m n = absurd m

either_comes : (x y : Value) → IsTruth x → IsTruth y → Comes (OfKind k.Bool) (either x y)
either_comes (v.Bool true) y m n = tt
either_comes (v.Bool false) v.Null m n = tt
either_comes (v.Bool false) (v.Bool _) m n = tt
either_comes (v.Bool false) (v.Int _ _) m n = absurd n
either_comes (v.Bool false) (v.Text _) m n = absurd n
either_comes (v.Bool false) (v.Blob _) m n = absurd n
either_comes v.Null v.Null m n = tt
either_comes v.Null (v.Bool true) m n = tt
either_comes v.Null (v.Bool false) m n = tt
either_comes v.Null (v.Int _ _) m n = absurd n
either_comes v.Null (v.Text _) m n = absurd n
either_comes v.Null (v.Blob _) m n = absurd n
either_comes (v.Int _ _) y m n = absurd m
either_comes (v.Text _) y m n = absurd m
either_comes (v.Blob _) y m n = absurd m

-- two operands of one type among some kinds
record Operands (test : Kind → Bool) (s t : Typing) (x y : Value) : Type 0 where
  passes : Passes test (meet s t)
  same : among test (meet s t) ≡ meet s t
  values : AreBoth (meet s t) x y

operands : (test : Kind → Bool) (s t : Typing) (x y : Value) → IsTyped (among test (meet s t)) → HasType s x → HasType t y → Operands test s t x y
operands test s t x y h f g =
    let p = among_passes test (meet s t) h in
    record { passes = p.0; same = p.1; values = meet_both s t x y (among_typed test (meet s t) h) f g }

integers_come : (o : BinOp) (s t : Typing) (x y : Value) → IsTyped (among is_integer (meet s t)) → HasType s x → HasType t y → Comes (among is_integer (meet s t)) (calculated o x y)
integers_come o s t x y h f g =
    let p = operands is_integer s t x y h f g in
    subst (λ u. Comes u (calculated o x y)) (sym p.same) (arithmetic_comes o (meet s t) x y p.passes p.values)

sums_come : (s t : Typing) (x y : Value) → IsTyped (operator_type op.Add s t) → HasType s x → HasType t y → Comes (operator_type op.Add s t) (calculated op.Add x y)
sums_come s t x y h f g =
    let p = operands (λ kind. is_integer kind || is_text kind) s t x y h f g in
    subst (λ u. Comes u (calculated op.Add x y)) (sym p.same) (add_comes (meet s t) x y p.passes p.values)

logic_comes : (a : Outcome) (s t : Typing) (x y : Value) → (IsTruth x → IsTruth y → Comes (OfKind k.Bool) a) → IsTyped (truth_of (among is_truth (meet s t))) → HasType s x → HasType t y → Comes (truth_of (among is_truth (meet s t))) a
logic_comes a s t x y e h f g = truth_comes (among is_truth (meet s t)) a h (λ typed.
    let p = operands is_truth s t x y typed f g in
    e (truth_value (meet s t) x p.passes p.values.left) (truth_value (meet s t) y p.passes p.values.right))

pub operated_comes : (o : BinOp) (s t : Typing) (x y : Value) → IsTyped (operator_type o s t) → HasType s x → HasType t y → Comes (operator_type o s t) (operated o x y)
operated_comes op.Add s t x y h f g = sums_come s t x y h f g
operated_comes op.Shl s t x y h f g = shift_comes op.Shl s t x y h f g
operated_comes op.Shr s t x y h f g = shift_comes op.Shr s t x y h f g
operated_comes op.Eq s t x y h f g = truth_comes (meet s t) (operated op.Eq x y) h (λ typed. comparison_kind op.Eq x y)
operated_comes op.Ne s t x y h f g = truth_comes (meet s t) (operated op.Ne x y) h (λ typed. comparison_kind op.Ne x y)
operated_comes op.Lt s t x y h f g = truth_comes (among (λ kind. not (is_truth kind)) (meet s t)) (operated op.Lt x y) h (λ typed. comparison_kind op.Lt x y)
operated_comes op.Le s t x y h f g = truth_comes (among (λ kind. not (is_truth kind)) (meet s t)) (operated op.Le x y) h (λ typed. comparison_kind op.Le x y)
operated_comes op.Gt s t x y h f g = truth_comes (among (λ kind. not (is_truth kind)) (meet s t)) (operated op.Gt x y) h (λ typed. comparison_kind op.Gt x y)
operated_comes op.Ge s t x y h f g = truth_comes (among (λ kind. not (is_truth kind)) (meet s t)) (operated op.Ge x y) h (λ typed. comparison_kind op.Ge x y)
operated_comes op.Both s t x y h f g = logic_comes (both x y) s t x y (both_comes x y) h f g
operated_comes op.Either s t x y h f g = logic_comes (either x y) s t x y (either_comes x y) h f g
operated_comes op.Like s t x y h f g = absurd h
operated_comes o s t x y h f g = integers_come o s t x y h f g

truth_typed : (test : Kind → Bool) (s t : Typing) → IsTyped (truth_of (among test (meet s t))) → IsTyped s × IsTyped t
truth_typed test s t h = pair_typed test s t (given_parts (among test (meet s t)) (OfKind k.Bool) h).0

shift_typed : (s t : Typing) → IsTyped (given_type (among is_integer t) (among is_integer s)) → IsTyped s × IsTyped t
shift_typed s t h =
    let parts = given_parts (among is_integer t) (among is_integer s) h in
    (among_typed is_integer s (subst IsTyped parts.1 h), among_typed is_integer t parts.0)

-- where an operator has a type, its operands have
pub operand_typed : (o : BinOp) (s t : Typing) → IsTyped (operator_type o s t) → IsTyped s × IsTyped t
operand_typed op.Add s t h = pair_typed (λ kind. is_integer kind || is_text kind) s t h
operand_typed op.Shl s t h = shift_typed s t h
operand_typed op.Shr s t h = shift_typed s t h
operand_typed op.Eq s t h = meet_typed s t (given_parts (meet s t) (OfKind k.Bool) h).0
operand_typed op.Ne s t h = meet_typed s t (given_parts (meet s t) (OfKind k.Bool) h).0
operand_typed op.Lt s t h = truth_typed (λ kind. not (is_truth kind)) s t h
operand_typed op.Le s t h = truth_typed (λ kind. not (is_truth kind)) s t h
operand_typed op.Gt s t h = truth_typed (λ kind. not (is_truth kind)) s t h
operand_typed op.Ge s t h = truth_typed (λ kind. not (is_truth kind)) s t h
operand_typed op.Both s t h = truth_typed is_truth s t h
operand_typed op.Either s t h = truth_typed is_truth s t h
operand_typed op.Like s t h = absurd h
operand_typed o s t h = pair_typed is_integer s t h

-- a left side that decides is a truth
decides_truth : (o : BinOp) (x : Value) → decides o x ≡ true → HasKind k.Bool x
decides_truth op.Both (v.Bool b) e = tt
decides_truth op.Either (v.Bool b) e = tt
decides_truth _ _ e = absurd (cc)

link_if : (o : BinOp) (u : Typing) (x : Value) (b : Outcome) (c : Bool) → (c ≡ true → HasType u x) → Comes u (then_from b (operated o x)) → Comes u (if c then gives x else then_from b (operated o x))
link_if o u x b true h g = h refl
link_if o u x b false h g = g

truth_link : (o : BinOp) (u : Typing) (x : Value) → IsTyped (truth_of u) → decides o x ≡ true → HasType (truth_of u) x
truth_link o u x h e = truth_comes u (gives x) h (λ typed. decides_truth o x e)

-- a link behind a value of the type of its left side
pub linked_comes : (o : BinOp) (s t : Typing) (x : Value) (b : Outcome) → IsTyped (operator_type o s t) → HasType s x → (IsTyped t → Comes t b) → Comes (operator_type o s t) (linked o x b)
linked_comes op.Both s t x b h f g = link_if op.Both (operator_type op.Both s t) x b (decides op.Both x) (truth_link op.Both (among is_truth (meet s t)) x h) (then_comes t (operator_type op.Both s t) b (operated op.Both x) (g (operand_typed op.Both s t h).1) (λ y e. operated_comes op.Both s t x y h f e))
linked_comes op.Either s t x b h f g = link_if op.Either (operator_type op.Either s t) x b (decides op.Either x) (truth_link op.Either (among is_truth (meet s t)) x h) (then_comes t (operator_type op.Either s t) b (operated op.Either x) (g (operand_typed op.Either s t h).1) (λ y e. operated_comes op.Either s t x y h f e))
linked_comes o s t x b h f g = then_comes t (operator_type o s t) b (operated o x) (g (operand_typed o s t h).1) (λ y e. operated_comes o s t x y h f e)
