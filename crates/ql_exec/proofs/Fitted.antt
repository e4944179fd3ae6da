-- A value of an expression that is for a column has the column's kind.
use Rattle.std.proofs.Common.{◌≡◌, Bool, true, false, if◌then◌else◌, Ok, refl, sym, subst}
use Rattle.ql_value.specs.Kinds.{same_kind}
use Rattle.ql_value.specs.Number.{HasKind}
use Rattle.ql_value.specs.declared.value.Kind.{Kind}
use Rattle.ql_value.specs.declared.value.Value.{Value}
use Rattle.ql_syntax.specs.Typing.{IsTyped, HasType, among}
use Rattle.ql_syntax.specs.Values.{Outcome, gives, refuses, means_nothing}
use Rattle.ql_syntax.specs.Values as reason
use Rattle.ql_syntax.specs.declared.typing.Typing.{Typing}
use Rattle.ql_syntax.specs.declared.typing.Typing.TheVariants.{OnlyNull, OfKind, Ill}
use Rattle.ql_eval.proofs.OperatorTypes.{Comes}
use Rattle.ql_eval.proofs.TypeLemmas.{one_kind}
use Rattle.ql_rel.specs.Rows.{answer_of}
use Rattle.ql_rel.proofs.Fits.{same_ok}

pub typed_among : (test : Kind → Bool) (t : Typing) → IsTyped (among test t) → IsTyped t
typed_among test OnlyNull h = tt
typed_among test (OfKind kind) h = tt
typed_among test Ill h = h

kind_if : (kind own : Kind) (b : Bool) (x : Value) → same_kind kind own ≡ b → IsTyped (if b then OfKind own else Ill) → HasKind own x → HasKind kind x
kind_if kind own true x e t h = subst (λ k. HasKind k x) (sym (one_kind kind own e)) h
kind_if kind own false x e t h = absurd t

pub kind_of_type : (kind : Kind) (t : Typing) (x : Value) → IsTyped (among (same_kind kind) t) → HasType t x → HasKind kind x
kind_of_type kind OnlyNull x t h = subst (HasKind kind) (sym h) tt
kind_of_type kind (OfKind own) x t h = kind_if kind own (same_kind kind own) x refl t h
kind_of_type kind Ill x t h = absurd t

pub comes_to : (t : Typing) (a : Outcome) (x : Value) → Comes t a → answer_of a ≡ Ok x → HasType t x
comes_to t (gives y) x c e = subst (HasType t) (same_ok y x e) c
comes_to t (refuses reason.divide) x c e = absurd (cc)
comes_to t (refuses reason.range) x c e = absurd (cc)
comes_to t (refuses reason.negative_count) x c e = absurd (cc)
comes_to t means_nothing x c e = absurd c
