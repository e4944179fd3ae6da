-- BETWEEN and aggregates have the types that are said of them.
use Rattle.std.proofs.Common.{◌≡◌, Bool, true, false, not, if◌then◌else◌, inl, inr, List, [], ◌∷◌, length, Option, None, Some, Ok, refl, sym, ap, subst, ◌∙◌}
use Rattle.ql_value.specs.declared.operator.BinOp.TheVariants as op
use Rattle.ql_value.specs.declared.value.Kind.{Kind}
use Rattle.ql_value.specs.declared.value.Kind.TheVariants as k
use Rattle.ql_value.specs.Kinds.{is_integer, is_truth, same_kind}
use Rattle.ql_syntax.specs.declared.syntax.Function.{Function}
use Rattle.ql_syntax.specs.declared.syntax.Function.TheVariants as f
use Rattle.ql_syntax.specs.declared.typed.Typed.{Typed}
use Rattle.ql_syntax.specs.declared.typed.Typed.TheVariants as t
use Rattle.ql_syntax.specs.declared.typing.Typing.{Typing}
use Rattle.ql_syntax.specs.declared.typing.Typing.TheVariants.{OnlyNull, OfKind, Ill}
use Rattle.ql_syntax.specs.Typing.{IsTyped, among, given_type, truth_of, meet, meet_all, operator_type}
use Rattle.ql_syntax.specs.declared.checked.Checked.{Checked}
use Rattle.ql_syntax.specs.Answers.{then_with, refused}
use Rattle.ql_syntax.specs.Checked.{meet_type, kind_or_int64, require_type}
use Rattle.ql_syntax.specs.Operands.{first_kind, pair, between_tree, between, truth}
use Rattle.ql_syntax.specs.Functions.{takes}
use Rattle.ql_syntax.specs.Calls.{first_part, count_of, aggregate, aggregate_first, group_value, group_call}
use Rattle.ql_syntax.specs.GroupTyping.{or_int64, aggregate_type, type_by}
use Rattle.ql_syntax.proofs.TypedBy.{by_rows, by_aggregate}
use Rattle.ql_rel.proofs.Fits.{Fits, then_ok, same_ok, ruled_ok, known_fits, meet_fits}
use Rattle.ql_rel.proofs.Chains.{chosen, pair_type}
use Rattle.ql_rel.proofs.Parts.{Each, truth_fits, typed_truth}

abbrev ordered : Kind → Bool
ordered kind = not (is_truth kind)

-- the kind of the first part is that of all
kept : (a : Kind) (b : Bool) → IsTyped (if b then OfKind a else Ill) → (if b then OfKind a else Ill) ≡ OfKind a
kept a true h = refl
kept a false h = absurd h

meet_keeps : (a : Kind) (x : Typing) → IsTyped (meet (OfKind a) x) → meet (OfKind a) x ≡ OfKind a
meet_keeps a OnlyNull h = refl
meet_keeps a (OfKind b) h = kept a (same_kind a b) h
meet_keeps a Ill h = absurd h

among_typed : (u : Typing) → IsTyped (among ordered u) → IsTyped u
among_typed OnlyNull h = tt
among_typed (OfKind kind) h = tt
among_typed Ill h = h

other_ordered : (a b : Kind) → same_kind a b ≡ true → ordered a ≡ true → ordered b ≡ true
other_ordered k.Bool b h i = absurd (cc)
other_ordered _ k.Bool h i = absurd (cc)
other_ordered _ _ h i = refl

ordered_if : (a : Kind) (b : Bool) → IsTyped (if b then OfKind a else Ill) → b ≡ true
ordered_if a true h = refl
ordered_if a false h = absurd h

typed_if : (a : Kind) (b : Bool) → b ≡ true → IsTyped (if b then OfKind a else Ill)
typed_if a true h = tt
typed_if a false h = absurd (cc)

-- both parts of a pair are ordered where the pair is
right_ordered : (a b : Kind) (c : Bool) → same_kind a b ≡ c → IsTyped (among ordered (if c then OfKind a else Ill)) → IsTyped (among ordered (OfKind b))
right_ordered a b true e h = typed_if b (ordered b) (other_ordered a b e (ordered_if a (ordered a) h))
right_ordered a b false e h = absurd h

-- both comparisons of a BETWEEN are truths
record BothTruths (a x y : Typing) : Type 0 where
  low : truth_of (among ordered (meet a x)) ≡ OfKind k.Bool
  high : truth_of (among ordered (meet a y)) ≡ OfKind k.Bool

kind_if : (a : Kind) (b : Bool) (y : Typing) → IsTyped (among ordered (meet (if b then OfKind a else Ill) y)) → ((if b then OfKind a else Ill) ≡ OfKind a) × IsTyped (among ordered (meet (OfKind a) y))
kind_if a true y h = (refl, h)
kind_if a false y h = absurd h

-- where the first part has a kind, it is that of the first two
first_part_kind : (a : Kind) (x y : Typing) → IsTyped (among ordered (meet (meet (OfKind a) x) y)) → (meet (OfKind a) x ≡ OfKind a) × IsTyped (among ordered (meet (OfKind a) y))
first_part_kind a OnlyNull y h = (refl, h)
first_part_kind a (OfKind b) y h = kind_if a (same_kind a b) y h
first_part_kind a Ill y h = absurd h

both_truths : (a x y : Typing) → IsTyped (among ordered (meet (meet a x) y)) → BothTruths a x y
both_truths OnlyNull OnlyNull y h = record { low = refl; high = typed_truth (among ordered (meet OnlyNull y)) h }
both_truths OnlyNull (OfKind b) OnlyNull h = record { low = typed_truth (among ordered (OfKind b)) h; high = refl }
both_truths OnlyNull (OfKind b) (OfKind c) h =
    let m = meet_keeps b (OfKind c) (among_typed (meet (OfKind b) (OfKind c)) h) in
    record {
      low = typed_truth (among ordered (OfKind b)) (subst (λ u. IsTyped (among ordered u)) m h);
      high = typed_truth (among ordered (OfKind c)) (right_ordered b c (same_kind b c) refl h);
    }
both_truths OnlyNull (OfKind b) Ill h = absurd h
both_truths OnlyNull Ill y h = absurd h
both_truths (OfKind a) x y h = let m = first_part_kind a x y h in record {
  low = ap (λ u. truth_of (among ordered u)) m.0 ∙ typed_truth (among ordered (OfKind a)) (subst (λ u. IsTyped (among ordered u)) (meet_keeps a y (among_typed (meet (OfKind a) y) m.1)) m.1);
  high = typed_truth (among ordered (meet (OfKind a) y)) m.1;
}
both_truths Ill x y h = absurd h

module _ (may : Bool) (row : List Typing) where
  tree_type : (a x y : Typed) (u v w : Typing) → type_by may row a ≡ u → type_by may row x ≡ v → type_by may row y ≡ w → IsTyped (among ordered (meet (meet u v) w)) → type_by may row (between_tree a x y) ≡ OfKind k.Bool
  tree_type a x y u v w e f g h =
      let b = both_truths u v w h in
      let low = pair_type may row a op.Ge x ∙ ap (λ z. operator_type op.Ge z (type_by may row x)) e ∙ ap (operator_type op.Ge u) f ∙ b.low in
      let high = pair_type may row a op.Le y ∙ ap (λ z. operator_type op.Le z (type_by may row y)) e ∙ ap (operator_type op.Le u) g ∙ b.high in
      pair_type may row (pair a op.Ge x) op.Both (pair a op.Le y) ∙ ap (λ z. operator_type op.Both z (type_by may row (pair a op.Le y))) low ∙ ap (operator_type op.Both (OfKind k.Bool)) high

  truth_typed : (u v : Typing) → require_type (truth_of u) ≡ Ok v → IsTyped u
  truth_typed OnlyNull v a = tt
  truth_typed (OfKind kind) v a = tt
  truth_typed Ill v a = (ruled_ok Ill v a).0

  pub between_fits : (negated : Bool) (part low high d : Checked) → Fits may row part → Fits may row low → Fits may row high → between negated part low high ≡ Ok d → Fits may row d
  between_fits negated part low high d hp hl hh a =
      let u = first_kind (part ∷ low ∷ high ∷ []) in
      let p = then_ok (meet_type u part) (λ a. then_with (meet_type u low) (λ x. then_with (meet_type u high) (λ y. then_with (require_type (truth_of (among (λ kind. not (is_truth kind)) (meet_all a.typing (x.typing ∷ y.typing ∷ []))))) (λ _. Ok (truth negated (between_tree a.tree x.tree y.tree)))))) d a in
      let l = then_ok (meet_type u low) (λ x. then_with (meet_type u high) (λ y. then_with (require_type (truth_of (among (λ kind. not (is_truth kind)) (meet_all p.0.typing (x.typing ∷ y.typing ∷ []))))) (λ _. Ok (truth negated (between_tree p.0.tree x.tree y.tree))))) d p.2 in
      let h = then_ok (meet_type u high) (λ y. then_with (require_type (truth_of (among (λ kind. not (is_truth kind)) (meet_all p.0.typing (l.0.typing ∷ y.typing ∷ []))))) (λ _. Ok (truth negated (between_tree p.0.tree l.0.tree y.tree)))) d l.2 in
      let r = then_ok (require_type (truth_of (among (λ kind. not (is_truth kind)) (meet_all p.0.typing (l.0.typing ∷ h.0.typing ∷ []))))) (λ _. Ok (truth negated (between_tree p.0.tree l.0.tree h.0.tree))) d h.2 in
      subst (Fits may row) (same_ok (truth negated (between_tree p.0.tree l.0.tree h.0.tree)) d r.2)
      (truth_fits may row negated (between_tree p.0.tree l.0.tree h.0.tree)
      (tree_type p.0.tree l.0.tree h.0.tree p.0.typing l.0.typing h.0.typing (meet_fits may row u part p.0 hp p.1).is (meet_fits may row u low l.0 hl l.1).is (meet_fits may row u high h.0 hh h.1).is
      (truth_typed (among ordered (meet (meet p.0.typing l.0.typing) h.0.typing)) r.0 r.1)))

same_self : (kind : Kind) → same_kind kind kind ≡ true
same_self k.Bool = refl
same_self k.Int8 = refl
same_self k.Int16 = refl
same_self k.Int32 = refl
same_self k.Int64 = refl
same_self k.Uint8 = refl
same_self k.Uint16 = refl
same_self k.Uint32 = refl
same_self k.Uint64 = refl
same_self k.Text = refl
same_self k.Blob = refl

-- an aggregate has the kind that its part's type gives it
own_kind : (u : Typing) → IsTyped u → meet (OfKind (kind_or_int64 u)) (or_int64 u) ≡ OfKind (kind_or_int64 u)
own_kind OnlyNull h = refl
own_kind (OfKind kind) h = ap (λ b. if b then OfKind kind else Ill) (same_self kind)
own_kind Ill h = absurd h

its_kind : (u v : Typing) → require_type u ≡ Ok v → meet (OfKind (kind_or_int64 v)) (or_int64 u) ≡ OfKind (kind_or_int64 v)
its_kind u v a = let r = ruled_ok u v a in subst (λ w. meet (OfKind (kind_or_int64 w)) (or_int64 u) ≡ OfKind (kind_or_int64 w)) r.1 (own_kind u r.0)

counted : (u : Typing) → IsTyped u → meet (OfKind k.Int64) (given_type u (OfKind k.Int64)) ≡ OfKind k.Int64
counted OnlyNull h = refl
counted (OfKind kind) h = refl
counted Ill h = absurd h

-- what is said of the part of an aggregate is so at a row
module _ (row : List Typing) where
  abbrev FitsPart : Option Checked → Type 0
  FitsPart None = Unit {0}
  FitsPart (Some c) = Fits false row c

  first_fits : (parts : List Checked) → Each false row parts → FitsPart (first_part parts)
  first_fits [] h = tt
  first_fits (c ∷ parts) h = h.0

  count_fits : (part : Option Checked) → FitsPart part → Fits true row (count_of part)
  count_fits None h = known_fits true row (OfKind k.Int64) (t.Aggregate f.Count k.Int64 None) tt (by_rows row f.Count k.Int64)
  count_fits (Some c) h = known_fits true row (OfKind k.Int64) (t.Aggregate f.Count k.Int64 (Some c.tree)) tt
      (by_aggregate row f.Count k.Int64 c.tree ∙ counted (type_by false row c.tree) (subst IsTyped (sym h.is) h.typed))

  first_value_fits : (function : Function) (test : Kind → Bool) → ((u : Typing) → aggregate_type function (Some u) ≡ or_int64 (among test u)) → (part : Option Checked) (d : Checked) → FitsPart part → aggregate_first function test part ≡ Ok d → Fits true row d
  first_value_fits function test table None d h a = absurd (cc)
  first_value_fits function test table (Some c) d h a =
      let s = then_ok (require_type (among test c.typing)) (λ type. Ok (aggregate function (kind_or_int64 type) (Some c.tree))) d a in
      let kind = kind_or_int64 s.0 in
      subst (Fits true row) (same_ok (aggregate function kind (Some c.tree)) d s.2)
      (known_fits true row (OfKind kind) (t.Aggregate function kind (Some c.tree)) tt
      (by_aggregate row function kind c.tree ∙ ap (λ u. meet (OfKind kind) (aggregate_type function (Some u))) h.is ∙ ap (meet (OfKind kind)) (table c.typing) ∙ its_kind (among test c.typing) s.0 s.1))

  value_of_fits : (function : Function) (part : Option Checked) (d : Checked) → FitsPart part → group_value function part ≡ Ok d → Fits true row d
  value_of_fits f.Count part d h a = subst (Fits true row) (same_ok (count_of part) d a) (count_fits part h)
  value_of_fits f.Sum part d h a = first_value_fits f.Sum is_integer (λ u. refl) part d h a
  value_of_fits f.Avg part d h a = first_value_fits f.Avg is_integer (λ u. refl) part d h a
  value_of_fits f.Min part d h a = first_value_fits f.Min ordered (λ u. refl) part d h a
  value_of_fits f.Max part d h a = first_value_fits f.Max ordered (λ u. refl) part d h a
  value_of_fits _ part d h a = absurd (cc)

  pub group_fits : (function : Function) (parts : List Checked) (d : Checked) → Each false row parts → group_call function parts ≡ Ok d → Fits true row d
  group_fits function parts d h a =
      elim (chosen (takes function (length parts)) (group_value function (first_part parts)) (refused 6) d a) [
        | inl w ↦ value_of_fits function (first_part parts) d (first_fits parts h) w.1
        | inr w ↦ absurd (let e = w.1 in cc)
      ]
