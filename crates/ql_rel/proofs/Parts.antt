-- Operators before a part, lists of parts, calls and conversions have the types that are said of them.
use Rattle.std.proofs.Common.{◌≡◌, Bool, true, false, ◌&&◌, not, inl, inr, List, [], ◌∷◌, map, length, Option, None, Some, Ok, refl, sym, ap, subst, ◌∙◌}
use Rattle.ql_value.specs.declared.operator.UnOp.{UnOp}
use Rattle.ql_value.specs.declared.operator.UnOp.TheVariants as un
use Rattle.ql_value.specs.declared.value.Kind.{Kind}
use Rattle.ql_value.specs.declared.value.Kind.TheVariants as k
use Rattle.ql_value.specs.Kinds.{is_integer}
use Rattle.ql_syntax.specs.declared.syntax.Function.{Function}
use Rattle.ql_syntax.specs.declared.syntax.Function.TheVariants as f
use Rattle.ql_syntax.specs.declared.typed.Typed.{Typed}
use Rattle.ql_syntax.specs.declared.typed.Typed.TheVariants as t
use Rattle.ql_syntax.specs.declared.typing.Typing.{Typing}
use Rattle.ql_syntax.specs.declared.typing.Typing.TheVariants.{OnlyNull, OfKind, Ill}
use Rattle.ql_syntax.specs.Typing.{IsTyped, among, given_type, truth_of, meet_all, prefix_type, prefixed_type, converts, call_type}
use Rattle.ql_syntax.specs.declared.checked.Literal.{Literal}
use Rattle.ql_syntax.specs.declared.checked.Checked.{Checked}
use Rattle.ql_syntax.specs.Answers.{then_with, refused}
use Rattle.ql_syntax.specs.Checked.{no_literal, of_type, literal_of, meet_type, require_type}
use Rattle.ql_syntax.specs.Operands.{ops_before, ops_by_table, apply_ops, apply_ops_by, ends_with_minus, but_last, first_kind, meet_each, types, trees, truth, in_list, null_test}
use Rattle.ql_syntax.specs.Functions.{takes}
use Rattle.ql_syntax.specs.Calls.{convert_by_table, convert_literal, convert_to, call_by_table, row_value, row_call}
use Rattle.ql_syntax.specs.GroupTyping.{type_by}
use Rattle.ql_syntax.proofs.TypedBy.{by_unary, by_convert, by_call, by_in, by_is_null}
use Rattle.ql_rel.proofs.Fits.{Fits, then_ok, same_ok, ruled_ok, known_fits, literal_fits, literal_in_fits, meet_fits}
use Rattle.ql_rel.proofs.Chains.{chosen}

prefix_int64 : (o : UnOp) (u : Typing) → IsTyped u → prefix_type o (OfKind k.Int64) ≡ u → u ≡ OfKind k.Int64
prefix_int64 un.Plus u h e = sym e
prefix_int64 un.Minus u h e = sym e
prefix_int64 un.Flip u h e = sym e
prefix_int64 un.Not u h e = absurd (subst IsTyped (sym e) h)

prefix_typed : (o : UnOp) (u : Typing) → IsTyped (prefix_type o u) → IsTyped u
prefix_typed o OnlyNull h = tt
prefix_typed o (OfKind kind) h = tt
prefix_typed un.Not Ill h = h
prefix_typed un.Plus Ill h = h
prefix_typed un.Minus Ill h = h
prefix_typed un.Flip Ill h = h

prefixes_int64 : (ops : List UnOp) → IsTyped (prefixed_type ops (OfKind k.Int64)) → prefixed_type ops (OfKind k.Int64) ≡ OfKind k.Int64
prefixes_int64 [] h = refl
prefixes_int64 (o ∷ ops) h =
    let inner = prefixes_int64 ops (prefix_typed o (prefixed_type ops (OfKind k.Int64)) h) in
    prefix_int64 o (prefix_type o (prefixed_type ops (OfKind k.Int64))) h (ap (prefix_type o) (sym inner))

pub typed_truth : (u : Typing) → IsTyped u → truth_of u ≡ OfKind k.Bool
typed_truth OnlyNull h = refl
typed_truth (OfKind kind) h = refl
typed_truth Ill h = absurd h

module _ (may : Bool) (row : List Typing) where
  signed_fits : (ops : List UnOp) (c d : Checked) → Fits may row c → ops_by_table ops c ≡ Ok d → Fits may row d
  signed_fits ops c d h a =
      let s = then_ok (require_type (prefixed_type ops c.typing)) (λ type. Ok (no_literal c.untyped type (t.Unary ops c.tree))) d a in
      let r = ruled_ok (prefixed_type ops c.typing) s.0 s.1 in
      subst (Fits may row) (same_ok (no_literal c.untyped s.0 (t.Unary ops c.tree)) d s.2) (record {
        typed = subst IsTyped r.1 r.0;
        is = by_unary may row ops c.tree ∙ ap (prefixed_type ops) h.is ∙ r.1;
        loose = λ e. sym r.1 ∙ ap (prefixed_type ops) (h.loose e) ∙ prefixes_int64 ops (subst (λ u. IsTyped (prefixed_type ops u)) (h.loose e) r.0);
      })

  before_fits : (ops : List UnOp) (c d : Checked) → Fits may row c → ops_before ops c ≡ Ok d → Fits may row d
  before_fits [] c d h a = subst (Fits may row) (same_ok c d a) h
  before_fits (o ∷ ops) c d h a = signed_fits (o ∷ ops) c d h a

  by_literal : (ops : List UnOp) (l : Option Literal) (c d : Checked) → Fits may row c → apply_ops_by ops l c ≡ Ok d → Fits may row d
  by_literal ops None c d h a = before_fits ops c d h a
  by_literal ops (Some l) c d h a =
      elim (chosen (ends_with_minus ops && not l.minus) (ops_before (but_last ops) (literal_of (record { minus = true; size = l.size }))) (ops_before ops c) d a) [
        | inl w ↦ before_fits (but_last ops) (literal_of (record { minus = true; size = l.size })) d (literal_fits may row (record { minus = true; size = l.size })) w.1
        | inr w ↦ before_fits ops c d h w.1
      ]

  pub prefixed_fits : (ops : List UnOp) (c d : Checked) → Fits may row c → apply_ops ops c ≡ Ok d → Fits may row d
  prefixed_fits ops c d h a = by_literal ops c.literal c d h a

  -- what is said of each part is so
  abbrev pub Each : List Checked → Type 0
  Each [] = Unit {0}
  Each (c ∷ parts) = Fits may row c × Each parts

  pub each_met : (u : Typing) (parts met : List Checked) → Each parts → meet_each u parts ≡ Ok met → Each met
  each_met u [] met h a = subst Each (same_ok [] met a) tt
  each_met u (c ∷ parts) met h a =
      let s = then_ok (meet_type u c) (λ x. then_with (meet_each u parts) (λ xs. Ok (x ∷ xs))) met a in
      let m = then_ok (meet_each u parts) (λ xs. Ok (s.0 ∷ xs)) met s.2 in
      subst Each (same_ok (s.0 ∷ m.0) met m.2) (meet_fits may row u c s.0 h.0 s.1, each_met u parts m.0 h.1 m.1)

  types_are : (parts : List Checked) → Each parts → map (type_by may row) (trees parts) ≡ types parts
  types_are [] h = refl
  types_are (c ∷ parts) h = ap (λ u. u ∷ map (type_by may row) (trees parts)) h.0.is ∙ ap (λ us. c.typing ∷ us) (types_are parts h.1)

  pub truth_fits : (negated : Bool) (tree : Typed) → type_by may row tree ≡ OfKind k.Bool → Fits may row (truth negated tree)
  truth_fits false tree e = known_fits may row (OfKind k.Bool) tree tt e
  truth_fits true tree e = known_fits may row (OfKind k.Bool) (t.Unary (un.Not ∷ []) tree) tt (by_unary may row (un.Not ∷ []) tree ∙ ap (prefixed_type (un.Not ∷ [])) e)

  pub is_truth_type : (u v : Typing) → require_type (truth_of u) ≡ Ok v → truth_of u ≡ OfKind k.Bool
  is_truth_type OnlyNull v a = refl
  is_truth_type (OfKind kind) v a = refl
  is_truth_type Ill v a = absurd (ruled_ok Ill v a).0

  pub in_fits : (negated : Bool) (part : Checked) (list : List Checked) (d : Checked) → Fits may row part → Each list → in_list negated part list ≡ Ok d → Fits may row d
  in_fits negated part list d h e a =
      let u = first_kind (part ∷ list) in
      let p = then_ok (meet_type u part) (λ x. then_with (meet_each u list) (λ xs. then_with (require_type (truth_of (meet_all x.typing (types xs)))) (λ _. Ok (truth negated (t.IsIn x.tree (trees xs)))))) d a in
      let l = then_ok (meet_each u list) (λ xs. then_with (require_type (truth_of (meet_all p.0.typing (types xs)))) (λ _. Ok (truth negated (t.IsIn p.0.tree (trees xs))))) d p.2 in
      let r = then_ok (require_type (truth_of (meet_all p.0.typing (types l.0)))) (λ _. Ok (truth negated (t.IsIn p.0.tree (trees l.0)))) d l.2 in
      let hp = meet_fits may row u part p.0 h p.1 in
      let hl = each_met u list l.0 e l.1 in
      subst (Fits may row) (same_ok (truth negated (t.IsIn p.0.tree (trees l.0))) d r.2)
      (truth_fits negated (t.IsIn p.0.tree (trees l.0)) (by_in may row p.0.tree (trees l.0) ∙ ap (λ v. truth_of (meet_all v (map (type_by may row) (trees l.0)))) hp.is ∙ ap (λ vs. truth_of (meet_all p.0.typing vs)) (types_are l.0 hl) ∙ is_truth_type (meet_all p.0.typing (types l.0)) r.0 r.1))

  pub null_fits : (negated : Bool) (part : Checked) → Fits may row part → Fits may row (null_test negated part)
  null_fits negated part h = truth_fits negated (t.IsNull part.tree) (by_is_null may row part.tree ∙ ap truth_of h.is ∙ typed_truth part.typing h.typed)

  by_table_fits : (kind : Kind) (c d : Checked) → Fits may row c → convert_by_table kind c ≡ Ok d → Fits may row d
  by_table_fits kind c d h a =
      let s = then_ok (require_type (given_type (among (converts kind) c.typing) (OfKind kind))) (λ type. Ok (of_type type (t.Convert kind c.tree))) d a in
      let r = ruled_ok (given_type (among (converts kind) c.typing) (OfKind kind)) s.0 s.1 in
      subst (Fits may row) (same_ok (of_type s.0 (t.Convert kind c.tree)) d s.2)
      (known_fits may row s.0 (t.Convert kind c.tree) (subst IsTyped r.1 r.0) (by_convert may row kind c.tree ∙ ap (λ u. given_type (among (converts kind) u) (OfKind kind)) h.is ∙ r.1))

  literal_converts : (kind : Kind) (l : Option Literal) (c d : Checked) → is_integer kind ≡ true → Fits may row c → convert_literal kind l c ≡ Ok d → Fits may row d
  literal_converts kind (Some l) c d i h a = literal_in_fits may row kind l d i a
  literal_converts kind None c d i h a = by_table_fits kind c d h a

  pub convert_fits : (kind : Kind) (c d : Checked) → Fits may row c → convert_to kind c ≡ Ok d → Fits may row d
  convert_fits kind c d h a =
      elim (chosen (is_integer kind) (convert_literal kind c.literal c) (convert_by_table kind c) d a) [
        | inl w ↦ literal_converts kind c.literal c d w.0 h w.1
        | inr w ↦ by_table_fits kind c d h w.1
      ]

  table_call_fits : (function : Function) (parts : List Checked) (d : Checked) → Each parts → call_by_table function parts ≡ Ok d → Fits may row d
  table_call_fits function parts d h a =
      let s = then_ok (require_type (call_type function (types parts))) (λ type. Ok (of_type type (t.Call function (trees parts)))) d a in
      let r = ruled_ok (call_type function (types parts)) s.0 s.1 in
      subst (Fits may row) (same_ok (of_type s.0 (t.Call function (trees parts))) d s.2)
      (known_fits may row s.0 (t.Call function (trees parts)) (subst IsTyped r.1 r.0) (by_call may row function (trees parts) ∙ ap (call_type function) (types_are parts h) ∙ r.1))

  value_fits : (function : Function) (parts : List Checked) (d : Checked) → Each parts → row_value function parts ≡ Ok d → Fits may row d
  value_fits f.Coalesce parts d h a =
      let s = then_ok (meet_each (first_kind parts) parts) (λ met. call_by_table f.Coalesce met) d a in
      table_call_fits f.Coalesce s.0 d (each_met (first_kind parts) parts s.0 h s.1) s.2
  value_fits f.Id parts d h a = table_call_fits f.Id parts d h a
  value_fits f.Len parts d h a = table_call_fits f.Len parts d h a
  value_fits f.Contains parts d h a = table_call_fits f.Contains parts d h a
  value_fits f.HasPrefix parts d h a = table_call_fits f.HasPrefix parts d h a
  value_fits f.HasSuffix parts d h a = table_call_fits f.HasSuffix parts d h a
  value_fits f.Count parts d h a = table_call_fits f.Count parts d h a
  value_fits f.Sum parts d h a = table_call_fits f.Sum parts d h a
  value_fits f.Avg parts d h a = table_call_fits f.Avg parts d h a
  value_fits f.Min parts d h a = table_call_fits f.Min parts d h a
  value_fits f.Max parts d h a = table_call_fits f.Max parts d h a

  pub call_fits : (function : Function) (parts : List Checked) (d : Checked) → Each parts → row_call function parts ≡ Ok d → Fits may row d
  call_fits function parts d h a =
      elim (chosen (takes function (length parts)) (row_value function parts) (refused 6) d a) [
        | inl w ↦ value_fits function parts d h w.1
        | inr w ↦ absurd (let e = w.1 in cc)
      ]
