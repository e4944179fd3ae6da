-- Chains have the types that are said of them.
use Rattle.std.proofs.Common.{◌≡◌, Bool, true, false, ◌&&◌, if◌then◌else◌, ◌⊎◌, inl, inr, List, [], ◌∷◌, ◌++◌, map, Ok, refl, sym, ap, subst, ◌∙◌}
use Rattle.std.proofs.lemmas.List.{map-append}
use Rattle.std.proofs.lemmas.Simd.{map-map}
use Rattle.ql_value.specs.declared.operator.BinOp.{BinOp}
use Rattle.ql_value.specs.declared.operator.BinOp.TheVariants as op
use Rattle.ql_value.specs.declared.value.Kind.TheVariants as k
use Rattle.ql_syntax.specs.declared.typed.Typed.{Typed, map-Typed, out-Typed}
use Rattle.ql_syntax.specs.declared.typed.Typed.TheFolds.{fold_out-Typed}
use Rattle.ql_syntax.specs.declared.typed.Typed.TheOpen.{Typed-F}
use Rattle.ql_syntax.specs.declared.typed.TypedLink.{TypedLink}
use Rattle.ql_syntax.specs.declared.typing.Typing.{Typing}
use Rattle.ql_syntax.specs.declared.typing.Typing.TheVariants.{OfKind}
use Rattle.ql_syntax.specs.GroupTyping.{group_step, group_link, type_by}
use Rattle.ql_syntax.specs.Typing.{IsTyped, operator_type, StepType, chain_type}
use Rattle.ql_syntax.proofs.TypedBy.{types_of, links_of, link_by, by_chain, by_link}
use Rattle.ql_syntax.specs.declared.checked.Checked.{Checked}
use Rattle.ql_syntax.specs.Answers.{Answer, then_with, refused}
use Rattle.ql_syntax.specs.Checked.{no_literal, meet_type, require_type}
use Rattle.ql_syntax.specs.Operands.{Step, link, pair, behind_layer, longer_chain, by_table, meet_sides, is_like, is_arithmetic, shares_kind, operation, add_step, add_steps}
use Rattle.ql_rel.proofs.Fits.{Fits, then_ok, same_ok, ruled_ok, both_true, meet_fits}

-- a choice that stands
pub chosen : {A : Type 0} (b : Bool) (x y : Answer A) (z : A) → (if b then x else y) ≡ Ok z → ((b ≡ true) × (x ≡ Ok z)) ⊎ ((b ≡ false) × (y ≡ Ok z))
chosen true x y z h = inl (refl, h)
chosen false x y z h = inr (refl, h)

one_more : (t : Typing) (steps : List StepType) (s : StepType) → chain_type t (steps ++ s ∷ []) ≡ operator_type s.op (chain_type t steps) s.part
one_more t [] s = refl
one_more t (r ∷ steps) s = one_more (operator_type r.op t r.part) steps s

int64_arithmetic : (o : BinOp) → is_arithmetic o ≡ true → operator_type o (OfKind k.Int64) (OfKind k.Int64) ≡ OfKind k.Int64
int64_arithmetic op.Eq h = absurd (cc)
int64_arithmetic op.Ne h = absurd (cc)
int64_arithmetic op.Lt h = absurd (cc)
int64_arithmetic op.Le h = absurd (cc)
int64_arithmetic op.Gt h = absurd (cc)
int64_arithmetic op.Ge h = absurd (cc)
int64_arithmetic op.Both h = absurd (cc)
int64_arithmetic op.Either h = absurd (cc)
int64_arithmetic op.Like h = absurd (cc)
int64_arithmetic _ h = refl

module _ (may : Bool) (types : List Typing) where
  pub pair_type : (l : Typed) (o : BinOp) (r : Typed) → type_by may types (pair l o r) ≡ operator_type o (type_by may types l) (type_by may types r)
  pair_type l o r = by_chain may types l (link o r ∷ []) ∙ ap (λ s. chain_type (type_by may types l) (s ∷ [])) (by_link may types o r)

  -- a chain that stays flat has the type of its last operator
  layer_type : (z : Typed-F Typed TypedLink) (l : Typed) (o : BinOp) (r : Typed) → type_by may types l ≡ group_step types (map-Typed Typed TypedLink (Bool → Typing) (Bool → StepType) (types_of types) (links_of types) z) may → type_by may types (behind_layer z l o r) ≡ operator_type o (type_by may types l) (type_by may types r)
  layer_type (Typed-F.Chain first rest) l o r e =
      let start = type_by may types first in
      let steps = map (link_by may types) rest in
      by_chain may types first (rest ++ link o r ∷ [])
      ∙ ap (chain_type start) (map-append (link_by may types) rest (link o r ∷ []) ∙ ap (λ s. steps ++ s ∷ []) (by_link may types o r))
      ∙ one_more start steps (record { op = o; part = type_by may types r })
      ∙ ap (λ u. operator_type o u (type_by may types r)) (sym (e ∙ ap (chain_type start) (map-map (λ s. s may) (links_of types) rest)))
  layer_type (Typed-F.Constant x) l o r e = pair_type l o r
  layer_type (Typed-F.Place at) l o r e = pair_type l o r
  layer_type (Typed-F.Unary ops part) l o r e = pair_type l o r
  layer_type (Typed-F.Convert kind part) l o r e = pair_type l o r
  layer_type (Typed-F.Narrow kind part) l o r e = pair_type l o r
  layer_type (Typed-F.Call function parts) l o r e = pair_type l o r
  layer_type (Typed-F.Aggregate function kind part) l o r e = pair_type l o r
  layer_type (Typed-F.IsIn part list) l o r e = pair_type l o r
  layer_type (Typed-F.IsNull part) l o r e = pair_type l o r

  longer_type : (l : Typed) (o : BinOp) (r : Typed) → type_by may types (longer_chain l o r) ≡ operator_type o (type_by may types l) (type_by may types r)
  longer_type l o r = layer_type (out-Typed l) l o r (ap (λ f. f may) (fold_out-Typed (Bool → Typing) (Bool → StepType) (group_step types) group_link l))

  table_fits : (o : BinOp) (untyped : Bool) (l r d : Checked) → Fits may types l → Fits may types r → (untyped ≡ true → operator_type o l.typing r.typing ≡ OfKind k.Int64) → by_table o untyped l r ≡ Ok d → Fits may types d
  table_fits o untyped l r d h p w a =
      let tree = longer_chain l.tree o r.tree in
      let s = then_ok (require_type (operator_type o l.typing r.typing)) (λ type. Ok (no_literal untyped type tree)) d a in
      let u = ruled_ok (operator_type o l.typing r.typing) s.0 s.1 in
      subst (Fits may types) (same_ok (no_literal untyped s.0 tree) d s.2) (record {
        typed = subst IsTyped u.1 u.0;
        is = longer_type l.tree o r.tree ∙ ap (λ x. operator_type o x (type_by may types r.tree)) h.is ∙ ap (operator_type o l.typing) p.is ∙ u.1;
        loose = λ e. sym u.1 ∙ w e;
      })

  sides_fit : (o : BinOp) (l r d : Checked) → Fits may types l → Fits may types r → meet_sides o l r ≡ Ok d → Fits may types d
  sides_fit o l r d h p a =
      let s = then_ok (meet_type r.typing l) (λ x. then_with (meet_type l.typing r) (by_table o false x)) d a in
      let m = then_ok (meet_type l.typing r) (by_table o false s.0) d s.2 in
      table_fits o false s.0 m.0 d (meet_fits may types r.typing l s.0 h s.1) (meet_fits may types l.typing r m.0 p m.1) (λ e. absurd (cc)) m.2

  not_like : (o : BinOp) (l r d : Checked) → Fits may types l → Fits may types r →
      (if l.untyped && r.untyped then by_table o (is_arithmetic o) l r else (if shares_kind o then meet_sides o l r else by_table o false l r)) ≡ Ok d → Fits may types d
  not_like o l r d h p a =
      elim (chosen (l.untyped && r.untyped) (by_table o (is_arithmetic o) l r) (if shares_kind o then meet_sides o l r else by_table o false l r) d a) [
        | inl w ↦
            let b = both_true l.untyped r.untyped w.0 in
            table_fits o (is_arithmetic o) l r d h p (λ e. ap (λ x. operator_type o x r.typing) (h.loose b.0) ∙ ap (operator_type o (OfKind k.Int64)) (p.loose b.1) ∙ int64_arithmetic o e) w.1
        | inr w ↦ elim (chosen (shares_kind o) (meet_sides o l r) (by_table o false l r) d w.1) [
          | inl x ↦ sides_fit o l r d h p x.1
          | inr x ↦ table_fits o false l r d h p (λ e. absurd (cc)) x.1
        ]
      ]

  operation_fits : (o : BinOp) (l r d : Checked) → Fits may types l → Fits may types r → operation o l r ≡ Ok d → Fits may types d
  operation_fits o l r d h p a =
      elim (chosen (is_like o) (refused 10) (if l.untyped && r.untyped then by_table o (is_arithmetic o) l r else (if shares_kind o then meet_sides o l r else by_table o false l r)) d a) [
        | inl w ↦ absurd (let e = w.1 in cc)
        | inr w ↦ not_like o l r d h p w.1
      ]

  -- each part that is known has the type that is said of it
  abbrev pub EachStep : List Step → Type 0
  EachStep [] = Unit {0}
  EachStep (s ∷ steps) = ((c : Checked) → s.part ≡ Ok c → Fits may types c) × EachStep steps

  pub chain_fits : (c d : Checked) (steps : List Step) → Fits may types c → EachStep steps → add_steps c steps ≡ Ok d → Fits may types d
  chain_fits c d [] h e a = subst (Fits may types) (same_ok c d a) h
  chain_fits c d (s ∷ steps) h e a =
      let m = then_ok (add_step c s) (λ x. add_steps x steps) d a in
      let p = then_ok s.part (operation s.op c) m.0 m.1 in
      chain_fits m.0 d steps (operation_fits s.op c p.0 m.0 h (e.0 p.0 p.1) p.2) e.1 m.2
