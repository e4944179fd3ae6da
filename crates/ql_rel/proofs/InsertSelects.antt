-- The plan of an INSERT of the rows of a SELECT keeps what is promised of its types.
use Rattle.std.proofs.Common.{◌≡◌, Bool, true, false, ◌&&◌, ◌==◌, if◌then◌else◌, List, [], ◌∷◌, length, map, Option, Some, None, Ok, refl, sym, ap, subst, ◌∙◌, arith}
use Rattle.std.specs.List.{AllByRecursion}
use Rattle.ql_value.specs.Kinds.{is_integer}
use Rattle.ql_value.specs.Number.{has_number}
use Rattle.ql_value.specs.declared.refusal.TheConstants.{CONSTANT_RANGE}
use Rattle.ql_value.specs.declared.value.Kind.{Kind}
use Rattle.ql_value.specs.declared.value.Value.TheVariants as v
use Rattle.ql_syntax.specs.declared.checked.Checked.{Checked}
use Rattle.ql_syntax.specs.declared.checked.Literal.{Literal}
use Rattle.ql_syntax.specs.declared.statement.ColumnDef.{ColumnDef}
use Rattle.ql_syntax.specs.declared.syntax.Select.{Select, out-Select}
use Rattle.ql_syntax.specs.declared.typed.Typed.{Typed}
use Rattle.ql_syntax.specs.declared.typed.Typed.TheVariants as t
use Rattle.ql_syntax.specs.declared.typing.Typing.{Typing}
use Rattle.ql_syntax.specs.declared.typing.Typing.TheVariants.{OfKind}
use Rattle.ql_syntax.specs.Answers.{Answer, then_with, refused}
use Rattle.ql_syntax.specs.Checked.{of_type, number_of, narrow, take_kind, meet_type}
use Rattle.ql_syntax.specs.GroupTyping.{type_by, type_in_group}
use Rattle.ql_syntax.specs.Typing.{IsTyped, type_of}
use Rattle.ql_rel.specs.declared.change.Target.{Target}
use Rattle.ql_rel.specs.declared.plan.Plan.{Plan}
use Rattle.ql_rel.specs.declared.schema.Schema.{Schema}
use Rattle.ql_rel.specs.declared.select.ResultField.{ResultField}
use Rattle.ql_rel.specs.InsertPlans.{checked_fields, inserted_plan, inserted_select}
use Rattle.ql_rel.specs.Plans.{add_sets, any_field_aggregate, met_slot, field_slots, is_some_list, selected, whole_plan_of}
use Rattle.ql_rel.specs.PlanTypes.{types_if, slot_types, RowsSelected}
use Rattle.ql_rel.specs.Targets.{numbers_of, kinds_of, for_kind, for_targets, counted_for}
use Rattle.ql_rel.proofs.Fits.{Fits, then_ok, same_ok}
use Rattle.ql_rel.proofs.InsertFits.{for_parts, kind_typed, kind_typed_by, counted_ok, values_for}
use Rattle.ql_rel.proofs.PlanFits.{FieldsFit}
use Rattle.ql_rel.proofs.SelectFits.{ComesTo, right_false, plain_fields, whole_fits, selected_fits}
use Rattle.ql_rel.proofs.TargetFits.{AreFound}

-- an untyped expression that takes a kind has it
literal_kind : (kind : Kind) (l : Literal) (met : Checked) (b : Bool) → ◌≡◌ {A = Answer Checked} (if b then Ok (of_type (OfKind kind) (t.Constant (v.Int kind (number_of l)))) else refused CONSTANT_RANGE) (Ok met) → met.typing ≡ OfKind kind
literal_kind kind l met true e = ap (λ (c : Checked). c.typing) (sym (same_ok (of_type (OfKind kind) (t.Constant (v.Int kind (number_of l)))) met e))
literal_kind kind l met false e = absurd (cc)

taken_kind : (kind : Kind) (l : Option Literal) (tree : Typed) (met : Checked) → take_kind kind l tree ≡ Ok met → met.typing ≡ OfKind kind
taken_kind kind (Some l) tree met e = literal_kind kind l met (has_number kind (number_of l)) e
taken_kind kind None tree met e = ap (λ (c : Checked). c.typing) (sym (same_ok (of_type (OfKind kind) (narrow kind tree)) met e))

-- the type of what met a kind is that of the field's place
met_if : (kind : Kind) (c met : Checked) (b : Bool) → ◌≡◌ {A = Answer Checked} (if b then take_kind kind c.literal c.tree else Ok c) (Ok met) → met.typing ≡ (if b then OfKind kind else c.typing)
met_if kind c met true e = taken_kind kind c.literal c.tree met e
met_if kind c met false e = ap (λ (d : Checked). d.typing) (sym (same_ok c met e))

met_is : (kind : Kind) (c met : Checked) → meet_type (OfKind kind) c ≡ Ok met → met.typing ≡ (if c.untyped && is_integer kind then OfKind kind else c.typing)
met_is kind c met e = met_if kind c met (c.untyped && is_integer kind) e

-- the trees that the fields come to have the types of the fields' places
module _ (may : Bool) (row : List Typing) where
  one_comes : (kind : Kind) (x : ResultField) (tree : Typed) → Fits may row x.expr → for_kind kind x.expr ≡ Ok tree → ((met_slot kind x).typing ≡ type_by may row tree) × IsTyped (met_slot kind x).typing
  one_comes kind x tree f a =
      let m = for_parts may row kind x.expr tree f a in
      let is = met_is kind x.expr m.0 m.1 in
      (sym is ∙ sym m.2.is ∙ ap (type_by may row) m.3, subst IsTyped is m.2.typed)

  all_come : (targets : List Target) (fields : List ResultField) (trees : List Typed) → FieldsFit may row fields → length (map (λ (x : ResultField). x.expr) fields) ≡ length targets
      → for_targets targets (map (λ (x : ResultField). x.expr) fields) ≡ Ok trees → ComesTo (type_by may row) (field_slots (kinds_of targets) fields) trees
  all_come [] [] trees f n a = subst (ComesTo (type_by may row) []) (same_ok [] trees a) (record { types = refl; typed = tt })
  all_come [] (x ∷ fields) trees f n a = absurd (omega (arith, n))
  all_come (t ∷ targets) [] trees f n a = absurd (omega (arith, n))
  all_come (t ∷ targets) (x ∷ fields) trees f n a =
      let tree = then_ok (for_kind t.kind x.expr) (λ y. then_with (for_targets targets (map (λ (z : ResultField). z.expr) fields)) (λ ys. Ok (y ∷ ys))) trees a in
      let more = then_ok (for_targets targets (map (λ (z : ResultField). z.expr) fields)) (λ ys. Ok (tree.0 ∷ ys)) trees tree.2 in
      let one = one_comes t.kind x tree.0 f.0 tree.1 in
      let rest = all_come targets fields more.0 f.1 (omega (arith, n)) more.1 in
      subst (ComesTo (type_by may row) (met_slot t.kind x ∷ field_slots (kinds_of targets) fields)) (same_ok (tree.0 ∷ more.0) trees more.2)
      (record {
        types = ap (λ u. u ∷ slot_types (field_slots (kinds_of targets) fields)) one.0 ∙ ap (λ us. type_by may row tree.0 ∷ us) rest.types;
        typed = (one.1, rest.typed);
      })

  each_fits : (fields : List ResultField) → FieldsFit may row fields → AllByRecursion (Fits may row) (map (λ (x : ResultField). x.expr) fields)
  each_fits [] h = tt
  each_fits (x ∷ fields) h = (h.0, each_fits fields h.1)

pub select_inserted : (schema : Schema) (columns : List ColumnDef) (targets : List Target) (select : Select) (p : Plan) → AreFound 0 columns targets → inserted_select schema targets select ≡ Ok p
    → RowsSelected (types_if (add_sets schema [] (out-Select select).sets)) columns p
select_inserted schema columns targets select p found a =
    let row = types_if (add_sets schema [] (out-Select select).sets) in
    let x = then_ok (selected schema (kinds_of targets) select) (inserted_plan targets) p a in
    let trees = then_ok (counted_for targets (checked_fields x.0)) (λ ts. Ok (record (whole_plan_of x.0) { fields = ts; targets = numbers_of targets })) p x.2 in
    let parts = selected_fits schema (kinds_of targets) select x.0 x.1 in
    let fields = x.0.output.fields in
    let n = counted_ok targets (checked_fields x.0) trees.0 (length (checked_fields x.0) == length targets) refl trees.1 in
    let comes = all_come true row targets fields trees.0 parts.output.fields n.0 n.1 in
    let plain : any_field_aggregate fields ≡ false → ComesTo (type_by false row) (field_slots (kinds_of targets) fields) trees.0 = λ e. all_come false row targets fields trees.0 (plain_fields row fields e parts.output.fields) n.0 n.1 in
    subst (RowsSelected row columns) (same_ok (record (whole_plan_of x.0) { fields = trees.0; targets = numbers_of targets }) p trees.2) (record {
      select = whole_fits (kinds_of targets) row x.0 trees.0 (numbers_of targets) parts comes plain;
      values = λ e.
          let own : any_field_aggregate fields ≡ false = right_false (is_some_list x.0.groups) (any_field_aggregate fields) (parts.output.grouped ∙ e) in
          values_for (type_of row) (Fits false row) (kind_typed row) columns targets (checked_fields x.0) trees.0 found n.0 (each_fits false row fields (plain_fields row fields own parts.output.fields)) n.1;
      group_values = values_for (type_in_group row) (Fits true row) (kind_typed_by true row) columns targets (checked_fields x.0) trees.0 found n.0 (each_fits true row fields parts.output.fields) n.1;
    })
