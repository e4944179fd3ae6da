-- What the checker's columns and plans of a SELECT stand for.
use Rattle.std.specs.Prelude.{◌≡◌, ℕ, Bool, List, [], map, Option, Some, None}
use Rattle.std.specs.Borrow.{Bor}
use Rattle.ql_syntax.specs.declared.checked.Checked.{Checked}
use Rattle.ql_syntax.specs.declared.scope.Slot.{Slot}
use Rattle.ql_syntax.specs.declared.typed.Typed.{Typed}
use Rattle.ql_rel.specs.declared.change.Target.{Target}
use Rattle.ql_rel.specs.declared.plan.Plan.{Plan}
use Rattle.ql_rel.specs.declared.select.Limits.{Limits}
use Rattle.ql_rel.specs.declared.select.ResultField.{ResultField}
use Rattle.ql_rel.specs.CreatePlans.{no_parts}
use Rattle.ql_rel.specs.Plans.{field_slot, met_slot}
use Rattle.ql_check.specs.declared.plan.Columns.{Columns}

-- the name, or an empty one
abbrev pub name_or_none : Option (Bor (List ℕ)) → List ℕ
name_or_none None = []
name_or_none (Some name) = name.now

-- the expressions and the names of fields
abbrev pub AreColumns : Columns → List ResultField → Type 0
AreColumns x fields = (x.parts ≡ map (λ f. f.expr) fields) × (x.names ≡ map (λ f. f.name) fields)

-- expressions without what is known of them
abbrev pub trees : List Checked → List Typed
trees parts = map (λ c. c.tree) parts

-- a field as a place, where it is for a column or for none
abbrev pub slot_for : Option Target → ResultField → Slot
slot_for (Some target) x = met_slot target.kind x
slot_for None x = field_slot x

-- what the plan of a SELECT has beside its fields
abbrev pub bare : Option Typed → List Typed → Bool → List Typed → Limits → Plan
bare filter groups grouped keys limits =
    record no_parts { filter = filter; groups = groups; grouped = grouped; keys = keys; limit = limits.limit; offset = limits.offset }
