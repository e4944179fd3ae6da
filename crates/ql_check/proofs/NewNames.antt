-- Names that are gathered in a set.
use Rattle.std.proofs.Common.{◌≡◌, ℕ, ◌+◌, ◌<◌, Bool, true, false, cond, ◌||◌, List, [], ◌∷◌, ◌++◌, length, take, drop, get_or, Result, Ok, Err, refl, sym, ap, subst, ◌∙◌}
use Rattle.std.specs.Prelude.{IsErrAnd}
use Rattle.std.specs.Borrow.{Bor}
use Rattle.std.specs.BTreeSet.{BTreeSet, contains, Updates}
use Rattle.std.specs.Cmp.Lexicographic.{slice_cmp}
use Rattle.std.specs.Ordering.{nat_cmp}
use Rattle.std.specs.Str.{bytes_eq}
use Rattle.std.proofs.lemmas.List.{drop_more, take_more}
use Rattle.std.proofs.lemmas.Map.Text.{is_eq-slice_cmp}
use Rattle.ql_syntax.specs.declared.statement.ColumnDef.{ColumnDef}
use Rattle.ql_syntax.specs.Answers.{Answer, then_with}
use Rattle.ql_rel.specs.CreatePlans.{new_column, new_columns}
use Rattle.ql_rel.specs.Names.{has_name, column_names}
use Rattle.ql_check_expr.specs.declared.fault.CheckFault.{CheckFault}
use Rattle.ql_check_expr.specs.declared.fault.CheckFault.TheVariants as fault
use Rattle.ql_check_expr.specs.Gives.{Gives}
use Rattle.ql_check.specs.NameSets.{HoldsNames}

any_or : (a b c : Bool) → (a || cond b true c) ≡ cond b true (a || c)
any_or true true c = refl
any_or true false c = refl
any_or false b c = refl

one_of : (a : Bool) → (a || false) ≡ cond a true false
one_of true = refl
one_of false = refl

-- one name behind others
has_behind : (q name : List ℕ) (names : List (List ℕ)) → has_name q (names ++ name ∷ []) ≡ cond (bytes_eq name q) true (has_name q names)
has_behind q name [] = one_of (bytes_eq name q)
has_behind q name (other ∷ names) = ap (λ (z : Bool). bytes_eq other q || z) (has_behind q name names) ∙ any_or (bytes_eq other q) (bytes_eq name q) (has_name q names)

pub holds_none : (set : BTreeSet (Bor (List ℕ))) → set.keys ≡ [] → HoldsNames set []
holds_none set e = λ q. rw e refl

pub holds_more : (name : Bor (List ℕ)) (names : List (List ℕ)) (old new : BTreeSet (Bor (List ℕ))) → Updates (λ a b. slice_cmp nat_cmp a.now b.now) old new name true → HoldsNames old names → HoldsNames new (names ++ name.now ∷ [])
holds_more name names old new u h =
    λ q. u.0 q ∙ ap (λ (z : Bool). cond z true (contains (λ a b. slice_cmp nat_cmp a.now b.now) old q)) (is_eq-slice_cmp name.now q.now)
    ∙ ap (λ (z : Bool). cond (bytes_eq name.now q.now) true z) (h q) ∙ sym (has_behind q.now name.now names)

names_behind : (columns : List ColumnDef) (x : ColumnDef) → column_names (columns ++ x ∷ []) ≡ column_names columns ++ x.name ∷ []
names_behind [] x = refl
names_behind (c ∷ columns) x = ap (λ (z : List (List ℕ)). c.name ∷ z) (names_behind columns x)

-- the names of the columns before the next one
pub names_more : (columns : List ColumnDef) (i : ℕ) (x d : ColumnDef) → i < length columns → x ≡ get_or columns i d → column_names (take (i + 1) columns) ≡ column_names (take i columns) ++ x.name ∷ []
names_more columns i x d h e = ap column_names (take_more columns i d h ∙ ap (λ (z : ColumnDef). take i columns ++ z ∷ []) (sym e)) ∙ names_behind (take i columns) x

-- the next column and those behind it
columns_from : (columns : List ColumnDef) (i : ℕ) (x d : ColumnDef) (before : List (List ℕ)) → i < length columns → x ≡ get_or columns i d
    → new_columns before (drop i columns) ≡ then_with (new_column before x) (λ _. new_columns (before ++ x.name ∷ []) (drop (i + 1) columns))
columns_from columns i x d before h e = ap (new_columns before) (drop_more columns i d h ∙ ap (λ (z : ColumnDef). z ∷ drop (i + 1) columns) (sym e))

pub columns_more : (columns : List ColumnDef) (i : ℕ) (x d : ColumnDef) (u : Unit {0}) (total : Answer (Unit {0})) → i < length columns → x ≡ get_or columns i d → new_column (column_names (take i columns)) x ≡ Ok u
    → new_columns (column_names (take i columns)) (drop i columns) ≡ total → new_columns (column_names (take (i + 1) columns)) (drop (i + 1) columns) ≡ total
columns_more columns i x d u total h e k w =
    let before = column_names (take i columns) in
    ap (λ (z : List (List ℕ)). new_columns z (drop (i + 1) columns)) (names_more columns i x d h e)
    ∙ sym (columns_from columns i x d before h e ∙ ap (λ (z : Answer (Unit {0})). then_with z (λ _. new_columns (before ++ x.name ∷ []) (drop (i + 1) columns))) k) ∙ w

refused_column : (columns : List ColumnDef) (i : ℕ) (x d : ColumnDef) (f : CheckFault) (total : Answer (Unit {0})) → i < length columns → x ≡ get_or columns i d → Gives (new_column (column_names (take i columns)) x) (Err f)
    → new_columns (column_names (take i columns)) (drop i columns) ≡ total → Gives total (Err f)
refused_column columns i x d (fault.Refused r) total h e k w =
    let before = column_names (take i columns) in
    sym w ∙ columns_from columns i x d before h e ∙ ap (λ (z : Answer (Unit {0})). then_with z (λ _. new_columns (before ++ x.name ∷ []) (drop (i + 1) columns))) k
refused_column columns i x d fault.NoMemory total h e k w = tt

pub stops_at_column : (columns : List ColumnDef) (i : ℕ) (x d : ColumnDef) (f : CheckFault) (result : Result (Unit {0}) CheckFault) (total : Answer (Unit {0})) → i < length columns → x ≡ get_or columns i d
    → Gives (new_column (column_names (take i columns)) x) (Err f) → IsErrAnd result (λ g. g ≡ f) → new_columns (column_names (take i columns)) (drop i columns) ≡ total → Gives total result
stops_at_column columns i x d f (Ok u) total h e k j w = absurd j
stops_at_column columns i x d f (Err g) total h e k j w = subst (λ (z : CheckFault). Gives total (Err z)) (sym j) (refused_column columns i x d f total h e k w)
