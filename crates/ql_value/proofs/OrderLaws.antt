-- The laws of the order of values.
use Rattle.std.proofs.Common.{◌≡◌, ◌≢◌, ℕ, ◌<◌, ℤ, pos, ◌<ℤ◌, true, false, List, [], ◌∷◌, refl, sym, ap, ◌∙◌}
use Rattle.std.specs.declared.cmp.Ordering.{Ordering}
use Rattle.std.specs.declared.cmp.Ordering.TheVariants.{Less, Equal, Greater}
use Rattle.std.specs.Ordering.{nat_cmp, int_cmp, ordering_then, ordering_reverse, then_cmp, on, MatchOrdering}
use Rattle.std.specs.Cmp.{IsTotalOrder}
use Rattle.std.specs.Cmp.Lexicographic.{slice_cmp}
use Rattle.std.proofs.lemmas.Cmp.{ranked, int_ranked, on_total, then_total, nat_cmp_total, int_cmp_total, nat_list_cmp_total}
use Rattle.ql_value.specs.declared.value.Kind.{Kind}
use Rattle.ql_value.specs.declared.value.Value.{Value}
use Rattle.ql_value.specs.declared.value.Value.TheVariants as v
use Rattle.ql_value.specs.Order.{compared, rank}
use Rattle.ql_value.specs.Number.{HasKind}
use Rattle.ql_value.specs.OrderLaws.{OrderLaws}

-- the parts by which values are compared, one after another
abbrev truth : Value → ℕ
truth (v.Bool true) = 1
truth _ = 0

abbrev number : Value → ℤ
number (v.Int _ z) = z
number _ = pos 0

abbrev bytes : Value → List ℕ
bytes (v.Text b) = b
bytes (v.Blob b) = b
bytes _ = []

abbrev by_parts : Value → Value → Ordering
by_parts = then_cmp (on rank nat_cmp) (then_cmp (on truth nat_cmp) (then_cmp (on number int_cmp) (on bytes (slice_cmp nat_cmp))))

by_parts_total : IsTotalOrder by_parts
by_parts_total =
    then_total (on_total rank nat_cmp_total)
    (then_total (on_total truth nat_cmp_total) (then_total (on_total number int_cmp_total) (on_total bytes nat_list_cmp_total)))

then_equal : (o : Ordering) → o ≡ ordering_then o Equal
then_equal Less = refl
then_equal Equal = refl
then_equal Greater = refl

same_parts : (x y : Value) → compared x y ≡ by_parts x y
same_parts (v.Bool false) (v.Bool false) = refl
same_parts (v.Bool false) (v.Bool true) = refl
same_parts (v.Bool true) (v.Bool false) = refl
same_parts (v.Bool true) (v.Bool true) = refl
same_parts (v.Int _ a) (v.Int _ b) = then_equal (int_cmp a b)
same_parts (v.Text a) (v.Text b) = refl
same_parts (v.Blob a) (v.Blob b) = refl
same_parts v.Null v.Null = refl
same_parts v.Null (v.Bool _) = refl
same_parts v.Null (v.Int _ _) = refl
same_parts v.Null (v.Text _) = refl
same_parts v.Null (v.Blob _) = refl
same_parts (v.Bool _) v.Null = refl
same_parts (v.Bool _) (v.Int _ _) = refl
same_parts (v.Bool _) (v.Text _) = refl
same_parts (v.Bool _) (v.Blob _) = refl
same_parts (v.Int _ _) v.Null = refl
same_parts (v.Int _ _) (v.Bool _) = refl
same_parts (v.Int _ _) (v.Text _) = refl
same_parts (v.Int _ _) (v.Blob _) = refl
same_parts (v.Text _) v.Null = refl
same_parts (v.Text _) (v.Bool _) = refl
same_parts (v.Text _) (v.Int _ _) = refl
same_parts (v.Text _) (v.Blob _) = refl
same_parts (v.Blob _) v.Null = refl
same_parts (v.Blob _) (v.Bool _) = refl
same_parts (v.Blob _) (v.Int _ _) = refl
same_parts (v.Blob _) (v.Text _) = refl

compared_total : IsTotalOrder compared
compared_total =
    let t = by_parts_total in
    record {
      antisymm = λ x y. same_parts x y ∙ t.antisymm x y ∙ ap ordering_reverse (sym (same_parts y x));
      trans = λ x y z p q. same_parts x z ∙ t.trans x y z (sym (same_parts x y) ∙ p) (sym (same_parts y z) ∙ q);
      congr = λ x y z p. same_parts x z ∙ t.congr x y z (sym (same_parts x y) ∙ p) ∙ sym (same_parts y z);
    }

then_both : (o p : Ordering) → ordering_then o p ≡ Equal → (o ≡ Equal) × (p ≡ Equal)
then_both Less p e = cc
then_both Equal p e = (refl, e)
then_both Greater p e = cc

number_same : (a b : ℕ) (o : Ordering) → MatchOrdering o (a < b) (a ≡ b) (b < a) → o ≡ Equal → a ≡ b
number_same a b Less m e = cc
number_same a b Equal m e = m
number_same a b Greater m e = cc

int_same : (a b : ℤ) (o : Ordering) → MatchOrdering o (a <ℤ b) (a ≡ b) (b <ℤ a) → o ≡ Equal → a ≡ b
int_same a b Less m e = cc
int_same a b Equal m e = m
int_same a b Greater m e = cc

bytes_same : (a b : List ℕ) → slice_cmp nat_cmp a b ≡ Equal → a ≡ b
bytes_same [] [] e = refl
bytes_same [] (y ∷ b) e = cc
bytes_same (x ∷ a) [] e = cc
bytes_same (x ∷ a) (y ∷ b) e =
    let both = then_both (nat_cmp x y) (slice_cmp nat_cmp a b) e in
    let first = number_same x y (nat_cmp x y) (ranked x y (nat_cmp x y) refl) both.0 in
    let others = bytes_same a b both.1 in
    cc

value_same : (kind : Kind) (x y : Value) → HasKind kind x → HasKind kind y → compared x y ≡ Equal → x ≡ y
value_same kind v.Null v.Null h g e = refl
value_same kind (v.Bool false) (v.Bool false) h g e = refl
value_same kind (v.Bool false) (v.Bool true) h g e = cc
value_same kind (v.Bool true) (v.Bool false) h g e = cc
value_same kind (v.Bool true) (v.Bool true) h g e = refl
value_same kind (v.Int i a) (v.Int j b) h g e =
    let same = int_same a b (int_cmp a b) (int_ranked a b (int_cmp a b) refl) e in
    let own = h.0 in
    let other = g.0 in
    cc
value_same kind (v.Text a) (v.Text b) h g e = ap v.Text (bytes_same a b e)
value_same kind (v.Blob a) (v.Blob b) h g e = ap v.Blob (bytes_same a b e)
value_same kind v.Null (v.Bool _) h g e = cc
value_same kind v.Null (v.Int _ _) h g e = cc
value_same kind v.Null (v.Text _) h g e = cc
value_same kind v.Null (v.Blob _) h g e = cc
value_same kind (v.Bool _) v.Null h g e = cc
value_same kind (v.Bool _) (v.Int _ _) h g e = cc
value_same kind (v.Bool _) (v.Text _) h g e = cc
value_same kind (v.Bool _) (v.Blob _) h g e = cc
value_same kind (v.Int _ _) v.Null h g e = cc
value_same kind (v.Int _ _) (v.Bool _) h g e = cc
value_same kind (v.Int _ _) (v.Text _) h g e = cc
value_same kind (v.Int _ _) (v.Blob _) h g e = cc
value_same kind (v.Text _) v.Null h g e = cc
value_same kind (v.Text _) (v.Bool _) h g e = cc
value_same kind (v.Text _) (v.Int _ _) h g e = cc
value_same kind (v.Text _) (v.Blob _) h g e = cc
value_same kind (v.Blob _) v.Null h g e = cc
value_same kind (v.Blob _) (v.Bool _) h g e = cc
value_same kind (v.Blob _) (v.Int _ _) h g e = cc
value_same kind (v.Blob _) (v.Text _) h g e = cc

null_least : (x : Value) → compared v.Null x ≢ Greater
null_least v.Null e = cc
null_least (v.Bool _) e = cc
null_least (v.Int _ _) e = cc
null_least (v.Text _) e = cc
null_least (v.Blob _) e = cc

pub the_order_laws : OrderLaws
the_order_laws = record { total = compared_total; same = value_same; null_first = null_least }
