-- What is read as a row is spelled so, and what is spelled so is read.
use Rattle.std.proofs.Common.{◌≡◌, ℕ, zero, suc, ◌+◌, sum_by, ◌^◌, ◌<◌, Bool, true, false, cond, eqb, inl, inr, ℤ, List, [], ◌∷◌, ◌++◌, length, Option, Some, None, Result, Ok, Err, IfOk, refl, sym, ap, subst, ◌∙◌, append_assoc, arith}
use Rattle.std.specs.List.{flat_map, fold, AllByRecursion}
use Rattle.std.specs.Int.{w16, w64, to_be_bytes, cast_unsigned}
use Rattle.std.proofs.lemmas.Bool.{eqb-true, eq-eqb, false≢true}
use Rattle.std.proofs.lemmas.List.{append-nil, length-append, nil_from_length}
use Rattle.ql_value.specs.Length.{value_length}
use Rattle.ql_value.specs.RowLaws.{RowLaws}
use Rattle.std.proofs.lemmas.List.Concat.{flat_map-cons, length-flat_map}
use Rattle.ql_value.specs.Number.{HasKind, HasNumber, IsInteger}
use Rattle.ql_edge.specs.Answers.{Gives}
use Rattle.ql_value.specs.declared.fault.RowFault.{RowFault}
use Rattle.ql_value.specs.RowReading.{◌>>=◌, stands_for, number_at, string_at, integer_at, truth_at, text_at, blob_at, present_at, value_at, values_at, row_in}
use Rattle.ql_value.specs.Rows.{number_tag, string_bytes, value_bytes, row_bytes, HasLength, HaveKinds, Spells}
use Rattle.ql_value.specs.declared.value.Kind.{Kind}
use Rattle.ql_value.specs.declared.value.Kind.TheVariants as k
use Rattle.ql_value.specs.declared.value.Value.{Value}
use Rattle.ql_value.specs.declared.value.Value.TheVariants as v
use Rattle.ql_value.proofs.RowFields.{IsBytes, IsBytes-rest, bind_some, guard_some, chosen, some_is, Takes, Takes-then, wide16, number_takes, number_again, string_takes, string_again, integer_takes, integer_again}

-- a value of the kind was taken from the front
abbrev pub TakesValue : Kind → List ℕ → Value × List ℕ → Type 0
TakesValue kind bytes x = Takes bytes (value_bytes x.0) x.1 × HasKind kind x.0 × HasLength x.0

-- a byte more in front
behind : (b : ℕ) (bytes text rest : List ℕ) → Takes bytes text rest → Takes (b ∷ bytes) (b ∷ text) rest
behind b bytes text rest t = record { parts = ap (λ (w : List ℕ). b ∷ w) t.parts; rest_fits = t.rest_fits }

alone : (b : ℕ) (bytes : List ℕ) → IsBytes (b ∷ bytes) → Takes (b ∷ bytes) (b ∷ []) bytes
alone b bytes fits = record { parts = refl; rest_fits = IsBytes-rest b bytes fits }

truth_takes : (tag : ℕ) (bytes : List ℕ) (x : Value × List ℕ) → IsBytes (tag ∷ bytes) → truth_at tag bytes ≡ Some x → TakesValue k.Bool (tag ∷ bytes) x
unfolding truth_at
truth_takes tag bytes x fits e =
    elim (chosen (eqb tag 1) (Some (v.Bool false, bytes)) (cond (eqb tag 2) (Some (v.Bool true, bytes)) None) (Some x) e) [
      | inl h ↦ rw (eqb-true tag 1 h.0) (subst (TakesValue k.Bool (1 ∷ bytes)) (some_is (v.Bool false, bytes) x h.1) (alone 1 bytes (subst (λ n. IsBytes (n ∷ bytes)) (eqb-true tag 1 h.0) fits), tt, tt))
      | inr h ↦
          let g = guard_some (eqb tag 2) (Some (v.Bool true, bytes)) x h.1 in
          rw (eqb-true tag 2 g.0) (subst (TakesValue k.Bool (2 ∷ bytes)) (some_is (v.Bool true, bytes) x g.1) (alone 2 bytes (subst (λ n. IsBytes (n ∷ bytes)) (eqb-true tag 2 g.0) fits), tt, tt))
    ]

text_takes : (tag : ℕ) (bytes : List ℕ) (x : Value × List ℕ) → IsBytes (tag ∷ bytes) → text_at tag bytes ≡ Some x → TakesValue k.Text (tag ∷ bytes) x
unfolding text_at
text_takes tag bytes x fits e =
    let g = guard_some (eqb tag 5) (string_at bytes >>= λ s. Some (v.Text s.0, s.1)) x e in
    let b = bind_some (string_at bytes) (λ s. Some (v.Text s.0, s.1)) x g.1 in
    let t = string_takes bytes b.0.0 b.0.1 (IsBytes-rest tag bytes fits) b.1 in
    let five : 5 ≡ tag = sym (eqb-true tag 5 g.0) in
    subst (λ (n : ℕ). TakesValue k.Text (n ∷ bytes) x) five
    (subst (TakesValue k.Text (5 ∷ bytes)) (some_is (v.Text b.0.0, b.0.1) x b.2) (behind 5 bytes (string_bytes b.0.0) b.0.1 t.0, tt, t.1))

blob_takes : (tag : ℕ) (bytes : List ℕ) (x : Value × List ℕ) → IsBytes (tag ∷ bytes) → blob_at tag bytes ≡ Some x → TakesValue k.Blob (tag ∷ bytes) x
unfolding blob_at
blob_takes tag bytes x fits e =
    let g = guard_some (eqb tag 6) (string_at bytes >>= λ s. Some (v.Blob s.0, s.1)) x e in
    let b = bind_some (string_at bytes) (λ s. Some (v.Blob s.0, s.1)) x g.1 in
    let t = string_takes bytes b.0.0 b.0.1 (IsBytes-rest tag bytes fits) b.1 in
    let six : 6 ≡ tag = sym (eqb-true tag 6 g.0) in
    subst (λ (n : ℕ). TakesValue k.Blob (n ∷ bytes) x) six
    (subst (TakesValue k.Blob (6 ∷ bytes)) (some_is (v.Blob b.0.0, b.0.1) x b.2) (behind 6 bytes (string_bytes b.0.0) b.0.1 t.0, tt, t.1))

number_takes_kind : (kind : Kind) (tag : ℕ) (bytes : List ℕ) (x : Value × List ℕ) → IsInteger kind → IsBytes (tag ∷ bytes)
    → cond (eqb tag (number_tag kind)) (integer_at kind bytes) None ≡ Some x → TakesValue kind (tag ∷ bytes) x
number_takes_kind kind tag bytes x i fits e =
    let g = guard_some (eqb tag (number_tag kind)) (integer_at kind bytes) x e in
    let a = integer_takes kind bytes x (IsBytes-rest tag bytes fits) g.1 in
    let same : number_tag kind ≡ tag = sym (eqb-true tag (number_tag kind) g.0) in
    let made : TakesValue kind (number_tag kind ∷ bytes) (v.Int kind a.0, x.1) = (behind (number_tag kind) bytes (to_be_bytes w64 (cast_unsigned w64 a.0)) x.1 a.3, (refl, i, a.2), tt) in
    subst (λ (n : ℕ). TakesValue kind (n ∷ bytes) x) same (subst (λ (y : Value). TakesValue kind (number_tag kind ∷ bytes) (y, x.1)) a.1 made)

present_takes : (kind : Kind) (tag : ℕ) (bytes : List ℕ) (x : Value × List ℕ) → IsBytes (tag ∷ bytes) → present_at kind tag bytes ≡ Some x → TakesValue kind (tag ∷ bytes) x
present_takes k.Bool tag bytes x fits e = truth_takes tag bytes x fits e
present_takes k.Text tag bytes x fits e = text_takes tag bytes x fits e
present_takes k.Blob tag bytes x fits e = blob_takes tag bytes x fits e
present_takes k.Int8 tag bytes x fits e = number_takes_kind k.Int8 tag bytes x refl fits e
present_takes k.Int16 tag bytes x fits e = number_takes_kind k.Int16 tag bytes x refl fits e
present_takes k.Int32 tag bytes x fits e = number_takes_kind k.Int32 tag bytes x refl fits e
present_takes k.Int64 tag bytes x fits e = number_takes_kind k.Int64 tag bytes x refl fits e
present_takes k.Uint8 tag bytes x fits e = number_takes_kind k.Uint8 tag bytes x refl fits e
present_takes k.Uint16 tag bytes x fits e = number_takes_kind k.Uint16 tag bytes x refl fits e
present_takes k.Uint32 tag bytes x fits e = number_takes_kind k.Uint32 tag bytes x refl fits e
present_takes k.Uint64 tag bytes x fits e = number_takes_kind k.Uint64 tag bytes x refl fits e

null_kind : (kind : Kind) → HasKind kind v.Null
null_kind k.Bool = tt
null_kind k.Text = tt
null_kind k.Blob = tt
null_kind _ = tt

value_takes : (kind : Kind) (bytes : List ℕ) (x : Value × List ℕ) → IsBytes bytes → value_at kind bytes ≡ Some x → TakesValue kind bytes x
unfolding value_at
value_takes kind [] x fits e = absurd cc
value_takes kind (tag ∷ bytes) x fits e =
    elim (chosen (eqb tag 0) (Some (v.Null, bytes)) (present_at kind tag bytes) (Some x) e) [
      | inl h ↦ rw (eqb-true tag 0 h.0) (subst (TakesValue kind (0 ∷ bytes)) (some_is (v.Null, bytes) x h.1) (alone 0 bytes (subst (λ n. IsBytes (n ∷ bytes)) (eqb-true tag 0 h.0) fits), null_kind kind, tt))
      | inr h ↦ present_takes kind tag bytes x fits h.1
    ]

-- values of the kinds were taken from the front
abbrev TakesValues : List Kind → List ℕ → List Value × List ℕ → Type 0
TakesValues kinds bytes x = Takes bytes (flat_map value_bytes x.0) x.1 × HaveKinds kinds x.0 × AllByRecursion HasLength x.0 × (length x.0 ≡ length kinds)

values_take : (kinds : List Kind) (bytes : List ℕ) (x : List Value × List ℕ) → IsBytes bytes → values_at kinds bytes ≡ Some x → TakesValues kinds bytes x
unfolding values_at
values_take [] bytes x fits e =
    subst (TakesValues [] bytes) (some_is ([], bytes) x e) (record { parts = refl; rest_fits = fits }, tt, tt, refl)
values_take (kind ∷ kinds) bytes x fits e =
    let a = bind_some (value_at kind bytes) (λ first. values_at kinds first.1 >>= λ others. Some (first.0 ∷ others.0, others.1)) x e in
    let b = bind_some (values_at kinds a.0.1) (λ others. Some (a.0.0 ∷ others.0, others.1)) x a.2 in
    let first = value_takes kind bytes a.0 fits a.1 in
    let second = values_take kinds a.0.1 b.0 first.0.rest_fits b.1 in
    let both = Takes-then bytes (value_bytes a.0.0) a.0.1 (flat_map value_bytes b.0.0) b.0.1 first.0 second.0 in
    subst (TakesValues (kind ∷ kinds) bytes) (some_is (a.0.0 ∷ b.0.0, b.0.1) x b.2)
    (rw flat_map-cons both, (first.1, second.1), (first.2, second.2), ap suc second.3)

pub row_takes : (kinds : List Kind) (bytes : List ℕ) (values : List Value) → IsBytes bytes → row_in kinds bytes ≡ Some values → Spells kinds values bytes
unfolding row_in
row_takes kinds bytes values fits e =
    let a = bind_some (number_at w16 bytes) (λ n. values_at kinds n.1 >>= λ x. cond (eqb n.0 (length kinds)) (cond (eqb (length x.1) 0) (Some x.0) None) None) values e in
    let b = bind_some (values_at kinds a.0.1) (λ x. cond (eqb a.0.0 (length kinds)) (cond (eqb (length x.1) 0) (Some x.0) None) None) values a.2 in
    let g = guard_some (eqb a.0.0 (length kinds)) (cond (eqb (length b.0.1) 0) (Some b.0.0) None) values b.2 in
    let h = guard_some (eqb (length b.0.1) 0) (Some b.0.0) values g.1 in
    let first = number_takes w16 (2 ^ 16) wide16 bytes a.0.0 a.0.1 fits a.1 in
    let second = values_take kinds a.0.1 b.0 first.0.rest_fits b.1 in
    let nothing : b.0.1 ≡ [] = nil_from_length b.0.1 (eqb-true _ _ h.0) in
    let both = (Takes-then bytes (to_be_bytes w16 a.0.0) a.0.1 (flat_map value_bytes b.0.0) b.0.1 first.0 second.0).parts in
    let many : length b.0.0 ≡ a.0.0 = second.3 ∙ sym (eqb-true _ _ g.0) in
    let whole : bytes ≡ row_bytes b.0.0 = both ∙ ap (λ (r : List ℕ). (to_be_bytes w16 a.0.0 ++ flat_map value_bytes b.0.0) ++ r) nothing ∙ append-nil (to_be_bytes w16 a.0.0 ++ flat_map value_bytes b.0.0) ∙ ap (λ (k : ℕ). to_be_bytes w16 k ++ flat_map value_bytes b.0.0) (sym many) in
    subst (λ (vs : List Value). Spells kinds vs bytes) (some_is b.0.0 values h.1)
    (record { fit = second.1; lengths = second.2; count = omega (arith, many, first.1); spelling = whole })

-- ---- and back

int_at : (kind : Kind) (z : ℤ) (rest : List ℕ) → IsInteger kind → HasNumber kind z → value_at kind (value_bytes (v.Int kind z) ++ rest) ≡ Some (v.Int kind z, rest)
unfolding value_at
int_at k.Int8 z rest i h = integer_again k.Int8 z rest i h
int_at k.Int16 z rest i h = integer_again k.Int16 z rest i h
int_at k.Int32 z rest i h = integer_again k.Int32 z rest i h
int_at k.Int64 z rest i h = integer_again k.Int64 z rest i h
int_at k.Uint8 z rest i h = integer_again k.Uint8 z rest i h
int_at k.Uint16 z rest i h = integer_again k.Uint16 z rest i h
int_at k.Uint32 z rest i h = integer_again k.Uint32 z rest i h
int_at k.Uint64 z rest i h = integer_again k.Uint64 z rest i h
int_at k.Bool z rest i h = absurd (false≢true i)
int_at k.Text z rest i h = absurd (false≢true i)
int_at k.Blob z rest i h = absurd (false≢true i)

int_again : (kind own : Kind) (z : ℤ) (rest : List ℕ) → own ≡ kind → IsInteger kind → HasNumber kind z → value_at kind (value_bytes (v.Int own z) ++ rest) ≡ Some (v.Int own z, rest)
int_again kind own z rest e i h = subst (λ (o : Kind). value_at kind (value_bytes (v.Int o z) ++ rest) ≡ Some (v.Int o z, rest)) (sym e) (int_at kind z rest i h)

value_again : (kind : Kind) (x : Value) (rest : List ℕ) → HasKind kind x → HasLength x → value_at kind (value_bytes x ++ rest) ≡ Some (x, rest)
unfolding value_at truth_at text_at blob_at
value_again kind v.Null rest h s = refl
value_again kind (v.Int own z) rest h s = int_again kind own z rest h.0 h.1 h.2
value_again k.Bool (v.Bool false) rest h s = refl
value_again k.Bool (v.Bool true) rest h s = refl
value_again k.Text (v.Text bytes) rest h s = rw (string_again bytes rest s) refl
value_again k.Blob (v.Blob bytes) rest h s = rw (string_again bytes rest s) refl
value_again _ _ rest h s = absurd h

values_again : (kinds : List Kind) (values : List Value) (rest : List ℕ) → HaveKinds kinds values → AllByRecursion HasLength values
    → values_at kinds (flat_map value_bytes values ++ rest) ≡ Some (values, rest)
unfolding values_at
values_again [] [] rest fit lengths = refl
values_again [] (x ∷ xs) rest fit lengths = absurd fit
values_again (kind ∷ kinds) [] rest fit lengths = absurd fit
values_again (kind ∷ kinds) (x ∷ xs) rest fit lengths =
    let regrouped : flat_map value_bytes (x ∷ xs) ++ rest ≡ value_bytes x ++ (flat_map value_bytes xs ++ rest) = ap (λ (w : List ℕ). w ++ rest) (flat_map-cons value_bytes x xs) ∙ append_assoc (value_bytes x) (flat_map value_bytes xs) rest in
    ap (values_at (kind ∷ kinds)) regrouped ∙ rw (value_again kind x (flat_map value_bytes xs ++ rest) fit.0 lengths.0, values_again kinds xs rest fit.1 lengths.1) refl

have_length : (kinds : List Kind) (values : List Value) → HaveKinds kinds values → length values ≡ length kinds
have_length [] [] fit = refl
have_length [] (x ∷ xs) fit = absurd fit
have_length (kind ∷ kinds) [] fit = absurd fit
have_length (kind ∷ kinds) (x ∷ xs) fit = ap suc (have_length kinds xs fit.1)

pub row_again : (kinds : List Kind) (values : List Value) (bytes : List ℕ) → Spells kinds values bytes → row_in kinds bytes ≡ Some values
unfolding row_in
row_again kinds values bytes s =
    let rest : values_at kinds (flat_map value_bytes values) ≡ Some (values, []) = ap (values_at kinds) (sym (append-nil (flat_map value_bytes values))) ∙ values_again kinds values [] s.fit s.lengths in
    ap (row_in kinds) s.spelling ∙ rw (number_again w16 (2 ^ 16) wide16 (length values) (flat_map value_bytes values) s.count, rest, eq-eqb (length values) (length kinds) (have_length kinds values s.fit)) refl

pub is_spelled : (kinds : List Kind) (bytes : List ℕ) (r : Result (List Value) RowFault) → IsBytes bytes → Gives Some stands_for (row_in kinds bytes) r → IfOk r (λ values. Spells kinds values bytes)
is_spelled kinds bytes (Ok values) fits given = row_takes kinds bytes values fits given
is_spelled kinds bytes (Err f) fits given = tt

-- ---- the laws

one : (kinds : List Kind) (x y : List Value) (bytes : List ℕ) → Spells kinds x bytes → Spells kinds y bytes → x ≡ y
one kinds x y bytes s t = some_is x y (sym (row_again kinds x bytes s) ∙ row_again kinds y bytes t)

value_count : (x : Value) → length (value_bytes x) ≡ value_length x
value_count v.Null = refl
value_count (v.Bool false) = refl
value_count (v.Bool true) = refl
value_count (v.Int kind z) = refl
value_count (v.Text bytes) = omega arith
value_count (v.Blob bytes) = omega arith

sum_same : (n : ℕ) (xs : List Value) → fold (λ a x. a + length (value_bytes x)) n xs ≡ fold (λ a x. a + value_length x) n xs
sum_same n [] = refl
sum_same n (x ∷ xs) =
    sum_same (n + length (value_bytes x)) xs ∙ ap (λ (m : ℕ). fold (λ a y. a + value_length y) (n + m) xs) (value_count x)

count : (xs : List Value) → length (row_bytes xs) ≡ 2 + sum_by value_length xs
count xs = let sum : length (flat_map value_bytes xs) ≡ sum_by value_length xs = length-flat_map value_bytes xs ∙ sum_same 0 xs in omega (arith, sum)

pub the_row_laws : RowLaws
the_row_laws = record { one = one; count = count }
