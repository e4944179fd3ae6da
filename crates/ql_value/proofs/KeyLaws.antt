-- The laws of keys.
use Rattle.std.proofs.Common.{◌≡◌, ℕ, zero, suc, ◌+◌, ◌*◌, ◌-◌, ◌/◌, ◌%◌, ◌^◌, ◌<◌, ◌≤◌, ◌⊎◌, inl, inr, ℤ, pos, negsuc, ◌+ℤ◌, ◌-ℤ◌, ◌≤ℤ◌, int_lt, unsigned_abs, Bool, true, false, cond, ltb, eqb, List, [], ◌∷◌, ◌++◌, length, refl, sym, ap, subst, ◌∙◌, append_assoc, arith, pow-suc, mul_comm}
use Rattle.std.proofs.Math.Nat.{pow-le-pow_right, mod-eq_of_lt, mul-le-mul_right}
use Rattle.std.proofs.Math.Arith.{mod-mul}
use Rattle.std.proofs.lemmas.Nat.{pow_pos, mod_below}
use Rattle.std.proofs.lemmas.Bool.{cases_lt, lt-ltb, le-ltb, eq-eqb, ne_eqb, false≢true, true≢false}
use Rattle.std.proofs.lemmas.Bool.Decides.{nat_tests}
use Rattle.std.proofs.lemmas.Int.{ints}
use Rattle.std.proofs.lemmas.List.{append-nil, length-append}
use Rattle.std.proofs.lemmas.List.Concat.{flat_map-cons}
use Rattle.std.proofs.lemmas.List.Recursion.{is_count_by}
use Rattle.std.specs.List.{flat_map, count_by}
use Rattle.std.specs.Int.{w64, byte_at, bytes_high_first, cast_unsigned, to_be_bytes}
use Rattle.std.specs.Cmp.Lexicographic.{slice_cmp}
use Rattle.std.specs.Ordering.{nat_cmp, int_cmp, ordering_then}
use Rattle.std.specs.declared.cmp.Ordering.{Ordering}
use Rattle.std.specs.declared.cmp.Ordering.TheVariants.{Less, Equal, Greater}
use Rattle.ql_value.specs.Keys.{escaped, string_key, raised, key_bytes}
use Rattle.ql_value.specs.KeyLaws.{KeyLaws}
use Rattle.ql_value.specs.Length.{key_part_length}
use Rattle.ql_value.specs.Kinds.{is_signed}
use Rattle.ql_value.specs.Number.{HasKind, HasNumber, IsInteger}
use Rattle.ql_value.specs.Order.{compared}
use Rattle.ql_value.specs.declared.value.Kind.{Kind}
use Rattle.ql_value.specs.declared.value.Kind.TheVariants as k
use Rattle.ql_value.specs.declared.value.Value.{Value}
use Rattle.ql_value.specs.declared.value.Value.TheVariants as v
use Rattle.ql_value.proofs.OrderLaws.{the_order_laws}

-- ---- numbers in bytes

less : (a b : ℕ) → a < b → nat_cmp a b ≡ Less
less a b h = rw (lt-ltb a b h) refl

same : (a b : ℕ) → a ≡ b → nat_cmp a b ≡ Equal
same a b e = rw (le-ltb a b (omega (arith, e)), eq-eqb a b e) refl

more : (a b : ℕ) → b < a → nat_cmp a b ≡ Greater
more a b h = rw (le-ltb a b (omega arith), ne_eqb a b (λ e. omega (arith, e, h))) refl

-- the same number in front of both
shifted : (n l j : ℕ) → nat_cmp (n + l) (n + j) ≡ nat_cmp l j
shifted n l j =
    elim (cases_lt l j) [
      | inl lt ↦ less (n + l) (n + j) (omega arith) ∙ sym (less l j lt)
      | inr le ↦
          elim (cases_lt j l) [
            | inl lt ↦ more (n + l) (n + j) (omega arith) ∙ sym (more l j lt)
            | inr ge ↦ same (n + l) (n + j) (omega arith) ∙ sym (same l j (omega arith))
          ]
    ]

-- two digits are compared one after the other
digits : (h l g j w : ℕ) → l < w → j < w → nat_cmp (h * w + l) (g * w + j) ≡ ordering_then (nat_cmp h g) (nat_cmp l j)
digits h l g j w p q =
    elim (cases_lt h g) [
      | inl lt ↦
          let row : (h + 1) * w ≤ g * w = mul-le-mul_right w (omega arith) in
          less (h * w + l) (g * w + j) (omega (arith, row)) ∙ sym (ap (λ o. ordering_then o (nat_cmp l j)) (less h g lt))
      | inr le ↦
          elim (cases_lt g h) [
            | inl lt ↦
                let row : (g + 1) * w ≤ h * w = mul-le-mul_right w (omega arith) in
                more (h * w + l) (g * w + j) (omega (arith, row)) ∙ sym (ap (λ o. ordering_then o (nat_cmp l j)) (more h g lt))
            | inr ge ↦
                let e : h ≡ g = omega arith in
                rw (same h g e) (rw e (shifted (g * w) l j))
          ]
    ]

-- the bytes of a number from the highest on compare as the number does
one_more : (i n : ℕ) → byte_at i n * 256 ^ i + n % 256 ^ i ≡ n % 256 ^ suc i
one_more zero n = omega arith
one_more (suc i) n =
    let unit = 256 ^ suc i in
    let wider : 256 ^ suc (suc i) ≡ 256 * unit = pow-suc 256 (suc i) ∙ mul_comm unit 256 in
    let some : 0 < unit = pow-le-pow_right {n = 256} (omega arith) {i = 0} {j = suc i} (omega arith) in
    rw (wider, mod-mul n {m = 256} {c = unit} (omega arith) some) (omega arith)

then_then : (o p q : Ordering) → ordering_then (ordering_then o p) q ≡ ordering_then o (ordering_then p q)
then_then Less p q = refl
then_then Equal p q = refl
then_then Greater p q = refl

high_order : (i m n : ℕ) (a b : List ℕ) → slice_cmp nat_cmp (bytes_high_first i m ++ a) (bytes_high_first i n ++ b) ≡ ordering_then (nat_cmp (m % 256 ^ i) (n % 256 ^ i)) (slice_cmp nat_cmp a b)
high_order zero m n a b = sym (ap (λ o. ordering_then o (slice_cmp nat_cmp a b)) (same (m % 1) (n % 1) (omega arith)))
high_order (suc i) m n a b =
    let unit = 256 ^ i in
    let some : 0 < unit = pow-le-pow_right {n = 256} (omega arith) {i = 0} {j = i} (omega arith) in
    let two = digits (byte_at i m) (m % unit) (byte_at i n) (n % unit) unit (mod_below m unit some) (mod_below n unit some) in
    let whole : nat_cmp (m % 256 ^ suc i) (n % 256 ^ suc i) ≡ ordering_then (nat_cmp (byte_at i m) (byte_at i n)) (nat_cmp (m % unit) (n % unit)) =
    rw (sym (one_more i m), sym (one_more i n)) two in
    ap (λ o. ordering_then (nat_cmp (byte_at i m) (byte_at i n)) o) (high_order i m n a b)
    ∙ sym (then_then (nat_cmp (byte_at i m) (byte_at i n)) (nat_cmp (m % unit) (n % unit)) (slice_cmp nat_cmp a b))
    ∙ sym (ap (λ o. ordering_then o (slice_cmp nat_cmp a b)) whole)

number_order : (m n : ℕ) (a b : List ℕ) → m < 2 ^ 64 → n < 2 ^ 64 → slice_cmp nat_cmp (to_be_bytes w64 m ++ a) (to_be_bytes w64 n ++ b) ≡ ordering_then (nat_cmp m n) (slice_cmp nat_cmp a b)
number_order m n a b p q =
    let first : m % 256 ^ 8 ≡ m = mod-eq_of_lt p in
    let second : n % 256 ^ 8 ≡ n = mod-eq_of_lt q in
    high_order 8 m n a b ∙ ap (λ o. ordering_then o (slice_cmp nat_cmp a b)) (rw (first, second) refl)

-- ---- numbers of a kind

signed_order : (x y : ℤ) → (pos 0 -ℤ pos (2 ^ 63)) ≤ℤ x → (pos 0 -ℤ pos (2 ^ 63)) ≤ℤ y → nat_cmp (raised x) (raised y) ≡ int_cmp x y
signed_order x y p q = grind (arith, ints, nat_tests)

unsigned_order : (x y : ℤ) → (pos 0) ≤ℤ x → (pos 0) ≤ℤ y → nat_cmp (cast_unsigned w64 x) (cast_unsigned w64 y) ≡ int_cmp x y
unsigned_order (pos x) (pos y) p q = grind (arith, ints, nat_tests)
unsigned_order (pos x) (negsuc y) p q = absurd (omega (arith, ints, q))
unsigned_order (negsuc x) y p q = absurd (omega (arith, ints, p))

raised_below : (z : ℤ) → (pos 0 -ℤ pos (2 ^ 63)) ≤ℤ z → z ≤ℤ (pos (2 ^ 63 - 1)) → raised z < 2 ^ 64
raised_below z low high = grind (arith, ints)

unsigned_below : (z : ℤ) → (pos 0) ≤ℤ z → z ≤ℤ (pos (2 ^ 64 - 1)) → cast_unsigned w64 z < 2 ^ 64
unsigned_below (pos a) low high = omega (arith, ints, high)
unsigned_below (negsuc a) low high = absurd (omega (arith, ints, low))

signed_from : (kind : Kind) (z : ℤ) → is_signed kind ≡ true → HasNumber kind z → ((pos 0 -ℤ pos (2 ^ 63)) ≤ℤ z) × (raised z < 2 ^ 64)
signed_from k.Int8 z e h = (omega (arith, ints, h.0), raised_below z (omega (arith, ints, h.0)) (omega (arith, ints, h.1)))
signed_from k.Int16 z e h = (omega (arith, ints, h.0), raised_below z (omega (arith, ints, h.0)) (omega (arith, ints, h.1)))
signed_from k.Int32 z e h = (omega (arith, ints, h.0), raised_below z (omega (arith, ints, h.0)) (omega (arith, ints, h.1)))
signed_from k.Int64 z e h = (omega (arith, ints, h.0), raised_below z (omega (arith, ints, h.0)) (omega (arith, ints, h.1)))
signed_from _ z e h = absurd (false≢true e)

unsigned_from : (kind : Kind) (z : ℤ) → IsInteger kind → is_signed kind ≡ false → HasNumber kind z → ((pos 0) ≤ℤ z) × (cast_unsigned w64 z < 2 ^ 64)
unsigned_from k.Uint8 z i e h = (h.0, unsigned_below z h.0 (omega (arith, ints, h.1)))
unsigned_from k.Uint16 z i e h = (h.0, unsigned_below z h.0 (omega (arith, ints, h.1)))
unsigned_from k.Uint32 z i e h = (h.0, unsigned_below z h.0 (omega (arith, ints, h.1)))
unsigned_from k.Uint64 z i e h = (h.0, unsigned_below z h.0 (omega (arith, ints, h.1)))
unsigned_from k.Int8 z i e h = absurd (true≢false e)
unsigned_from k.Int16 z i e h = absurd (true≢false e)
unsigned_from k.Int32 z i e h = absurd (true≢false e)
unsigned_from k.Int64 z i e h = absurd (true≢false e)
unsigned_from k.Bool z i e h = absurd (false≢true i)
unsigned_from k.Text z i e h = absurd (false≢true i)
unsigned_from k.Blob z i e h = absurd (false≢true i)

-- what stands behind a tag, by whether the kind has a sign
abbrev tagged : Bool → ℤ → List ℕ
tagged signed z = cond signed (2 ∷ to_be_bytes w64 (raised z)) (3 ∷ to_be_bytes w64 (cast_unsigned w64 z))

int_order_by : (signed : Bool) (kind : Kind) (x y : ℤ) (a b : List ℕ) → is_signed kind ≡ signed → IsInteger kind → HasNumber kind x → HasNumber kind y
    → slice_cmp nat_cmp (tagged signed x ++ a) (tagged signed y ++ b) ≡ ordering_then (int_cmp x y) (slice_cmp nat_cmp a b)
int_order_by true kind x y a b e i h g =
    let p = signed_from kind x e h in
    let q = signed_from kind y e g in
    number_order (raised x) (raised y) a b p.1 q.1 ∙ ap (λ o. ordering_then o (slice_cmp nat_cmp a b)) (signed_order x y p.0 q.0)
int_order_by false kind x y a b e i h g =
    let p = unsigned_from kind x i e h in
    let q = unsigned_from kind y i e g in
    number_order (cast_unsigned w64 x) (cast_unsigned w64 y) a b p.1 q.1 ∙ ap (λ o. ordering_then o (slice_cmp nat_cmp a b)) (unsigned_order x y p.0 q.0)

int_order : (kind own other : Kind) (x y : ℤ) (a b : List ℕ) → own ≡ kind → other ≡ kind → IsInteger kind → HasNumber kind x → HasNumber kind y
    → slice_cmp nat_cmp (key_bytes (v.Int own x) ++ a) (key_bytes (v.Int other y) ++ b) ≡ ordering_then (int_cmp x y) (slice_cmp nat_cmp a b)
int_order kind own other x y a b e f i h g =
    ap (λ (o : Kind). slice_cmp nat_cmp (key_bytes (v.Int o x) ++ a) (key_bytes (v.Int other y) ++ b)) e
    ∙ ap (λ (o : Kind). slice_cmp nat_cmp (key_bytes (v.Int kind x) ++ a) (key_bytes (v.Int o y) ++ b)) f
    ∙ int_order_by (is_signed kind) kind x y a b refl i h g

-- ---- strings

-- a byte in front of both
front : (c d : ℕ) (p q : List ℕ) → nat_cmp c d ≡ Less → slice_cmp nat_cmp (c ∷ p) (d ∷ q) ≡ Less
front c d p q h = ap (λ o. ordering_then o (slice_cmp nat_cmp p q)) h

zero_or : (c : ℕ) → (c ≡ 0) ⊎ (0 < c)
zero_or zero = inl refl
zero_or (suc c) = inr (omega arith)

plain : (c : ℕ) → 0 < c → escaped c ≡ c ∷ []
plain c h = rw (ne_eqb c 0 (λ e. omega (arith, e, h))) refl

-- a byte of each, and what stands behind
byte_order : (c d : ℕ) (p q : List ℕ) → slice_cmp nat_cmp (escaped c ++ p) (escaped d ++ q) ≡ ordering_then (nat_cmp c d) (slice_cmp nat_cmp p q)
byte_order c d p q =
    elim (zero_or c) [
      | inl e ↦
          elim (zero_or d) [
            | inl f ↦ rw (e, f) refl
            | inr g ↦ rw (e, plain d g) (front 0 d (255 ∷ p) q (less 0 d g) ∙ sym (ap (λ o. ordering_then o (slice_cmp nat_cmp p q)) (less 0 d g)))
          ]
      | inr h ↦
          elim (zero_or d) [
            | inl f ↦ rw (f, plain c h) (ap (λ o. ordering_then o (slice_cmp nat_cmp p (255 ∷ q))) (more c 0 h) ∙ sym (ap (λ o. ordering_then o (slice_cmp nat_cmp p q)) (more c 0 h)))
            | inr g ↦ rw (plain c h, plain d g) refl
          ]
    ]

-- the end of one, and a byte of the other
end_first : (d : ℕ) (p q : List ℕ) → slice_cmp nat_cmp (0 ∷ 0 ∷ p) (escaped d ++ q) ≡ Less
end_first d p q =
    elim (zero_or d) [
      | inl f ↦ rw f refl
      | inr g ↦ rw (plain d g) (front 0 d (0 ∷ p) q (less 0 d g))
    ]

end_last : (c : ℕ) (p q : List ℕ) → slice_cmp nat_cmp (escaped c ++ p) (0 ∷ 0 ∷ q) ≡ Greater
end_last c p q =
    elim (zero_or c) [
      | inl f ↦ rw f refl
      | inr g ↦ rw (plain c g) (ap (λ o. ordering_then o (slice_cmp nat_cmp p (0 ∷ q))) (more c 0 g))
    ]

-- the bytes behind the first one
split : (c : ℕ) (cs a : List ℕ) → string_key (c ∷ cs) ++ a ≡ escaped c ++ (string_key cs ++ a)
split c cs a =
    ap (λ (t : List ℕ). (t ++ 0 ∷ 0 ∷ []) ++ a) (flat_map-cons escaped c cs)
    ∙ ap (λ (t : List ℕ). t ++ a) (append_assoc (escaped c) (flat_map escaped cs) (0 ∷ 0 ∷ []))
    ∙ append_assoc (escaped c) (string_key cs) a

string_order : (cs ds a b : List ℕ) → slice_cmp nat_cmp (string_key cs ++ a) (string_key ds ++ b) ≡ ordering_then (slice_cmp nat_cmp cs ds) (slice_cmp nat_cmp a b)
string_order [] [] a b = refl
string_order [] (d ∷ ds) a b = rw (split d ds b) (end_first d a (string_key ds ++ b))
string_order (c ∷ cs) [] a b = rw (split c cs a) (end_last c (string_key cs ++ a) b)
string_order (c ∷ cs) (d ∷ ds) a b =
    rw (split c cs a, split d ds b)
    (byte_order c d (string_key cs ++ a) (string_key ds ++ b) ∙ ap (λ o. ordering_then (nat_cmp c d) o) (string_order cs ds a b)
    ∙ sym (then_then (nat_cmp c d) (slice_cmp nat_cmp cs ds) (slice_cmp nat_cmp a b)))

-- ---- values

behind_null : (signed : Bool) (z : ℤ) (a b : List ℕ) → slice_cmp nat_cmp (0 ∷ a) (tagged signed z ++ b) ≡ Less
behind_null true z a b = refl
behind_null false z a b = refl

before_null : (signed : Bool) (z : ℤ) (a b : List ℕ) → slice_cmp nat_cmp (tagged signed z ++ a) (0 ∷ b) ≡ Greater
before_null true z a b = refl
before_null false z a b = refl

no_truth : (kind : Kind) (c : Bool) → HasKind kind (v.Bool c) → IsInteger kind → ⊥
no_truth k.Bool c h i = false≢true i
no_truth _ c h i = h

no_text : (kind : Kind) (cs : List ℕ) → HasKind kind (v.Text cs) → IsInteger kind → ⊥
no_text k.Text cs h i = false≢true i
no_text _ cs h i = h

no_blob : (kind : Kind) (cs : List ℕ) → HasKind kind (v.Blob cs) → IsInteger kind → ⊥
no_blob k.Blob cs h i = false≢true i
no_blob _ cs h i = h

truth_or_text : (kind : Kind) (c : Bool) (cs : List ℕ) → HasKind kind (v.Bool c) → HasKind kind (v.Text cs) → ⊥
truth_or_text k.Bool c cs h g = g
truth_or_text _ c cs h g = h

truth_or_blob : (kind : Kind) (c : Bool) (cs : List ℕ) → HasKind kind (v.Bool c) → HasKind kind (v.Blob cs) → ⊥
truth_or_blob k.Bool c cs h g = g
truth_or_blob _ c cs h g = h

text_or_blob : (kind : Kind) (cs ds : List ℕ) → HasKind kind (v.Text cs) → HasKind kind (v.Blob ds) → ⊥
text_or_blob k.Text cs ds h g = g
text_or_blob _ cs ds h g = h

order : (kind : Kind) (x y : Value) (a b : List ℕ) → HasKind kind x → HasKind kind y → slice_cmp nat_cmp (key_bytes x ++ a) (key_bytes y ++ b) ≡ ordering_then (compared x y) (slice_cmp nat_cmp a b)
order kind v.Null v.Null a b h g = refl
order kind v.Null (v.Bool false) a b h g = refl
order kind v.Null (v.Bool true) a b h g = refl
order kind v.Null (v.Int own y) a b h g = behind_null (is_signed own) y a b
order kind v.Null (v.Text _) a b h g = refl
order kind v.Null (v.Blob _) a b h g = refl
order kind (v.Bool false) v.Null a b h g = refl
order kind (v.Bool true) v.Null a b h g = refl
order kind (v.Int own x) v.Null a b h g = before_null (is_signed own) x a b
order kind (v.Text _) v.Null a b h g = refl
order kind (v.Blob _) v.Null a b h g = refl
order kind (v.Bool false) (v.Bool false) a b h g = refl
order kind (v.Bool false) (v.Bool true) a b h g = refl
order kind (v.Bool true) (v.Bool false) a b h g = refl
order kind (v.Bool true) (v.Bool true) a b h g = refl
order kind (v.Int own x) (v.Int other y) a b h g = int_order kind own other x y a b h.0 g.0 h.1 h.2 g.2
order kind (v.Text cs) (v.Text ds) a b h g = string_order cs ds a b
order kind (v.Blob cs) (v.Blob ds) a b h g = string_order cs ds a b
order kind (v.Bool c) (v.Int _ _) a b h g = absurd (no_truth kind c h g.1)
order kind (v.Int _ _) (v.Bool c) a b h g = absurd (no_truth kind c g h.1)
order kind (v.Text cs) (v.Int _ _) a b h g = absurd (no_text kind cs h g.1)
order kind (v.Int _ _) (v.Text cs) a b h g = absurd (no_text kind cs g h.1)
order kind (v.Blob cs) (v.Int _ _) a b h g = absurd (no_blob kind cs h g.1)
order kind (v.Int _ _) (v.Blob cs) a b h g = absurd (no_blob kind cs g h.1)
order kind (v.Bool c) (v.Text cs) a b h g = absurd (truth_or_text kind c cs h g)
order kind (v.Text cs) (v.Bool c) a b h g = absurd (truth_or_text kind c cs g h)
order kind (v.Bool c) (v.Blob cs) a b h g = absurd (truth_or_blob kind c cs h g)
order kind (v.Blob cs) (v.Bool c) a b h g = absurd (truth_or_blob kind c cs g h)
order kind (v.Text cs) (v.Blob ds) a b h g = absurd (text_or_blob kind cs ds h g)
order kind (v.Blob cs) (v.Text ds) a b h g = absurd (text_or_blob kind ds cs g h)

then_equal : (o : Ordering) → ordering_then o Equal ≡ o
then_equal Less = refl
then_equal Equal = refl
then_equal Greater = refl

itself : (xs : List ℕ) → slice_cmp nat_cmp xs xs ≡ Equal
itself [] = refl
itself (x ∷ xs) = ap (λ o. ordering_then o (slice_cmp nat_cmp xs xs)) (same x x refl) ∙ itself xs

same_value : (kind : Kind) (x y : Value) → HasKind kind x → HasKind kind y → key_bytes x ≡ key_bytes y → x ≡ y
same_value kind x y h g e =
    let one : slice_cmp nat_cmp (key_bytes x ++ []) (key_bytes y ++ []) ≡ compared x y = order kind x y [] [] h g ∙ then_equal (compared x y) in
    let equal : slice_cmp nat_cmp (key_bytes x ++ []) (key_bytes y ++ []) ≡ Equal = ap (λ (t : List ℕ). slice_cmp nat_cmp (t ++ []) (key_bytes y ++ [])) e ∙ itself (key_bytes y ++ []) in
    the_order_laws.same kind x y h g (sym one ∙ equal)

-- how many bytes are zero
abbrev zeros : List ℕ → ℕ
zeros [] = 0
zeros (c ∷ cs) = cond (eqb c 0) (1 + zeros cs) (zeros cs)

one_escaped : (t : Bool) (c n : ℕ) → length (cond t (0 ∷ 255 ∷ []) (c ∷ [])) + n ≡ 1 + cond t (1 + n) n
one_escaped true c n = omega arith
one_escaped false c n = omega arith

one_counted : (t : Bool) (m n : ℕ) → cond t (1 + (m + n)) (m + n) ≡ m + cond t (1 + n) n
one_counted true m n = omega arith
one_counted false m n = refl

int_count : (signed : Bool) (z : ℤ) → length (tagged signed z) ≡ 9
int_count true z = refl
int_count false z = refl

string_zeros : (cs : List ℕ) → length (string_key cs) ≡ length cs + 2 + zeros cs
string_zeros [] = refl
string_zeros (c ∷ cs) =
    let parts : string_key (c ∷ cs) ≡ escaped c ++ string_key cs =
    sym (append-nil (string_key (c ∷ cs))) ∙ split c cs [] ∙ ap (λ (t : List ℕ). escaped c ++ t) (append-nil (string_key cs)) in
    let whole : length (string_key (c ∷ cs)) ≡ length (escaped c) + length (string_key cs) = ap length parts ∙ length-append (escaped c) (string_key cs) in
    let n : ℕ = length cs + 2 in
    let step = one_escaped (eqb c 0) c (length (string_key cs)) in
    let rest : cond (eqb c 0) (1 + length (string_key cs)) (length (string_key cs)) ≡ n + cond (eqb c 0) (1 + zeros cs) (zeros cs) =
    ap (λ (m : ℕ). cond (eqb c 0) (1 + m) m) (string_zeros cs) ∙ one_counted (eqb c 0) n (zeros cs) in
    omega (arith, whole, step, rest)

string_count : (cs : List ℕ) → length (string_key cs) ≡ length cs + count_by (λ c. eqb c 0) cs + 2
string_count cs = omega (arith, string_zeros cs, is_count_by zeros (λ c. eqb c 0) refl (λ x xs. refl) cs)

count : (x : Value) → length (key_bytes x) ≡ key_part_length x
count v.Null = refl
count (v.Bool false) = refl
count (v.Bool true) = refl
count (v.Int kind z) = int_count (is_signed kind) z
count (v.Text bytes) = omega (arith, string_count bytes)
count (v.Blob bytes) = omega (arith, string_count bytes)

pub the_key_laws : KeyLaws
the_key_laws = record { order = order; same = same_value; count = count }
