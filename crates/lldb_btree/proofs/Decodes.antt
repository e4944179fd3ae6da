-- Reading pairs and children one after the other.
use Rattle.std.proofs.Common.{◌≡◌, ℕ, ◌-◌, ◌^◌, ◌<◌, ◌≤◌, true, false, List, [], ◌∷◌, ◌++◌, length, map, Option, Some, None, Result, Ok, Err, OnOk, refl, sym, ap, ◌∙◌, arith, append_assoc, w64}
use Rattle.std.specs.Int.{to_be_bytes}
use Rattle.std.specs.List.{AllByRecursion}
use Rattle.std.specs.declared.cmp.Ordering.TheVariants.{Less}
use Rattle.std.proofs.lemmas.Cmp.{nat_list_cmp_total}
use Rattle.lldb_btree.specs.declared.node.Child.{Child}
use Rattle.lldb_btree.specs.declared.node.NodeFault.{NodeFault}
use Rattle.lldb_btree.specs.declared.node.NodeFault.TheVariants as fault
use Rattle.lldb_btree.specs.declared.node.Pair.{Pair}
use Rattle.lldb_btree.specs.Decoding.{RisesFrom, ArePairs, AreChildren, Adds, BadOnly, MayFollow, child_keys}
use Rattle.lldb_btree.specs.Nodes.{Entry, entry_bytes, body, pair_entry, child_entry, IsTail, IsEntry}
use Rattle.lldb_btree.specs.Pairs.{order, keys_of}
use Rattle.lldb_btree.proofs.Spelling.{pair_fits, child_fits}
use Rattle.lldb_btree.proofs.Standing.{all_weaker}

abbrev Entry_at : List ℕ → List ℕ → Entry
Entry_at key tail = record { key = key; tail = tail }

below_all : (k key : List ℕ) (ks : List (List ℕ)) → order k key ≡ Less → AllByRecursion (λ j. order key j ≡ Less) ks → AllByRecursion (λ j. order k j ≡ Less) ks
below_all k key ks less a = all_weaker (λ j. order key j ≡ Less) (λ j. order k j ≡ Less) (λ j b. nat_list_cmp_total.trans k key j less b) ks a

rises_on : (above : Option (List ℕ)) (key : List ℕ) (ks : List (List ℕ)) → MayFollow above key → RisesFrom (Some key) ks → RisesFrom above (key ∷ ks)
rises_on None key ks f r = r
rises_on (Some k) key ks f r = ((f.0, below_all k key ks f.0 r.0), r)

may_length : (above : Option (List ℕ)) (key : List ℕ) → MayFollow above key → length key ≤ 1100
may_length None key f = f
may_length (Some k) key f = f.1

may_from : (above : Option (List ℕ)) (key : List ℕ) (ks : List (List ℕ)) → RisesFrom above (key ∷ ks) → length key ≤ 1100 → MayFollow above key
may_from None key ks r l = l
may_from (Some k) key ks r l = (r.0.0, l)

rises_rest : (above : Option (List ℕ)) (key : List ℕ) (ks : List (List ℕ)) → RisesFrom above (key ∷ ks) → RisesFrom (Some key) ks
rises_rest None key ks r = r
rises_rest (Some k) key ks r = r.1

-- what refuses one property refuses another that leads to it
pub bad_on : {X Y T : Type 0} (P : X → Type 0) (Q : Y → Type 0) (r : Result T NodeFault) → ((y : Y) → Q y → (x : X) × P x) → BadOnly P r → BadOnly Q r
bad_on P Q (Ok t) f b = tt
bad_on P Q (Err fault.BadNode) f b = λ y q. b (f y q).0 (f y q).1
bad_on P Q (Err fault.NoMemory) f b = tt

-- pairs of which there is one more to read: the first, and those behind it
pub record FirstPair (above : Option (List ℕ)) (left : ℕ) (bytes : List ℕ) : Type 0 where
  pub one : Pair
  pub more : List Pair
  pub bytes_are : bytes ≡ entry_bytes (pair_entry one) ++ body (map pair_entry more)
  pub entry_fits : IsEntry true (pair_entry one)
  pub follows : MayFollow above one.key
  pub next : ArePairs (Some one.key) (left - 1) (body (map pair_entry more)) more

pub first_pair : (above : Option (List ℕ)) (left : ℕ) (bytes : List ℕ) (xs : List Pair) → ArePairs above left bytes xs → 0 < left → FirstPair above left bytes
first_pair above left bytes [] a some = absurd (omega (arith, a.many, some))
first_pair above left bytes (x ∷ xs) a some = record {
  one = x;
  more = xs;
  bytes_are = a.spelled;
  entry_fits = pair_fits x a.fits.0;
  follows = may_from above x.key (keys_of xs) a.rises a.fits.0.0;
  next = record { many = omega (arith, a.many); fits = a.fits.1; rises = rises_rest above x.key (keys_of xs) a.rises; spelled = refl };
}

pub no_pairs : (above : Option (List ℕ)) (left : ℕ) (bytes : List ℕ) → left ≡ 0 → bytes ≡ [] → ArePairs above left bytes []
no_pairs above left bytes z e = record { many = sym z; fits = tt; rises = none above; spelled = e } where
  none : (a : Option (List ℕ)) → RisesFrom a []
  none None = tt
  none (Some k) = (tt, tt)

pub pairs_end : (above : Option (List ℕ)) (left : ℕ) (bytes : List ℕ) (xs : List Pair) → left ≡ 0 → ArePairs above left bytes xs → bytes ≡ []
pairs_end above left bytes [] z a = a.spelled
pairs_end above left bytes (x ∷ xs) z a = absurd (omega (arith, a.many, z))

-- children of which there is one more to read: the first, and those behind it
pub record FirstChild (above : Option (List ℕ)) (left : ℕ) (bytes : List ℕ) : Type 0 where
  pub one : Child
  pub more : List Child
  pub bytes_are : bytes ≡ entry_bytes (child_entry one) ++ body (map child_entry more)
  pub entry_fits : IsEntry false (child_entry one)
  pub follows : MayFollow above one.key
  pub next : AreChildren (Some one.key) (left - 1) (body (map child_entry more)) more

pub first_child : (above : Option (List ℕ)) (left : ℕ) (bytes : List ℕ) (xs : List Child) → AreChildren above left bytes xs → 0 < left → FirstChild above left bytes
first_child above left bytes [] a some = absurd (omega (arith, a.many, some))
first_child above left bytes (x ∷ xs) a some = record {
  one = x;
  more = xs;
  bytes_are = a.spelled;
  entry_fits = child_fits x a.fits.0;
  follows = may_from above x.key (child_keys xs) a.rises a.fits.0.0;
  next = record { many = omega (arith, a.many); fits = a.fits.1; rises = rises_rest above x.key (child_keys xs) a.rises; spelled = refl };
}

pub no_children : (above : Option (List ℕ)) (left : ℕ) (bytes : List ℕ) → left ≡ 0 → bytes ≡ [] → AreChildren above left bytes []
no_children above left bytes z e = record { many = sym z; fits = tt; rises = none above; spelled = e } where
  none : (a : Option (List ℕ)) → RisesFrom a []
  none None = tt
  none (Some k) = (tt, tt)

pub children_end : (above : Option (List ℕ)) (left : ℕ) (bytes : List ℕ) (xs : List Child) → left ≡ 0 → AreChildren above left bytes xs → bytes ≡ []
children_end above left bytes [] z a = a.spelled
children_end above left bytes (x ∷ xs) z a = absurd (omega (arith, a.many, z))

pub pairs_added : (above : Option (List ℕ)) (key tail rest bytes : List ℕ) (left : ℕ) (p : Pair) (before mid now : List Pair) → MayFollow above key → bytes ≡ entry_bytes (record { key = key; tail = tail }) ++ rest → IsTail true tail → 0 < left → ((value : List ℕ) → tail ≡ length value ∷ value → (p.key ≡ key) × (p.value ≡ value)) → mid ≡ before ++ p ∷ [] → Adds (ArePairs (Some key) (left - 1) rest) mid now → Adds (ArePairs above left bytes) before now
pairs_added above key tail rest bytes left p before mid now follows is t some made mid_is a =
    let m : (p.key ≡ key) × (p.value ≡ t.0) = made t.0 t.2 in
    let tails : tail ≡ length p.value ∷ p.value = t.2 ∙ ap (λ (v : List ℕ). length v ∷ v) (sym m.1) in
    let same : Entry_at key tail ≡ pair_entry p = λ i. record { key = sym m.0 i; tail = tails i } in
    let low : length p.key ≤ 1100 = rw m.0 (may_length above key follows) in
    let short : length p.value ≤ 16 = rw m.1 t.1 in
    let keys : RisesFrom above (p.key ∷ keys_of a.more) = rw m.0 (rises_on above key (keys_of a.more) follows a.are.rises) in
    record {
      more = p ∷ a.more;
      now_is = a.now_is ∙ ap (λ (l : List Pair). l ++ a.more) mid_is ∙ append_assoc before (p ∷ []) a.more;
      are = record {
        many = omega (arith, a.are.many, some);
        fits = ((low, short), a.are.fits);
        rises = keys;
        spelled = is ∙ ap (λ (e : Entry). entry_bytes e ++ rest) same ∙ ap (λ (l : List ℕ). entry_bytes (pair_entry p) ++ l) a.are.spelled;
      };
    }

pub children_added : (above : Option (List ℕ)) (key tail rest bytes : List ℕ) (left : ℕ) (p : Child) (before mid now : List Child) → MayFollow above key → bytes ≡ entry_bytes (record { key = key; tail = tail }) ++ rest → 0 < left → (p.key ≡ key) × (to_be_bytes w64 p.handle ≡ tail) × (p.handle < 2 ^ 64) → mid ≡ before ++ p ∷ [] → Adds (AreChildren (Some key) (left - 1) rest) mid now → Adds (AreChildren above left bytes) before now
children_added above key tail rest bytes left p before mid now follows is some m mid_is a =
    let tails : tail ≡ to_be_bytes w64 p.handle = sym m.1 in
    let same : Entry_at key tail ≡ child_entry p = λ i. record { key = sym m.0 i; tail = tails i } in
    let low : length p.key ≤ 1100 = rw m.0 (may_length above key follows) in
    let keys : RisesFrom above (p.key ∷ child_keys a.more) = rw m.0 (rises_on above key (child_keys a.more) follows a.are.rises) in
    record {
      more = p ∷ a.more;
      now_is = a.now_is ∙ ap (λ (l : List Child). l ++ a.more) mid_is ∙ append_assoc before (p ∷ []) a.more;
      are = record {
        many = omega (arith, a.are.many, some);
        fits = ((low, m.2), a.are.fits);
        rises = keys;
        spelled = is ∙ ap (λ (e : Entry). entry_bytes e ++ rest) same ∙ ap (λ (l : List ℕ). entry_bytes (child_entry p) ++ l) a.are.spelled;
      };
    }

pub pairs_next : (key k rest b : List ℕ) (n : ℕ) (xs : List Pair) → key ≡ k → rest ≡ b → ArePairs (Some k) n b xs → ArePairs (Some key) n rest xs
pairs_next key k rest b n xs e f a = rw (e, f) a

pub children_next : (key k rest b : List ℕ) (n : ℕ) (xs : List Child) → key ≡ k → rest ≡ b → AreChildren (Some k) n b xs → AreChildren (Some key) n rest xs
children_next key k rest b n xs e f a = rw (e, f) a

pub follows_too : (above : Option (List ℕ)) (key k : List ℕ) → key ≡ k → MayFollow above k → MayFollow above key
follows_too above key k e f = rw e f

pub on_ok : {T E P Q : Type 0} (r : Result T E) → (P → Q) → OnOk r P → OnOk r Q
on_ok (Ok x) f p = f p
on_ok (Err e) f p = tt
