-- Nothing is found exactly where a content is empty or sound.
use Rattle.std.proofs.Common.{◌≡◌, ℕ, zero, suc, ◌+◌, ◌*◌, ◌/◌, ◌%◌, ◌≤◌, ◌<◌, inl, inr, Bool, true, false, not, cond, ◌&&◌, ◌||◌, List, [], ◌∷◌, ◌++◌, length, drop, Option, Some, None, is_some, option_and_then, refl, sym, ◌∙◌, ap, subst, arith, nat_eq, nat_le, length-drop}
use Rattle.std.specs.List.{list_all}
use Rattle.std.proofs.Math.Nat.{mod-add-div'}
use Rattle.std.proofs.lemmas.Bool.{cases_Bool, cases_eq, and_parts, and_from, false≢true, cond_both, or_cases, or_right, eqb-true, eq-eqb, ne_eqb, leb-true, not_from_false}
use Rattle.lldb_atoms.specs.Blocks.{Extent, Used, Compressed, Moved, Free, Hole, Tile, size, is_free}
use Rattle.lldb_atoms.specs.Rows.{atoms_in, extent_at, contains, are_distinct, targets, used_content, are_used, are_spaced, ends_free}
use Rattle.lldb_atoms.specs.Lists.{in_class, class_of, row_of, list_head, list_of, free_from, has_class, are_listed}
use Rattle.lldb_atoms.specs.Sound.{tiles_in, tiling, is_sound_tiling, sound_tiling, is_sound}
use Rattle.lldb_atoms.proofs.Listed.{class_below}
use Rattle.lldb_atoms.proofs.Tiled.{found_tiles}
use Rattle.lldb_blocks.specs.Laid.{Solid}
use Rattle.lldb_verify.specs.Findings.{unless, blocks, of_blocks, is_used, of_targets, walk, of_lists, of_free, of_unlisted, of_whole, of_content, has_length, findings}
use Rattle.lldb_verify.specs.Laws.{IsClean}
use Rattle.lldb_verify.proofs.Wholes.{tiles_blocks, blocks_tiles, blocks_solid, tiles_whole}
use Rattle.lldb_verify.proofs.Rows.{both_empty, none_of, test_of, false_of_not, Spaced, blocks_clean, blocks_none, used_same, Aims, targets_clean, targets_none}
use Rattle.lldb_verify.proofs.Walks.{free_of_class, Went, walk_clean, Good, walk_none}
use Rattle.lldb_verify.specs.declared.finding.Finding.TheVariants as finding

-- a test that all pass, at one of them
pub at_member : (p : ℕ → Bool) (ns : List ℕ) (n : ℕ) → list_all p ns ≡ true → contains ns n ≡ true → p n ≡ true
at_member p [] n all member = absurd (false≢true member)
at_member p (m ∷ ns) n all member =
    let parts = and_parts (p m) (list_all p ns) all in
    elim (or_cases (nat_eq n m) (contains ns n) member) [
      | inl same ↦ subst (λ (k : ℕ). p k ≡ true) (sym (eqb-true n m same)) parts.0
      | inr later ↦ at_member p ns n parts.1 later
    ]

-- a test that all pass which pass another
pub all_from : (p r : ℕ → Bool) (ns : List ℕ) → list_all p ns ≡ true → ((n : ℕ) → contains ns n ≡ true → p n ≡ true → r n ≡ true) → list_all r ns ≡ true
all_from p r [] all so = refl
all_from p r (m ∷ ns) all so =
    let parts = and_parts (p m) (list_all p ns) all in
    and_from (r m) (list_all r ns) (so m (ap (λ (b : Bool). b || contains ns m) (eq-eqb m m refl)) parts.0)
    (all_from p r ns parts.1 (λ n member. so n (or_right (nat_eq n m) (contains ns n) member)))

pub same_class : (j k : ℕ) (o : Option Extent) → in_class j o ≡ true → in_class k o ≡ true → j ≡ k
same_class j k None a b = absurd (false≢true a)
same_class j k (Some (Used c)) a b = absurd (false≢true a)
same_class j k (Some (Compressed c)) a b = absurd (false≢true a)
same_class j k (Some (Moved t)) a b = absurd (false≢true a)
same_class j k (Some (Free s)) a b = sym (eqb-true (class_of s) j a) ∙ eqb-true (class_of s) k b
same_class j k (Some (Hole s)) a b = absurd (false≢true a)

some_same : (a b : List ℕ) → Some a ≡ Some b → a ≡ b
some_same a b is = cc

-- the free blocks of a class stand behind the place from which they are looked for
free_behind : (class from : ℕ) (row : List Extent) (q : ℕ) → contains (free_from class from row) q ≡ true → from ≤ q
free_behind class from [] q member = absurd (false≢true member)
free_behind class from (e ∷ row) q member =
    elim (cases_Bool (in_class class (Some e))) [
      | inl is ↦
          let there : contains (from ∷ free_from class (from + size e) row) q ≡ true = sym (ap (λ (b : Bool). contains (cond b (from ∷ free_from class (from + size e) row) (free_from class (from + size e) row)) q) is) ∙ member in
          elim (or_cases (nat_eq q from) (contains (free_from class (from + size e) row) q) there) [
            | inl same ↦ let is = eqb-true q from same in omega (arith, is)
            | inr later ↦ let more = free_behind class (from + size e) row q later in omega (arith, more)
          ]
      | inr not ↦
          let there : contains (free_from class (from + size e) row) q ≡ true = sym (ap (λ (b : Bool). contains (cond b (from ∷ free_from class (from + size e) row) (free_from class (from + size e) row)) q) not) ∙ member in
          let more = free_behind class (from + size e) row q there in omega (arith, more)
    ]

-- each of them is free, of that class
pub free_there : (class from : ℕ) (row : List Extent) (q : ℕ) → Solid row → contains (free_from class from row) q ≡ true → in_class class (extent_at from row q) ≡ true
free_there class from [] q solid member = absurd (false≢true member)
free_there class from (e ∷ row) q solid member =
    elim (cases_eq q from) [
      | inl here ↦ elim (cases_Bool (in_class class (Some e))) [
        | inl is ↦ ap (λ (b : Bool). in_class class (cond b (Some e) (extent_at (from + size e) row q))) (eq-eqb q from here) ∙ is
        | inr not ↦
            let there : contains (free_from class (from + size e) row) q ≡ true = sym (ap (λ (b : Bool). contains (cond b (from ∷ free_from class (from + size e) row) (free_from class (from + size e) row)) q) not) ∙ member in
            let more = free_behind class (from + size e) row q there in
            let some = solid.0 in
            absurd (omega (arith, more, some, here))
      ]
      | inr other ↦
          ap (λ (b : Bool). in_class class (cond b (Some e) (extent_at (from + size e) row q))) (ne_eqb q from other)
          ∙ free_there class (from + size e) row q solid.1 (behind (in_class class (Some e)) q from (free_from class (from + size e) row) (ne_eqb q from other) member)
    ]
  where
    behind : (b : Bool) (q from : ℕ) (rest : List ℕ) → nat_eq q from ≡ false → contains (cond b (from ∷ rest) rest) q ≡ true → contains rest q ≡ true
    behind true q from rest other member = sym (ap (λ (b : Bool). b || contains rest q) other) ∙ member
    behind false q from rest other member = member

-- the list of a class, as it should be but that it may lack a free block
pub record Own (content : List ℕ) (tiles : List Tile) (class : ℕ) : Type 0 where
  pub atoms : List ℕ
  pub list : list_of content tiles class ≡ Some atoms
  pub once : are_distinct atoms ≡ true
  pub inside : list_all (λ atom. in_class class (extent_at 8 (row_of tiles) atom)) atoms ≡ true

-- an atom stands in one of the first so many lists
pub record InOne (content : List ℕ) (tiles : List Tile) (n q : ℕ) : Type 0 where
  pub class : ℕ
  pub low : class < n
  pub atoms : List ℕ
  pub list : list_of content tiles class ≡ Some atoms
  pub member : contains atoms q ≡ true

-- the first so many lists, where nothing is found
pub record Listing (content : List ℕ) (tiles : List Tile) (n : ℕ) (met : List ℕ) : Type 0 where
  pub listed : (class : ℕ) → class < n → Own content tiles class
  pub one : (q : ℕ) → contains met q ≡ true → InOne content tiles n q

own_by : (content : List ℕ) (tiles : List Tile) (n : ℕ) (met grown : List ℕ) → Went tiles n (length content) 0 (list_head content n) met grown → Own content tiles n
unfolding list_of
own_by content tiles n met grown w = record { atoms = w.atoms; list = w.list; once = w.once; inside = w.inside }

more : (content : List ℕ) (tiles : List Tile) (n : ℕ) (met grown : List ℕ) → Listing content tiles n met → Went tiles n (length content) 0 (list_head content n) met grown → Listing content tiles (suc n) grown
unfolding list_of
more content tiles n met grown l w = record {
  listed = λ class low. elim (cases_eq class n) [
    | inl same ↦ subst (λ (k : ℕ). Own content tiles k) (sym same) (own_by content tiles n met grown w)
    | inr other ↦ l.listed class (omega (arith, low, other))
  ];
  one = λ q member. elim (or_cases (contains w.atoms q) (contains met q) (sym (w.all q) ∙ member)) [
    | inl here ↦ record { class = n; low = omega arith; atoms = w.atoms; list = w.list; member = here }
    | inr before ↦
        let o = l.one q before in
        let low = o.low in
        record { class = o.class; low = omega (arith, low); atoms = o.atoms; list = o.list; member = o.member }
  ];
}

pub lists_clean : (content : List ℕ) (tiles : List Tile) (n : ℕ) → (of_lists content tiles n).found ≡ [] → Listing content tiles n (of_lists content tiles n).met
unfolding of_lists
lists_clean content tiles zero is = record { listed = λ class low. absurd (omega (arith, low)); one = λ q member. absurd (false≢true member) }
lists_clean content tiles (suc n) is =
    let before = of_lists content tiles n in
    let here = walk tiles n (length content) before.met 0 (list_head content n) in
    let two = both_empty before.found here.found is in
    more content tiles n before.met here.met (lists_clean content tiles n two.0) (walk_clean tiles n (length content) before.met 0 (list_head content n) two.1)

pub unlisted_clean : (met : List ℕ) (from : ℕ) (row : List Extent) → of_unlisted met from row ≡ [] → (class : ℕ) → list_all (contains met) (free_from class from row) ≡ true
unlisted_clean met from [] is class = refl
unlisted_clean met from (e ∷ row) is class =
    let two = both_empty (of_free met from e) (of_unlisted met (from + size e) row) is in
    let rest = unlisted_clean met (from + size e) row two.1 class in
    let test = (test_of (not (is_free e) || contains met from) [] _ two.0).0 in
    cond_both (in_class class (Some e)) (from ∷ free_from class (from + size e) row) (free_from class (from + size e) row) (λ (ns : List ℕ). list_all (contains met) ns ≡ true)
    (λ is. elim (or_cases (not (is_free e)) (contains met from) test) [
      | inl used ↦ absurd (false≢true (sym (false_of_not (is_free e) used) ∙ free_of_class class e is))
      | inr member ↦ and_from (contains met from) (list_all (contains met) (free_from class (from + size e) row)) member rest
    ])
    (λ not. rest)

-- a list has each free block of its class
has_own : (content : List ℕ) (tiles : List Tile) (n : ℕ) (met : List ℕ) (class : ℕ) → Solid (row_of tiles) → Listing content tiles n met → list_all (contains met) (free_from class 8 (row_of tiles)) ≡ true → class < n → has_class (row_of tiles) class (list_of content tiles class) ≡ true
has_own content tiles n met class solid l all low =
    let row = row_of tiles in
    let own = l.listed class low in
    let has : list_all (contains own.atoms) (free_from class 8 row) ≡ true = all_from (contains met) (contains own.atoms) (free_from class 8 row) all
    (λ q free member.
    let o = l.one q member in
    let other = l.listed o.class o.low in
    let there : contains other.atoms q ≡ true = subst (λ (ns : List ℕ). contains ns q ≡ true) (some_same o.atoms other.atoms (sym o.list ∙ other.list)) o.member in
    let same : o.class ≡ class = same_class o.class class (extent_at 8 row q) (at_member (λ a. in_class o.class (extent_at 8 row a)) other.atoms q other.inside there) (free_there class 8 row q solid free) in
    let list : Some o.atoms ≡ Some own.atoms = sym o.list ∙ ap (list_of content tiles) same ∙ own.list in
    subst (λ (ns : List ℕ). contains ns q ≡ true) (some_same o.atoms own.atoms list) o.member) in
    ap (has_class row class) own.list
    ∙ and_from (are_distinct own.atoms) (list_all (λ a. in_class class (extent_at 8 row a)) own.atoms && list_all (contains own.atoms) (free_from class 8 row)) own.once
    (and_from (list_all (λ a. in_class class (extent_at 8 row a)) own.atoms) (list_all (contains own.atoms) (free_from class 8 row)) own.inside has)

all_listed : (content : List ℕ) (tiles : List Tile) (n : ℕ) → ((class : ℕ) → class < n → has_class (row_of tiles) class (list_of content tiles class) ≡ true) → are_listed content tiles n ≡ true
all_listed content tiles zero has = refl
all_listed content tiles (suc n) has =
    and_from (are_listed content tiles n) (has_class (row_of tiles) n (list_of content tiles n)) (all_listed content tiles n (λ class low. has class (omega (arith, low)))) (has n (omega arith))

pub listed_clean : (content : List ℕ) (tiles : List Tile) → Solid (row_of tiles) → (of_lists content tiles 16).found ≡ [] → of_unlisted (of_lists content tiles 16).met 8 (row_of tiles) ≡ [] → are_listed content tiles 16 ≡ true
listed_clean content tiles solid found unlisted =
    let l = lists_clean content tiles 16 found in
    all_listed content tiles 16 (λ class low. has_own content tiles 16 (of_lists content tiles 16).met class solid l (unlisted_clean (of_lists content tiles 16).met 8 (row_of tiles) unlisted class) low)

-- the first so many lists, each as it should be
pub record Done (content : List ℕ) (tiles : List Tile) (n : ℕ) : Type 0 where
  pub none : (of_lists content tiles n).found ≡ []
  pub low : (q : ℕ) → contains (of_lists content tiles n).met q ≡ true → (class : ℕ) × (class < n) × (in_class class (extent_at 8 (row_of tiles) q) ≡ true)
  pub all : (class : ℕ) → class < n → list_all (contains (of_lists content tiles n).met) (free_from class 8 (row_of tiles)) ≡ true

-- what the test of a list says
record Holds (row : List Extent) (class : ℕ) (list : Option (List ℕ)) : Type 0 where
  atoms : List ℕ
  is : list ≡ Some atoms
  once : are_distinct atoms ≡ true
  inside : list_all (λ atom. in_class class (extent_at 8 row atom)) atoms ≡ true
  all : list_all (contains atoms) (free_from class 8 row) ≡ true

holds : (row : List Extent) (class : ℕ) (list : Option (List ℕ)) → has_class row class list ≡ true → Holds row class list
holds row class None test = absurd (false≢true test)
holds row class (Some atoms) test =
    let one = and_parts (are_distinct atoms) _ test in
    let two = and_parts (list_all (λ atom. in_class class (extent_at 8 row atom)) atoms) _ one.1 in
    record { atoms = atoms; is = refl; once = one.0; inside = two.0; all = two.1 }

good_by : (content : List ℕ) (tiles : List Tile) (n : ℕ) (cs : List ℕ) → Done content tiles n → are_distinct cs ≡ true → list_all (λ atom. in_class n (extent_at 8 (row_of tiles) atom)) cs ≡ true → Good tiles n (of_lists content tiles n).met cs
good_by content tiles n cs d once inside = record {
  once = once;
  inside = inside;
  apart = λ q member. elim (cases_Bool (contains (of_lists content tiles n).met q)) [
    | inl met ↦
        let low = d.low q met in
        let same = same_class low.0 n (extent_at 8 (row_of tiles) q) low.2 (at_member (λ a. in_class n (extent_at 8 (row_of tiles) a)) cs q inside member) in
        let less = low.1 in
        absurd (omega (arith, same, less))
    | inr not ↦ not
  ];
}

pub lists_none : (content : List ℕ) (tiles : List Tile) (n : ℕ) → are_listed content tiles n ≡ true → Done content tiles n
unfolding of_lists list_of
lists_none content tiles zero is = record { none = refl; low = λ q member. absurd (false≢true member); all = λ class low. absurd (omega (arith, low)) }
lists_none content tiles (suc n) is =
    let row = row_of tiles in
    let parts = and_parts (are_listed content tiles n) (has_class row n (list_of content tiles n)) is in
    let d = lists_none content tiles n parts.0 in
    let h = holds row n (list_of content tiles n) parts.1 in
    let before = of_lists content tiles n in
    let here = walk tiles n (length content) before.met 0 (list_head content n) in
    let c = walk_none tiles n (length content) before.met 0 (list_head content n) h.atoms h.is (good_by content tiles n h.atoms d h.once h.inside) in
    record {
      none = none_of before.found here.found d.none c.none;
      low = λ q member. elim (or_cases (contains h.atoms q) (contains before.met q) (sym (c.all q) ∙ member)) [
        | inl own ↦ (n, omega arith, at_member (λ a. in_class n (extent_at 8 row a)) h.atoms q h.inside own)
        | inr other ↦ let l = d.low q other in let less = l.1 in (l.0, omega (arith, less), l.2)
      ];
      all = λ class low. elim (cases_eq class n) [
        | inl same ↦ subst (λ (k : ℕ). list_all (contains here.met) (free_from k 8 row) ≡ true) (sym same)
            (all_from (contains h.atoms) (contains here.met) (free_from n 8 row) h.all (λ q free own. c.all q ∙ ap (λ (b : Bool). b || contains before.met q) own))
        | inr other ↦
            all_from (contains before.met) (contains here.met) (free_from class 8 row) (d.all class (omega (arith, low, other))) (λ q free own. c.all q ∙ or_right (contains h.atoms q) (contains before.met q) own)
      ];
    }

tail_all : (b : Bool) (p : ℕ → Bool) (n : ℕ) (ns : List ℕ) → list_all p (cond b (n ∷ ns) ns) ≡ true → list_all p ns ≡ true
tail_all true p n ns all = (and_parts (p n) (list_all p ns) all).1
tail_all false p n ns all = all

free_none : (met : List ℕ) (from : ℕ) (e : Extent) (rest : ℕ → List ℕ) → ((class : ℕ) → class < 16 → list_all (contains met) (cond (in_class class (Some e)) (from ∷ rest class) (rest class)) ≡ true) → of_free met from e ≡ []
free_none met from (Used c) rest all = refl
free_none met from (Compressed c) rest all = refl
free_none met from (Moved t) rest all = refl
free_none met from (Free s) rest all =
    let own : list_all (contains met) (from ∷ rest (class_of s)) ≡ true = sym (ap (λ (b : Bool). list_all (contains met) (cond b (from ∷ rest (class_of s)) (rest (class_of s)))) (eq-eqb (class_of s) (class_of s) refl)) ∙ all (class_of s) (class_below s) in
    ap (λ (b : Bool). unless b (finding.Unlisted from)) (and_parts (contains met from) (list_all (contains met) (rest (class_of s))) own).0
free_none met from (Hole s) rest all = refl

pub unlisted_none : (met : List ℕ) (from : ℕ) (row : List Extent) → ((class : ℕ) → class < 16 → list_all (contains met) (free_from class from row) ≡ true) → of_unlisted met from row ≡ []
unlisted_none met from [] all = refl
unlisted_none met from (e ∷ row) all =
    none_of (of_free met from e) (of_unlisted met (from + size e) row) (free_none met from e (λ class. free_from class (from + size e) row) all)
    (unlisted_none met (from + size e) row (λ class low. tail_all (in_class class (Some e)) (contains met) from (free_from class (from + size e) row) (all class low)))

-- where nothing is found in whole blocks, they make the content sound
used_all : (row : List Extent) (ts : List ℕ) → are_spaced false row ≡ true → list_all (λ t. is_used (extent_at 8 row t)) ts ≡ true → are_used row ts ≡ true
used_all row ts spread used = all_from (λ t. is_used (extent_at 8 row t)) (λ t. is_some (used_content (extent_at 8 row t))) ts used (λ t member is. sym (used_same false 8 row t spread) ∙ is)

all_used : (row : List Extent) (ts : List ℕ) → are_spaced false row ≡ true → are_used row ts ≡ true → list_all (λ t. is_used (extent_at 8 row t)) ts ≡ true
all_used row ts spread used = all_from (λ t. is_some (used_content (extent_at 8 row t))) (λ t. is_used (extent_at 8 row t)) ts used (λ t member is. used_same false 8 row t spread ∙ is)

pub whole_clean : (content : List ℕ) (tiles : List Tile) (atoms : ℕ) → Solid (row_of tiles) → Spaced atoms 8 false (row_of tiles) → of_whole content tiles ≡ [] → is_sound_tiling content tiles ≡ true
whole_clean content tiles atoms solid s is =
    let row = row_of tiles in
    let lists = of_lists content tiles 16 in
    let last = both_empty (of_targets row [] 8 row ++ lists.found) (of_unlisted lists.met 8 row) is in
    let first = both_empty (of_targets row [] 8 row) lists.found last.0 in
    let aims = targets_clean row [] 8 row first.0 in
    let listed = listed_clean content tiles solid first.1 last.1 in
    let used = used_all row (targets row) s.spread aims.used in
    and_from (are_spaced false row) _ s.spread
    (and_from (not (ends_free false row)) _ (not_from_false (ends_free false row) s.closed)
    (and_from (are_distinct (targets row)) _ aims.once (and_from (are_used row (targets row)) (are_listed content tiles 16) used listed)))

pub whole_none : (content : List ℕ) (tiles : List Tile) → is_sound_tiling content tiles ≡ true → (are_spaced false (row_of tiles) ≡ true) × (ends_free false (row_of tiles) ≡ false) × (of_whole content tiles ≡ [])
whole_none content tiles is =
    let row = row_of tiles in
    let one = and_parts (are_spaced false row) _ is in
    let two = and_parts (not (ends_free false row)) _ one.1 in
    let three = and_parts (are_distinct (targets row)) _ two.1 in
    let four = and_parts (are_used row (targets row)) (are_listed content tiles 16) three.1 in
    let lists = of_lists content tiles 16 in
    let d = lists_none content tiles 16 four.1 in
    let aims : Aims row [] (targets row) = record { once = three.0; apart = λ t member. refl; used = all_used row (targets row) one.0 four.0 } in (
      one.0,
      false_of_not (ends_free false row) two.0,
      none_of (of_targets row [] 8 row ++ lists.found) (of_unlisted lists.met 8 row) (none_of (of_targets row [] 8 row) lists.found (targets_none row [] 8 row aims) d.none) (unlisted_none lists.met 8 row d.all),
    )

abbrev judged : List ℕ → List Tile → Option (List Tile)
judged content tiles = cond (is_sound_tiling content tiles) (Some tiles) None

-- the blocks of a content of whole atoms in which nothing is found make it sound
content_tiling : (content : List ℕ) → has_length content ≡ true → of_content content (blocks content) ≡ [] → (sound_tiling content ≡ Some (blocks content)) × (is_sound_tiling content (blocks content) ≡ true)
unfolding sound_tiling tiling
content_tiling content long is =
    let tiles = blocks content in
    let row = row_of tiles in
    let atoms = length content / 16 in
    let two = both_empty (of_blocks atoms None 8 row) (cond (nat_eq (8 + atoms_in row) atoms) (of_whole content tiles) []) is in
    let s = blocks_clean atoms None 8 row two.0 in
    let whole = s.whole in
    let inner : of_whole content tiles ≡ [] = sym (ap (λ (b : Bool). cond b (of_whole content tiles) []) (eq-eqb (8 + atoms_in row) atoms whole)) ∙ two.1 in
    let parts = and_parts (nat_le 128 (length content)) (nat_eq (length content % 16) 0) long in
    let low = leb-true 128 (length content) parts.0 in
    let even = eqb-true (length content % 16) 0 parts.1 in
    let sum = mod-add-div' (length content) 16 in
    let left = length-drop 128 content in
    let tiled : tiles_in (length content) (drop 128 content) ≡ Some tiles = blocks_tiles (length content) (drop 128 content) (omega (arith, left)) (omega (arith, left, low, even, sum, whole)) in
    let tiling_is : cond (nat_le 128 (length content)) (tiles_in (length content) (drop 128 content)) None ≡ Some tiles = ap (λ (b : Bool). cond b (tiles_in (length content) (drop 128 content)) None) parts.0 ∙ tiled in
    let sound = whole_clean content tiles atoms (blocks_solid (length content) (drop 128 content)).0 s inner in
    (ap (option_and_then (judged content)) tiling_is ∙ ap (λ (b : Bool). cond b (Some tiles) None) sound, sound)

content_clean : (content : List ℕ) → has_length content ≡ true → of_content content (blocks content) ≡ [] → is_sound content ≡ true
content_clean content long is = ap (λ (o : Option (List Tile)). is_some o) (content_tiling content long is).0

judged_some : (content : List ℕ) (o : Option (List Tile)) → is_some (option_and_then (judged content) o) ≡ true → (tiles : List Tile) × (o ≡ Some tiles) × (is_sound_tiling content tiles ≡ true)
judged_some content None is = absurd (false≢true is)
judged_some content (Some tiles) is = elim (cases_Bool (is_sound_tiling content tiles)) [
  | inl sound ↦ (tiles, refl, sound)
  | inr not ↦ absurd (false≢true (sym (ap (λ (b : Bool). is_some (cond b (Some tiles) None)) not) ∙ is))
]

tiles_chosen : (b : Bool) (o : Option (List Tile)) (tiles : List Tile) → cond b o None ≡ Some tiles → (b ≡ true) × (o ≡ Some tiles)
tiles_chosen true o tiles is = (refl, is)
tiles_chosen false o tiles is = absurd (cc)

-- a sound content is whole atoms, and nothing is found in it
content_none : (content : List ℕ) → is_sound content ≡ true → (has_length content ≡ true) × (of_content content (blocks content) ≡ [])
unfolding sound_tiling tiling
content_none content is =
    let j = judged_some content (cond (nat_le 128 (length content)) (tiles_in (length content) (drop 128 content)) None) is in
    let tiles : List Tile = j.0 in
    let c = tiles_chosen (nat_le 128 (length content)) (tiles_in (length content) (drop 128 content)) tiles j.1 in
    let same : blocks content ≡ tiles = tiles_blocks (length content) (drop 128 content) tiles c.1 in
    let size = tiles_whole tiles (drop 128 content) (found_tiles (length content) (drop 128 content) tiles c.1) in
    let low = leb-true 128 (length content) c.0 in
    let left = length-drop 128 content in
    let w = whole_none content tiles j.2 in
    let row = row_of tiles in
    let count : length content ≡ (8 + atoms_in row) * 16 = omega (arith, size, low, left) in
    let sum = mod-add-div' (length content) 16 in
    let even : length content % 16 ≡ 0 = omega (arith, count, sum) in
    let atoms : 8 + atoms_in row ≡ length content / 16 = omega (arith, count, sum) in
    let none : of_content content tiles ≡ [] = none_of (of_blocks (length content / 16) None 8 row) (cond (nat_eq (8 + atoms_in row) (length content / 16)) (of_whole content tiles) [])
    (blocks_none (length content / 16) None 8 row (record { whole = atoms; spread = w.0; closed = w.1 }))
    (ap (λ (b : Bool). cond b (of_whole content tiles) []) (eq-eqb (8 + atoms_in row) (length content / 16) atoms) ∙ w.2) in (
      and_from (nat_le 128 (length content)) (nat_eq (length content % 16) 0) c.0 (eq-eqb (length content % 16) 0 even),
      ap (of_content content) same ∙ none,
    )

pub findings_clean : (content : List ℕ) → findings content ≡ [] → IsClean content
unfolding findings
findings_clean [] is = inl refl
findings_clean (b ∷ bs) is =
    let test = test_of (has_length (b ∷ bs)) (of_content (b ∷ bs) (blocks (b ∷ bs))) (finding.BadLength (length (b ∷ bs))) is in
    inr (content_clean (b ∷ bs) test.0 test.1)

-- the same of a content with bytes, with the blocks that make it sound
pub findings_tiling : (content : List ℕ) → 1 ≤ length content → findings content ≡ [] → (sound_tiling content ≡ Some (blocks content)) × (is_sound_tiling content (blocks content) ≡ true)
unfolding findings
findings_tiling [] some is = absurd (omega (arith, some))
findings_tiling (b ∷ bs) some is =
    let test = test_of (has_length (b ∷ bs)) (of_content (b ∷ bs) (blocks (b ∷ bs))) (finding.BadLength (length (b ∷ bs))) is in
    content_tiling (b ∷ bs) test.0 test.1

pub findings_none : (content : List ℕ) → IsClean content → findings content ≡ []
unfolding findings
findings_none [] clean = refl
findings_none (b ∷ bs) (inl none) = absurd (cc)
findings_none (b ∷ bs) (inr sound) =
    let c = content_none (b ∷ bs) sound in
    ap (λ (t : Bool). cond t (of_content (b ∷ bs) (blocks (b ∷ bs))) (finding.BadLength (length (b ∷ bs)) ∷ [])) c.0 ∙ c.1
