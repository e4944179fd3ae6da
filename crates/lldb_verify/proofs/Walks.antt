-- What it means that nothing is found along the lists.
use Rattle.std.proofs.Common.{◌≡◌, ℕ, zero, suc, ◌+◌, inl, inr, Bool, true, false, not, cond, ◌&&◌, ◌||◌, List, [], ◌∷◌, Option, Some, None, option_and_then, option_map, refl, sym, ◌∙◌, ap, ap₂, subst, nat_eq}
use Rattle.std.specs.List.{list_all}
use Rattle.std.proofs.lemmas.Bool.{cases_Bool, and_parts, and_from, false≢true, or_cases, or_right, eqb-true, eq-eqb, not_from_false}
use Rattle.lldb_atoms.specs.Blocks.{Extent, Used, Compressed, Moved, Free, Hole, Tile, size, is_free}
use Rattle.lldb_atoms.specs.Rows.{extent_at, contains, are_distinct}
use Rattle.lldb_atoms.specs.Lists.{in_class, row_of, tile_from, chain}
use Rattle.lldb_verify.specs.Findings.{links_back, goes_on, next_of, Walk, walk}
use Rattle.lldb_verify.specs.declared.finding.Finding.TheVariants as finding
use Rattle.lldb_verify.proofs.Rows.{later_lacks, false_of_not}

pub free_of_class : (class : ℕ) (e : Extent) → in_class class (Some e) ≡ true → is_free e ≡ true
free_of_class class (Used c) is = absurd (false≢true is)
free_of_class class (Compressed c) is = absurd (false≢true is)
free_of_class class (Moved t) is = absurd (false≢true is)
free_of_class class (Free s) is = refl
free_of_class class (Hole s) is = absurd (false≢true is)

-- what begins at an atom is that of the block there
pub extent_there : (from : ℕ) (tiles : List Tile) (q : ℕ) → extent_at from (row_of tiles) q ≡ option_map (λ tile. tile.extent) (tile_from from tiles q)
extent_there from [] q = refl
extent_there from (t ∷ ts) q = elim (cases_Bool (nat_eq q from)) [
  | inl here ↦ ap (λ (b : Bool). cond b (Some t.extent) (extent_at (from + size t.extent) (row_of ts) q)) here
      ∙ sym (ap (λ (b : Bool). option_map (λ (tile : Tile). tile.extent) (cond b (Some t) (tile_from (from + size t.extent) ts q))) here)
  | inr other ↦ ap (λ (b : Bool). cond b (Some t.extent) (extent_at (from + size t.extent) (row_of ts) q)) other
      ∙ extent_there (from + size t.extent) ts q
      ∙ sym (ap (λ (b : Bool). option_map (λ (tile : Tile). tile.extent) (cond b (Some t) (tile_from (from + size t.extent) ts q))) other)
]

-- a block that a list may go on to
pub record Linked (tiles : List Tile) (class before q : ℕ) : Type 0 where
  pub tile : Tile
  pub there : tile_from 8 tiles q ≡ Some tile
  pub member : in_class class (Some tile.extent) ≡ true
  pub back : tile.previous ≡ before

linked_by : (tiles : List Tile) (class before q : ℕ) (o : Option Tile) → tile_from 8 tiles q ≡ o → links_back class before o ≡ true → Linked tiles class before q
linked_by tiles class before q None there is = absurd (false≢true is)
linked_by tiles class before q (Some t) there is =
    let parts = and_parts (in_class class (Some t.extent)) (nat_eq t.previous before) is in
    record { tile = t; there = there; member = parts.0; back = eqb-true t.previous before parts.1 }

-- a list along which nothing is found, and the atoms that were met then
pub record Went (tiles : List Tile) (class most before here : ℕ) (met grown : List ℕ) : Type 0 where
  pub atoms : List ℕ
  pub list : chain tiles most before here ≡ Some atoms
  pub once : are_distinct atoms ≡ true
  pub inside : list_all (λ atom. in_class class (extent_at 8 (row_of tiles) atom)) atoms ≡ true
  pub apart : (q : ℕ) → contains atoms q ≡ true → contains met q ≡ false
  pub all : (q : ℕ) → contains grown q ≡ (contains atoms q || contains met q)

abbrev wrong : ℕ → List ℕ → ℕ → Walk
wrong class met atom = record { met = met; found = finding.BadLink class atom ∷ [] }

went_on : (b : Bool) (w : Walk) (class : ℕ) (met : List ℕ) (atom : ℕ) → (cond b w (wrong class met atom)).found ≡ [] → b ≡ true
went_on true w class met atom is = refl
went_on false w class met atom is = absurd (cc)

abbrev step : List Tile → ℕ → ℕ → ℕ → Tile → Option (List ℕ)
step tiles most before atom tile =
    cond (is_free tile.extent && nat_eq tile.previous before) (option_map (λ rest. suc atom ∷ rest) (chain tiles most (suc atom) tile.next)) None

chain_step : (tiles : List Tile) (most before atom : ℕ) (tile : Tile) (rest : List ℕ) → tile_from 8 tiles (suc atom) ≡ Some tile → is_free tile.extent ≡ true → tile.previous ≡ before → chain tiles most (suc atom) tile.next ≡ Some rest → chain tiles (suc most) before (suc atom) ≡ Some (suc atom ∷ rest)
unfolding chain
chain_step tiles most before atom tile rest there free back more =
    ap (option_and_then (step tiles most before atom)) there
    ∙ ap (λ (b : Bool). cond b (option_map (λ rest. suc atom ∷ rest) (chain tiles most (suc atom) tile.next)) None) (and_from (is_free tile.extent) (nat_eq tile.previous before) free (eq-eqb tile.previous before back))
    ∙ ap (option_map (λ rest. suc atom ∷ rest)) more

moved_over : (a b c : Bool) → (a || (b || c)) ≡ ((b || a) || c)
moved_over true true c = refl
moved_over true false c = refl
moved_over false true c = refl
moved_over false false c = refl

first_lacks : (cs met : List ℕ) (a : ℕ) → ((q : ℕ) → contains cs q ≡ true → contains (a ∷ met) q ≡ false) → contains cs a ≡ false
first_lacks cs met a apart = elim (cases_Bool (contains cs a)) [
  | inl member ↦ absurd (false≢true (sym (later_lacks (nat_eq a a) (contains met a) (apart a member)).0 ∙ eq-eqb a a refl))
  | inr lacks ↦ lacks
]

one_more : (tiles : List Tile) (class most before atom : ℕ) (met grown : List ℕ) (l : Linked tiles class before (suc atom)) → contains met (suc atom) ≡ false → Went tiles class most (suc atom) l.tile.next (suc atom ∷ met) grown → Went tiles class (suc most) before (suc atom) met grown
one_more tiles class most before atom met grown l new w =
    let member : in_class class (extent_at 8 (row_of tiles) (suc atom)) ≡ true = ap (in_class class) (extent_there 8 tiles (suc atom) ∙ ap (option_map (λ (t : Tile). t.extent)) l.there) ∙ l.member in
    record {
      atoms = suc atom ∷ w.atoms;
      list = chain_step tiles most before atom l.tile w.atoms l.there (free_of_class class l.tile.extent l.member) l.back w.list;
      once = and_from (not (contains w.atoms (suc atom))) (are_distinct w.atoms) (not_from_false (contains w.atoms (suc atom)) (first_lacks w.atoms met (suc atom) w.apart)) w.once;
      inside = and_from (in_class class (extent_at 8 (row_of tiles) (suc atom))) (list_all (λ a. in_class class (extent_at 8 (row_of tiles) a)) w.atoms) member w.inside;
      apart = λ q found. elim (or_cases (nat_eq q (suc atom)) (contains w.atoms q) found) [
        | inl same ↦ subst (λ (a : ℕ). contains met a ≡ false) (sym (eqb-true q (suc atom) same)) new
        | inr later ↦ (later_lacks (nat_eq q (suc atom)) (contains met q) (w.apart q later)).1
      ];
      all = λ q. w.all q ∙ moved_over (contains w.atoms q) (nat_eq q (suc atom)) (contains met q);
    }

-- nothing is found along a list
pub walk_clean : (tiles : List Tile) (class most : ℕ) (met : List ℕ) (before here : ℕ) → (walk tiles class most met before here).found ≡ [] → Went tiles class most before here met (walk tiles class most met before here).met
unfolding walk chain
walk_clean tiles class most met before zero is = record { atoms = []; list = refl; once = refl; inside = refl; apart = λ q found. absurd (false≢true found); all = λ q. refl }
walk_clean tiles class zero met before (suc atom) is = absurd (cc)
walk_clean tiles class (suc most) met before (suc atom) is =
    let on = walk tiles class most (suc atom ∷ met) (suc atom) (next_of (tile_from 8 tiles (suc atom))) in
    let test = went_on (goes_on tiles class met before (suc atom)) on class met (suc atom) is in
    let parts = and_parts (links_back class before (tile_from 8 tiles (suc atom))) (not (contains met (suc atom))) test in
    let l = linked_by tiles class before (suc atom) (tile_from 8 tiles (suc atom)) refl parts.0 in
    let same : cond (goes_on tiles class met before (suc atom)) on (wrong class met (suc atom)) ≡ on = ap (λ (b : Bool). cond b on (wrong class met (suc atom))) test in
    let none : on.found ≡ [] = sym (ap (λ (w : Walk). w.found) same) ∙ is in
    let rest = walk_clean tiles class most (suc atom ∷ met) (suc atom) (next_of (tile_from 8 tiles (suc atom))) none in
    let next : next_of (tile_from 8 tiles (suc atom)) ≡ l.tile.next = ap next_of l.there in
    let w : Went tiles class most (suc atom) l.tile.next (suc atom ∷ met) on.met = subst (λ (n : ℕ). Went tiles class most (suc atom) n (suc atom ∷ met) on.met) next rest in
    subst (λ (v : Walk). Went tiles class (suc most) before (suc atom) met v.met) (sym same) (one_more tiles class most before atom met on.met l (false_of_not (contains met (suc atom)) parts.1) w)

-- a chain that ends, step by step
pub record Steps (tiles : List Tile) (most before atom : ℕ) (cs : List ℕ) : Type 0 where
  pub tile : Tile
  pub rest : List ℕ
  pub there : tile_from 8 tiles (suc atom) ≡ Some tile
  pub back : tile.previous ≡ before
  pub more : chain tiles most (suc atom) tile.next ≡ Some rest
  pub parts : suc atom ∷ rest ≡ cs

mapped : (a : ℕ) (r : Option (List ℕ)) (cs : List ℕ) → option_map (λ rest. a ∷ rest) r ≡ Some cs → (ds : List ℕ) × (r ≡ Some ds) × (a ∷ ds ≡ cs)
mapped a None cs is = absurd (cc)
mapped a (Some ds) cs is = (ds, refl, cc)

chosen : (b : Bool) (o : Option (List ℕ)) (cs : List ℕ) → cond b o None ≡ Some cs → (b ≡ true) × (o ≡ Some cs)
chosen true o cs is = (refl, is)
chosen false o cs is = absurd (cc)

steps_by : (tiles : List Tile) (most before atom : ℕ) (cs : List ℕ) (o : Option Tile) → tile_from 8 tiles (suc atom) ≡ o → option_and_then (step tiles most before atom) o ≡ Some cs → Steps tiles most before atom cs
steps_by tiles most before atom cs None there is = absurd (cc)
steps_by tiles most before atom cs (Some t) there is =
    let c = chosen (is_free t.extent && nat_eq t.previous before) (option_map (λ rest. suc atom ∷ rest) (chain tiles most (suc atom) t.next)) cs is in
    let two = and_parts (is_free t.extent) (nat_eq t.previous before) c.0 in
    let m = mapped (suc atom) (chain tiles most (suc atom) t.next) cs c.1 in
    record { tile = t; rest = m.0; there = there; back = eqb-true t.previous before two.1; more = m.1; parts = m.2 }

-- a list that is as it should be, and apart from what was met
pub record Good (tiles : List Tile) (class : ℕ) (met cs : List ℕ) : Type 0 where
  pub once : are_distinct cs ≡ true
  pub inside : list_all (λ atom. in_class class (extent_at 8 (row_of tiles) atom)) cs ≡ true
  pub apart : (q : ℕ) → contains cs q ≡ true → contains met q ≡ false

-- what is found along it, and met
pub record Clean (w : Walk) (met cs : List ℕ) : Type 0 where
  pub none : w.found ≡ []
  pub all : (q : ℕ) → contains w.met q ≡ (contains cs q || contains met q)

neither : (a b : Bool) → a ≡ false → b ≡ false → (a || b) ≡ false
neither a b x y = ap₂ (λ (c d : Bool). c || d) x y

not_the_first : (cs : List ℕ) (a q : ℕ) → contains cs a ≡ false → contains cs q ≡ true → nat_eq q a ≡ false
not_the_first cs a q lacks member = elim (cases_Bool (nat_eq q a)) [
  | inl same ↦ absurd (false≢true (sym lacks ∙ subst (λ (v : ℕ). contains cs v ≡ true) (eqb-true q a same) member))
  | inr other ↦ other
]

good_rest : (tiles : List Tile) (class a : ℕ) (met ds : List ℕ) → Good tiles class met (a ∷ ds) → Good tiles class (a ∷ met) ds
good_rest tiles class a met ds g =
    let ones = and_parts (not (contains ds a)) (are_distinct ds) g.once in
    let lacks = false_of_not (contains ds a) ones.0 in
    record {
      once = ones.1;
      inside = (and_parts (in_class class (extent_at 8 (row_of tiles) a)) (list_all (λ atom. in_class class (extent_at 8 (row_of tiles) atom)) ds) g.inside).1;
      apart = λ q member. neither (nat_eq q a) (contains met q) (not_the_first ds a q lacks member) (g.apart q (or_right (nat_eq q a) (contains ds q) member));
    }

pub walk_none : (tiles : List Tile) (class most : ℕ) (met : List ℕ) (before here : ℕ) (cs : List ℕ) → chain tiles most before here ≡ Some cs → Good tiles class met cs → Clean (walk tiles class most met before here) met cs
unfolding walk chain
walk_none tiles class most met before zero cs is g =
    let none : [] ≡ cs = cc in
    record { none = refl; all = λ q. subst (λ (ds : List ℕ). contains met q ≡ (contains ds q || contains met q)) none refl }
walk_none tiles class zero met before (suc atom) cs is g = absurd (cc)
walk_none tiles class (suc most) met before (suc atom) cs is g =
    let s = steps_by tiles most before atom cs (tile_from 8 tiles (suc atom)) refl is in
    let good : Good tiles class met (suc atom ∷ s.rest) = subst (λ (ds : List ℕ). Good tiles class met ds) (sym s.parts) g in
    let member : in_class class (extent_at 8 (row_of tiles) (suc atom)) ≡ true = (and_parts (in_class class (extent_at 8 (row_of tiles) (suc atom))) (list_all (λ a. in_class class (extent_at 8 (row_of tiles) a)) s.rest) good.inside).0 in
    let own : in_class class (Some s.tile.extent) ≡ true = sym (ap (in_class class) (extent_there 8 tiles (suc atom) ∙ ap (option_map (λ (t : Tile). t.extent)) s.there)) ∙ member in
    let first : contains (suc atom ∷ s.rest) (suc atom) ≡ true = ap (λ (b : Bool). b || contains s.rest (suc atom)) (eq-eqb (suc atom) (suc atom) refl) in
    let back : links_back class before (tile_from 8 tiles (suc atom)) ≡ true = ap (links_back class before) s.there ∙ and_from (in_class class (Some s.tile.extent)) (nat_eq s.tile.previous before) own (eq-eqb s.tile.previous before s.back) in
    let test : goes_on tiles class met before (suc atom) ≡ true = and_from (links_back class before (tile_from 8 tiles (suc atom))) (not (contains met (suc atom))) back (not_from_false (contains met (suc atom)) (good.apart (suc atom) first)) in
    let on = walk tiles class most (suc atom ∷ met) (suc atom) (next_of (tile_from 8 tiles (suc atom))) in
    let same : cond (goes_on tiles class met before (suc atom)) on (wrong class met (suc atom)) ≡ on = ap (λ (b : Bool). cond b on (wrong class met (suc atom))) test in
    let more : chain tiles most (suc atom) (next_of (tile_from 8 tiles (suc atom))) ≡ Some s.rest = ap (λ (o : Option Tile). chain tiles most (suc atom) (next_of o)) s.there ∙ s.more in
    let rest = walk_none tiles class most (suc atom ∷ met) (suc atom) (next_of (tile_from 8 tiles (suc atom))) s.rest more (good_rest tiles class (suc atom) met s.rest good) in
    subst (λ (v : Walk). Clean v met cs) (sym same) (record {
      none = rest.none;
      all = λ q. rest.all q ∙ moved_over (contains s.rest q) (nat_eq q (suc atom)) (contains met q) ∙ ap (λ (ds : List ℕ). contains ds q || contains met q) s.parts;
    })
