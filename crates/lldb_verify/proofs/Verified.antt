-- How the passes make up the verifier.
use Rattle.std.proofs.Common.{◌≡◌, ℕ, ◌+◌, ◌/◌, ◌%◌, ◌≤◌, ◌<◌, Bool, true, false, not, cond, ◌&&◌, List, [], ◌∷◌, ◌++◌, length, Option, Some, None, IfSome, Result, Ok, Err, refl, sym, ◌∙◌, ap, subst, append_assoc, arith, nat_eq, nat_le}
use Rattle.std.proofs.lemmas.List.{append-nil}
use Rattle.std.proofs.lemmas.Bool.{and_from, eq-eqb, le-leb, lt-leb, ne_eqb, false≢true}
use Rattle.lldb_atoms.specs.Rows.{atoms_in}
use Rattle.lldb_atoms.specs.Lists.{row_of}
use Rattle.lldb_verify.specs.declared.finding.Finding.{Finding}
use Rattle.lldb_verify.specs.declared.finding.Finding.TheVariants as finding
use Rattle.lldb_verify.specs.declared.finding.Stats.{Stats}
use Rattle.lldb_verify.specs.declared.finding.VerifyFault.{VerifyFault}
use Rattle.lldb_atoms.specs.Sound.{heap_in}
use Rattle.lldb_verify.specs.Findings.{blocks, blocks_in, of_blocks, of_targets, of_lists, of_unlisted, of_whole, of_content, has_length, findings}
use Rattle.lldb_verify.specs.Marks.{Marks, is_set}
use Rattle.lldb_verify.specs.Met.{Unmet, Lists, links_of, IsOdd, IsSoundSeen, Passing, Verifies}
use Rattle.lldb_verify.specs.Passes.{blocks_from, IsStuck, Passed, AllAimed, Passes}
use Rattle.lldb_verify.specs.Told.{Tells}
use Rattle.lldb_verify.proofs.Ahead.{stopped_more}
use Rattle.lldb_verify.proofs.Handles.{handles_marked}
use Rattle.lldb_verify.proofs.Rows.{blocks_clean}

-- what is found at relocated blocks, along the lists, and at unlisted blocks
abbrev pub of_aims : List ℕ → List Finding
of_aims c = of_targets (row_of (blocks_from c 8)) [] 8 (row_of (blocks_from c 8))

abbrev along : List ℕ → List Finding
along c = (of_lists c (blocks_from c 8) 16).found

abbrev left : List ℕ → List Finding
left c = of_unlisted (of_lists c (blocks_from c 8) 16).met 8 (row_of (blocks_from c 8))

pub aims_wrong : (told : Option (List ℕ)) (bits marks : Marks) (now later : List Finding) (bound : Option ℕ) (e : VerifyFault) → IfSome told (λ c. AllAimed c (now ++ of_aims c) bound bits later (Err e)) → IfSome told (λ c. Lists c (links_of c) now bound marks later (Err e))
aims_wrong None bits marks now later bound e t = tt
aims_wrong (Some c) bits marks now later bound e t =
    stopped_more (now ++ of_aims c) (along c ++ left c) (now ++ of_whole c (blocks_from c 8)) later bound e
    (ap (λ (fs : List Finding). now ++ fs) (append_assoc (of_aims c) (along c) (left c)) ∙ sym (append_assoc now (of_aims c) (along c ++ left c))) t

-- what was told before the last pass
joined : (c : List ℕ) (now mid : List Finding) → mid ≡ now ++ of_aims c → now ++ of_whole c (blocks_from c 8) ≡ (mid ++ along c) ++ left c
joined c now mid is =
    sym (append_assoc now (of_aims c ++ along c) (left c))
    ∙ ap (λ (fs : List Finding). fs ++ left c) (sym (append_assoc now (of_aims c) (along c)))
    ∙ ap (λ (fs : List Finding). (fs ++ along c) ++ left c) (sym is)

pub lists_wrong_too : (told here : Option (List ℕ)) (bits marks : Marks) (now mid later : List Finding) (bound most : Option ℕ) (u : Unit {0}) (e : VerifyFault) → here ≡ told → bound ≡ most → IfSome told (λ c. AllAimed c (now ++ of_aims c) most bits mid (Ok u)) → IfSome here (λ c. Lists c (of_lists c (blocks_from c 8) 16) mid bound marks later (Err e))
    → IfSome told (λ c. Lists c (links_of c) now most marks later (Err e))
lists_wrong_too None here bits marks now mid later bound most u e same is aimed t = tt
lists_wrong_too (Some c) here bits marks now mid later bound most u e same is aimed t =
    let there : IfSome (Some c) (λ c. Lists c (of_lists c (blocks_from c 8) 16) mid bound marks later (Err e)) = subst (λ (o : Option (List ℕ)). IfSome o (λ c. Lists c (of_lists c (blocks_from c 8) 16) mid bound marks later (Err e))) same t in
    stopped_more (mid ++ along c) (left c) (now ++ of_whole c (blocks_from c 8)) later most e (joined c now mid aimed.0) (subst (λ (o : Option ℕ). Tells {T = Unit {0}} (mid ++ along c) o later (Err e)) is there)

links_by : (c : List ℕ) (marks : Marks) (now later all : List Finding) (most : Option ℕ) (r : Result (Unit {0}) VerifyFault) → Unmet c (links_of c).met marks → now ++ of_whole c (blocks_from c 8) ≡ all → Tells all most later r → Lists c (links_of c) now most marks later r
links_by c marks now later all most (Ok u) m is t = (t.0 ∙ sym is, m)
links_by c marks now later all most (Err e) m is t = subst (λ (fs : List Finding). Tells {T = Unit {0}} fs most later (Err e)) (sym is) t

pub links_told : (told here there : Option (List ℕ)) (bits marks : Marks) (now mid end later : List Finding) (middle bound most : Option ℕ) (u v : Unit {0}) (r : Result (Unit {0}) VerifyFault) → here ≡ told → there ≡ told → bound ≡ most → IfSome told (λ c. AllAimed c (now ++ of_aims c) most bits mid (Ok u)) → IfSome here (λ c. Lists c (of_lists c (blocks_from c 8) 16) mid middle marks end (Ok v))
    → IfSome there (λ c. (met : List ℕ) → Unmet c met marks → Tells (end ++ of_unlisted met 8 (row_of (blocks_from c 8))) bound later r) → IfSome told (λ c. Lists c (links_of c) now most marks later r)
links_told None here there bits marks now mid end later middle bound most u v r same alike is aimed listed swept = tt
links_told (Some c) here there bits marks now mid end later middle bound most u v r same alike is aimed listed swept =
    let l : IfSome (Some c) (λ c. Lists c (of_lists c (blocks_from c 8) 16) mid middle marks end (Ok v)) = subst (λ (o : Option (List ℕ)). IfSome o (λ c. Lists c (of_lists c (blocks_from c 8) 16) mid middle marks end (Ok v))) same listed in
    let s : IfSome (Some c) (λ c. (met : List ℕ) → Unmet c met marks → Tells (end ++ of_unlisted met 8 (row_of (blocks_from c 8))) bound later r) = subst (λ (o : Option (List ℕ)). IfSome o (λ c. (met : List ℕ) → Unmet c met marks → Tells (end ++ of_unlisted met 8 (row_of (blocks_from c 8))) bound later r)) alike swept in
    links_by c marks now later (end ++ left c) most r l.1 (joined c now mid aimed.0 ∙ ap (λ (fs : List Finding). fs ++ left c) (sym l.0)) (subst (λ (o : Option ℕ). Tells (end ++ left c) o later r) is (s (of_lists c (blocks_from c 8) 16).met l.1))

-- what is found in a content of whole atoms
abbrev along_blocks : List ℕ → List Finding
along_blocks c = of_blocks (length c / 16) None 8 (row_of (blocks_from c 8))

found_whole : (c : List ℕ) → 128 ≤ length c → length c % 16 ≡ 0 → findings c ≡ along_blocks c ++ cond (nat_eq (8 + atoms_in (row_of (blocks_from c 8))) (length c / 16)) (of_whole c (blocks_from c 8)) []
unfolding findings
found_whole [] low even = absurd (omega (arith, low))
found_whole (b ∷ bs) low even =
    ap (λ (t : Bool). cond t (of_content (b ∷ bs) (blocks (b ∷ bs))) (finding.BadLength (length (b ∷ bs)) ∷ [])) (and_from (nat_le 128 (length (b ∷ bs))) (nat_eq (length (b ∷ bs) % 16) 0) (le-leb 128 (length (b ∷ bs)) low) (eq-eqb (length (b ∷ bs) % 16) 0 even))

some_of : {A : Type 0} → (xs : List A) → (xs ≡ [] → ⊥) → 1 ≤ length xs
some_of [] not = absurd (not refl)
some_of (x ∷ xs) not = omega arith

pub whole_stuck : (told : Option (List ℕ)) (total : ℕ) (bits : Marks) (before now : List Finding) (bound : Option ℕ) → IfSome told (λ c. length c ≡ total) → 128 ≤ total → total % 16 ≡ 0 → before ≡ [] → IfSome told (λ c. IsStuck c (before ++ along_blocks c) now) → IfSome told (λ c. Passing c bound bits now (Ok None))
whole_stuck None total bits before now bound long low even empty s = tt
whole_stuck (Some c) total bits before now bound long low even empty s =
    let same : findings c ≡ along_blocks c = found_whole c (omega (arith, long, low)) (ap (λ (n : ℕ). n % 16) long ∙ even) ∙ ap (λ (b : Bool). along_blocks c ++ cond b (of_whole c (blocks_from c 8)) []) s.short ∙ append-nil (along_blocks c) in (
      s.told ∙ ap (λ (fs : List Finding). fs ++ along_blocks c) empty ∙ sym same,
      some_of (findings c) (λ none. false≢true (sym s.short ∙ eq-eqb (8 + atoms_in (row_of (blocks_from c 8))) (length c / 16) (blocks_clean (length c / 16) None 8 (row_of (blocks_from c 8)) (sym same ∙ none)).whole)),
    )

pub blocks_wrong : (told : Option (List ℕ)) (total : ℕ) (bits marks : Marks) (before now : List Finding) (bound : Option ℕ) (e : VerifyFault) → IfSome told (λ c. length c ≡ total) → 128 ≤ total → total % 16 ≡ 0 → before ≡ [] → IfSome told (λ c. Passes c (before ++ along_blocks c) bound bits now (Err e)) → IfSome told (λ c. Passing c bound marks now (Err e))
blocks_wrong None total bits marks before now bound e long low even empty t = tt
blocks_wrong (Some c) total bits marks before now bound e long low even empty t =
    let all : findings c ≡ along_blocks c ++ cond (nat_eq (8 + atoms_in (row_of (blocks_from c 8))) (length c / 16)) (of_whole c (blocks_from c 8)) [] = found_whole c (omega (arith, long, low)) (ap (λ (n : ℕ). n % 16) long ∙ even) in
    stopped_more (along_blocks c) (cond (nat_eq (8 + atoms_in (row_of (blocks_from c 8))) (length c / 16)) (of_whole c (blocks_from c 8)) []) (findings c) now bound e all (subst (λ (fs : List Finding). Tells {T = Unit {0}} (fs ++ along_blocks c) bound now (Err e)) empty t)

-- all of a content whose blocks take it whole
found_all : (c : List ℕ) (total : ℕ) (bits : Marks) (stats : Stats) (before now : List Finding) → length c ≡ total → 128 ≤ total → total % 16 ≡ 0 → before ≡ [] → Passed c (before ++ along_blocks c) now bits stats → findings c ≡ now ++ of_whole c (blocks_from c 8)
found_all c total bits stats before now long low even empty p =
    found_whole c (omega (arith, long, low)) (ap (λ (n : ℕ). n % 16) long ∙ even) ∙ ap (λ (b : Bool). along_blocks c ++ cond b (of_whole c (blocks_from c 8)) []) p.whole
    ∙ ap (λ (fs : List Finding). fs ++ of_whole c (blocks_from c 8)) (sym (p.told ∙ ap (λ (fs : List Finding). fs ++ along_blocks c) empty))

pub links_wrong : (told here : Option (List ℕ)) (total : ℕ) (bits marks : Marks) (stats : Stats) (before now later : List Finding) (bound most : Option ℕ) (e : VerifyFault) → here ≡ told → bound ≡ most → IfSome told (λ c. length c ≡ total) → 128 ≤ total → total % 16 ≡ 0 → before ≡ [] → IfSome told (λ c. Passed c (before ++ along_blocks c) now bits stats) → IfSome here (λ c. Lists c (links_of c) now bound marks later (Err e))
    → IfSome told (λ c. Passing c most marks later (Err e))
links_wrong None here total bits marks stats before now later bound most e same is long low even empty p t = tt
links_wrong (Some c) here total bits marks stats before now later bound most e same is long low even empty p t =
    let there : IfSome (Some c) (λ c. Lists c (links_of c) now bound marks later (Err e)) = subst (λ (o : Option (List ℕ)). IfSome o (λ c. Lists c (links_of c) now bound marks later (Err e))) same t in
    subst (λ (fs : List Finding). Tells {T = Unit {0}} fs most later (Err e)) (sym (found_all c total bits stats before now long low even empty p)) (subst (λ (o : Option ℕ). Tells {T = Unit {0}} (now ++ of_whole c (blocks_from c 8)) o later (Err e)) is there)

pub links_right : (told here : Option (List ℕ)) (total : ℕ) (bits marks : Marks) (stats : Stats) (before now later : List Finding) (bound most : Option ℕ) (u : Unit {0}) → here ≡ told → IfSome told (λ c. length c ≡ total) → 128 ≤ total → total % 16 ≡ 0 → before ≡ [] → IfSome told (λ c. Passed c (before ++ along_blocks c) now bits stats) → IfSome here (λ c. Lists c (links_of c) now bound marks later (Ok u))
    → IfSome told (λ c. Passing c most marks later (Ok (Some stats)))
links_right None here total bits marks stats before now later bound most u same long low even empty p t = tt
links_right (Some c) here total bits marks stats before now later bound most u same long low even empty p t =
    let there : IfSome (Some c) (λ c. Lists c (links_of c) now bound marks later (Ok u)) = subst (λ (o : Option (List ℕ)). IfSome o (λ c. Lists c (links_of c) now bound marks later (Ok u))) same t in
    (there.0 ∙ sym (found_all c total bits stats before now long low even empty p), p.numbers, handles_marked c marks (omega (arith, long, low)) there.1)

-- a content that is not whole atoms behind a table
odd_by : (c : List ℕ) (total : ℕ) → length c ≡ total → (total ≡ 0 → ⊥) → has_length c ≡ false → IsOdd c total
unfolding findings
odd_by [] total long some odd = absurd (some (sym long))
odd_by (b ∷ bs) total long some odd =
    ap (λ (t : Bool). cond t (of_content (b ∷ bs) (blocks (b ∷ bs))) (finding.BadLength (length (b ∷ bs)) ∷ [])) odd ∙ ap (λ (n : ℕ). finding.BadLength n ∷ []) long

and_no : (a b : Bool) → b ≡ false → (a && b) ≡ false
and_no true b is = is
and_no false b is = refl

pub odd_short : (told : Option (List ℕ)) (total : ℕ) → IfSome told (λ c. length c ≡ total) → (total ≡ 0 → ⊥) → total < 128 → IfSome told (λ c. IsOdd c total)
odd_short None total long some short = tt
odd_short (Some c) total long some short = odd_by c total long some (ap (λ (b : Bool). b && nat_eq (length c % 16) 0) (lt-leb 128 (length c) (omega (arith, long, short))))

pub odd_part : (told : Option (List ℕ)) (total : ℕ) → IfSome told (λ c. length c ≡ total) → (total ≡ 0 → ⊥) → (total % 16 ≡ 0 → ⊥) → IfSome told (λ c. IsOdd c total)
odd_part None total long some part = tt
odd_part (Some c) total long some part = odd_by c total long some (and_no (nat_le 128 (length c)) (nat_eq (length c % 16) 0) (ne_eqb (length c % 16) 0 (λ none. part (sym (ap (λ (n : ℕ). n % 16) long) ∙ none))))

pub odd_passed : (told : Option (List ℕ)) (bytes total : ℕ) (bits : Marks) (now : List Finding) (bound : Option ℕ) (r : Result (Option Stats) VerifyFault) → bytes ≡ total → IfSome told (λ c. IsOdd c total) → ((c : List ℕ) (bits : Marks) → IsOdd c bytes → Passing c bound bits now r) → IfSome told (λ c. Passing c bound bits now r)
odd_passed None bytes total bits now bound r same odd p = tt
odd_passed (Some c) bytes total bits now bound r same odd p = p c bits (subst (λ (n : ℕ). IsOdd c n) (sym same) odd)

-- a content without bytes
pub none_told : (told : Option (List ℕ)) (total : ℕ) (bits : Marks) (now : List Finding) (bound : Option ℕ) (stats : Stats) → IfSome told (λ c. length c ≡ total) → total ≡ 0 → ((q : ℕ) → is_set bits q ≡ false) → now ≡ [] → stats ≡ record { atoms = 0; used = 0; relocated = 0; free = 0 }
    → IfSome told (λ c. Passing c bound bits now (Ok (Some stats)))
unfolding findings heap_in blocks_in
none_told None total bits now bound stats long none clear empty zeros = tt
none_told (Some []) total bits now bound stats long none clear empty zeros = (empty, zeros, λ clean q. clear q)
none_told (Some (b ∷ bs)) total bits now bound stats long none clear empty zeros = absurd (omega (arith, long, none))

-- what the passes did, as an answer
pub answer_none : (c : List ℕ) (bits : Marks) (now : List Finding) (bound : Option ℕ) (stats : Stats) (count : ℕ) → count ≡ length now → count ≡ 0 → Passing c bound bits now (Ok (Some stats)) → IsSoundSeen c bits now stats
answer_none c bits now bound stats count is zero_count p =
    let none : now ≡ [] = empty now (sym is ∙ zero_count) in
    record { none = sym p.0 ∙ none; told = none; numbers = p.1; handles = p.2 (sym p.0 ∙ none) }
  where
    empty : (fs : List Finding) → length fs ≡ 0 → fs ≡ []
    empty [] is = refl
    empty (f ∷ fs) is = absurd (omega (arith, is))

pub answer_told : (told : Option (List ℕ)) (bits : Marks) (now : List Finding) (bound most : Option ℕ) (numbers : Option Stats) (r : Result Stats VerifyFault) → bound ≡ most → ((c : List ℕ) (bits : Marks) → Passing c bound bits now (Ok numbers) → Verifies c bound bits now r) → IfSome told (λ c. Passing c most bits now (Ok numbers)) → IfSome told (λ c. Verifies c most bits now r)
answer_told None bits now bound most numbers r is a p = tt
answer_told (Some c) bits now bound most numbers r is a p =
    subst (λ (o : Option ℕ). Verifies c o bits now r) is (a c bits (subst (λ (o : Option ℕ). Passing c o bits now (Ok numbers)) (sym is) p))
