-- A database that is made: at each moment it is a new one.
use Rattle.std.proofs.Common.{◌≡◌, ℕ, ◌≤◌, inl, inr, Bool, true, false, ◌&&◌, ◌||◌, not, List, ◌++◌, length, take, drop, get_or, Option, Some, None, option_map, refl, sym, ap, subst, ◌∙◌, arith, append-nil}
use Rattle.std.specs.Prelude.{IfSome, bytes_eq, nat_eq, nat_lt, nat_le, if◌then◌else◌}
use Rattle.std.proofs.lemmas.Bool.{cases_Bool, cases_lt}
use Rattle.std.proofs.lemmas.Bool.Decides.{Decides-eqb, nat_tests}
use Rattle.std.proofs.lemmas.List.{drop_all, take_all}
use Rattle.std.proofs.lemmas.Slice.Eq.{bytes_eq-Decides}
use Rattle.ql_edge.specs.Disk.{Files, file_of, with_piece, Torn, OnFile}
use Rattle.ql_edge.specs.Stops.{Leaves, After}
use Rattle.ql_edge.specs.declared.volume.Which.TheVariants as which
use Rattle.lldb_wal.specs.Fields.{header, longest}
use Rattle.lldb_wal.specs.Kept.{kept, IsShut, Beside, IsDurable, IsAtRest, with_log}
use Rattle.lldb_wal.specs.Laws.{IsOurs}
use Rattle.lldb_wal.specs.Log.{log_magic}
use Rattle.lldb_wal.specs.Opened.{IsClosedLog, IsTidied, IsCreated, IsSameData, IsUnmade, IsSameKept, created, with_data}
use Rattle.lldb_wal.specs.Opening.{opening, opened, beside, is_fresh}
use Rattle.lldb_wal.specs.Spelling.{log_header}
use Rattle.lldb_wal.specs.States.{log_state}
use Rattle.lldb_wal.specs.declared.state.Opening.{Opening}
use Rattle.lldb_wal.specs.declared.state.Opening.TheVariants.{New, NotDatabase}
use Rattle.lldb_wal.proofs.Found.{new_found}
use Rattle.lldb_wal.proofs.Settled.{kept_closed}

-- steps of the log leave the data file
pub data_self : (before : Option Files) (leave : Files → Type 0) (c : Files) → IsDurable before leave → leave c → Beside before IsSameData c
data_self None leave c durable left = tt
data_self (Some f) leave c durable left = ap (λ (d : Files). d.0) (durable c left)

pub data_log : (R : List ℕ → List ℕ → Type 0) (before : Option Files) (leave : Files → Type 0) (c : Files) → Leaves leave (Beside before IsSameData) → After (OnFile which.Log R) leave c → Beside before IsSameData c
data_log R None leave c stops after = tt
data_log R (Some f) leave c stops after = after.2.other ∙ stops after.0 after.1

pub data_stable : (g : List ℕ → List ℕ) (before now : Option Files) (next : Files → Type 0) → now ≡ option_map (λ f. (f.0, g f.1)) before → Leaves next (Beside before IsSameData)
    → IfSome now (λ f. Leaves next (λ c. file_of which.Log c ≡ file_of which.Log f)) → IsDurable now next
data_stable g None now next is stops durable = rw is tt
data_stable g (Some f) now next is stops durable =
    let logs : IfSome (Some (f.0, g f.1)) (λ (h : Files). Leaves next (λ d. d.1 ≡ h.1)) = subst (λ (o : Option Files). IfSome o (λ h. Leaves next (λ d. d.1 ≡ h.1))) is durable in
    rw is (λ c left. pair c (f.0, g f.1) (stops c left) (logs c left))
  where
    pair : (c d : Files) → c.0 ≡ d.0 → c.1 ≡ d.1 → c ≡ d
    pair c d p q = λ i. (p i, q i)

-- a log that is fresh is closed
pub fresh_closed : (l : List ℕ) → is_fresh l ≡ true → IsClosedLog l
fresh_closed l fresh = elim (cases_lt (length l) 32) [
  | inl short ↦ inl short
  | inr long ↦ inr (
      let t = tests (nat_le header (length l)) (bytes_eq (take 15 l) log_magic) (nat_lt (length l) 32) (nat_eq (get_or l 15 0) 1) (not_less (length l) 32 long) fresh in
      record { magic = (bytes_eq-Decides (take 15 l) log_magic).0 t.0; gate = λ one. not_both (nat_eq (get_or l 15 0) 1) ((Decides-eqb (get_or l 15 0) 1).1 one) t.1 }
      )
]
  where
    not_less : (n most : ℕ) → most ≤ n → nat_lt n most ≡ false
    not_less n most long = grind (arith, nat_tests, long)

    not_both : (b : Bool) → b ≡ true → b ≡ false → ⊥
    not_both b one other = cc

    tests : (a m s g : Bool) → s ≡ false → (a && m && (s || not g)) ≡ true → (m ≡ true) × (g ≡ false)
    tests true true false false few e = (refl, refl)
    tests true true false true few e = absurd (cc)
    tests a true true g few e = absurd (cc)
    tests true false s g few e = absurd (cc)
    tests false m s g few e = absurd (cc)

abbrev chain : (z a n : Bool) → Opening → Opening
chain z a n s = if z then New else (if a then s else (if n then New else NotDatabase))

chain_fresh : (z n : Bool) (s : Opening) → n ≡ true → chain z false n s ≡ New
chain_fresh true n s e = refl
chain_fresh false n s e = rw e refl

chain_none : (z a n : Bool) (s : Opening) → z ≡ true → chain z a n s ≡ New
chain_none z a n s e = rw e refl

both : (a b : Bool) → a ≡ true → b ≡ true → (a && b) ≡ true
both a b one other = rw (one, other) refl

-- a short data file beside a fresh log is a new database
pub unmade_created : (magic : List ℕ) (c : Files) → length magic ≡ 16 → length c.0 ≤ 16 → is_fresh c.1 ≡ true → kept magic c ≡ Some magic
unmade_created magic c sixteen short fresh = elim (cases_Bool (bytes_eq (take header c.0) magic && nat_le (length c.0) longest)) [
  | inl ours ↦ (
      let begins : take header c.0 ≡ magic = (bytes_eq-Decides (take header c.0) magic).0 (first (bytes_eq (take header c.0) magic) (nat_le (length c.0) longest) ours) in
      let whole : c.0 ≡ magic = sym (take_all 16 c.0 short) ∙ begins in
      kept_closed magic c (record { begins = begins; long = omega (arith, ap length whole, sixteen); within = omega (arith, short) }) (fresh_closed c.1 fresh) ∙ ap Some whole
      )
  | inr other ↦ (
      let fresh_short : (nat_le (length c.0) header && is_fresh c.1) ≡ true = both (nat_le (length c.0) header) (is_fresh c.1) (at_most (length c.0) 16 short) fresh in
      let new : opening magic c.0 c.1 ≡ New = rw other (chain_fresh (nat_eq (length c.0) 0) (nat_le (length c.0) header && is_fresh c.1) (beside (log_state (length c.0) c.1)) fresh_short) in
      ap (opened magic c.0) new
      )
]
  where
    first : (a b : Bool) → (a && b) ≡ true → a ≡ true
    first true b e = refl
    first false b e = absurd (cc)

    at_most : (n most : ℕ) → n ≤ most → nat_le n most ≡ true
    at_most n most within = grind (arith, nat_tests, within)

-- and so is one without bytes, whatever the log
pub empty_created : (magic : List ℕ) (c : Files) → length c.0 ≡ 0 → kept magic c ≡ Some magic
empty_created magic c none =
    let new : opening magic c.0 c.1 ≡ New = chain_none (nat_eq (length c.0) 0) (bytes_eq (take header c.0) magic && nat_le (length c.0) longest) (nat_le (length c.0) header && is_fresh c.1) (beside (log_state (length c.0) c.1)) ((Decides-eqb (length c.0) 0).1 none) in
    ap (opened magic c.0) new

-- a torn write of the magic
pub magic_torn : (magic : List ℕ) (before : Option Files) (leave : Files → Type 0) (c : Files) → length magic ≡ 16 → IfSome before IsUnmade → IsDurable before leave → After (OnFile which.Data (Torn 0 (length magic))) leave c
    → Beside before (IsCreated magic) c
magic_torn magic None leave c sixteen unmade durable after = tt
magic_torn magic (Some f) leave c sixteen unmade durable after =
    let was : after.0 ≡ f = durable after.0 after.1 in
    let torn : Torn 0 (length magic) f.0 c.0 = subst (λ (d : Files). Torn 0 (length magic) d.0 c.0) was after.2.stepped in
    let log : c.1 ≡ f.1 = after.2.other ∙ ap (λ (d : Files). d.1) was in
    unmade_created magic c sixteen (omega (arith, torn.no_longer, unmade.0, sixteen)) (ap is_fresh log ∙ unmade.1)

magic_put : (magic bytes : List ℕ) → length magic ≡ 16 → length bytes ≤ 16 → magic ++ drop (length magic) bytes ≡ magic
magic_put magic bytes sixteen short = ap (λ (xs : List ℕ). magic ++ xs) (drop_all (length magic) bytes (omega (arith, short, sixteen))) ∙ append-nil magic

pub magic_written : (magic : List ℕ) (before now : Option Files) → length magic ≡ 16 → IfSome before IsUnmade → now ≡ option_map (with_piece which.Data 0 magic) before → now ≡ option_map (with_data magic) before
magic_written magic None now sixteen unmade is = is
magic_written magic (Some f) now sixteen unmade is =
    is ∙ ap (λ (n : ℕ). Some (magic ++ drop n f.0, f.1)) (omega arith) ∙ ap (λ (xs : List ℕ). Some (xs, f.1)) (magic_put magic f.0 sixteen unmade.0)

pub magic_stable : (magic : List ℕ) (before now : Option Files) (leave next : Files → Type 0) → IsDurable before leave → now ≡ option_map (with_data magic) before → IfSome now (λ f. Leaves next (λ c. file_of which.Data c ≡ file_of which.Data f))
    → Leaves next (After (OnFile which.Data (Torn 0 (length magic))) leave) → IsDurable now next
magic_stable magic None now leave next durable is stable stops = rw is tt
magic_stable magic (Some f) now leave next durable is stable stops =
    let bytes : IfSome (Some (with_data magic f)) (λ (h : Files). Leaves next (λ d. d.0 ≡ h.0)) = subst (λ (o : Option Files). IfSome o (λ h. Leaves next (λ d. d.0 ≡ h.0))) is stable in
    rw is (λ c left. let after = stops c left in pair c (with_data magic f) (bytes c left) (after.2.other ∙ ap (λ (d : Files). d.1) (durable after.0 after.1)))
  where
    pair : (c d : Files) → c.0 ≡ d.0 → c.1 ≡ d.1 → c ≡ d
    pair c d p q = λ i. (p i, q i)

-- of a data file without bytes
pub log_created : (magic : List ℕ) (before : Option Files) (c : Files) → IfSome before (λ f. length f.0 ≡ 0) → Beside before IsSameData c → Beside before (IsCreated magic) c
log_created magic None c empty same = tt
log_created magic (Some f) c empty same = empty_created magic c (ap length same ∙ empty)

pub made_unmade : (before mid : Option Files) → IfSome before (λ f. length f.0 ≡ 0) → mid ≡ option_map (with_log (log_header 0)) before → IfSome mid IsUnmade
made_unmade None mid empty is = rw is tt
made_unmade (Some f) mid empty is = rw is (omega (arith, empty), refl)

pub created_before : (g : Files → Files) (magic : List ℕ) (before mid : Option Files) (c : Files) → mid ≡ option_map g before → Beside mid (IsCreated magic) c → Beside before (IsCreated magic) c
created_before g magic None mid c is new = tt
created_before g magic (Some f) mid c is new = let same : IsCreated magic (g f) c = subst (λ (o : Option Files). Beside o (IsCreated magic) c) is new in same

pub empty_made : (magic : List ℕ) (before mid now : Option Files) → mid ≡ option_map (with_log (log_header 0)) before → now ≡ option_map (with_data magic) mid → now ≡ option_map (created magic) before
empty_made magic None mid now first second = second ∙ ap (option_map (with_data magic)) first
empty_made magic (Some f) mid now first second = second ∙ ap (option_map (with_data magic)) first

pub created_rest : (magic : List ℕ) (before now : Option Files) (leave : Files → Type 0) → now ≡ option_map (created magic) before → IsDurable now leave → IsAtRest now leave
created_rest magic None now leave is durable = rw is tt
created_rest magic (Some f) now leave is durable =
    let only : Leaves leave (λ c. c ≡ (magic, log_header 0)) = subst (λ (o : Option Files). IsDurable o leave) is durable in
    rw is (refl, λ c left. (ap (λ (d : Files). d.0) (only c left), subst (λ (d : Files). IsShut d.1) (sym (only c left)) (record { magic = refl; gate = λ one. absurd (cc) })))

-- of what was left of one
pub written_closed : (magic : List ℕ) (before mid : Option Files) → IfSome before IsUnmade → mid ≡ option_map (with_data magic) before → IfSome mid (λ f. IsClosedLog f.1)
written_closed magic None mid unmade is = rw is tt
written_closed magic (Some f) mid unmade is = rw is (fresh_closed f.1 unmade.1)

pub tidied_created : (magic : List ℕ) (before mid : Option Files) (c : Files) → length magic ≡ 16 → mid ≡ option_map (with_data magic) before → Beside mid IsTidied c → Beside before (IsCreated magic) c
tidied_created magic None mid c sixteen is tidied = tt
tidied_created magic (Some f) mid c sixteen is tidied =
    let t : IsTidied (with_data magic f) c = subst (λ (o : Option Files). Beside o IsTidied c) is tidied in
    let ours : IsOurs magic magic = record { begins = take_all 16 magic (omega (arith, sixteen)); long = omega (arith, sixteen); within = omega (arith, sixteen) } in
    kept_closed magic c (subst (λ (bs : List ℕ). IsOurs magic bs) (sym t.0) ours) t.1 ∙ ap Some t.0

pub completed_made : (magic : List ℕ) (before mid now : Option Files) → mid ≡ option_map (with_data magic) before → now ≡ option_map (with_log (log_header 0)) mid → now ≡ option_map (created magic) before
completed_made magic None mid now first second = second ∙ ap (option_map (with_log (log_header 0))) first
completed_made magic (Some f) mid now first second = second ∙ ap (option_map (with_log (log_header 0))) first

pub found_empty : (size : ℕ) (files : Option Files) → IfSome files (λ f. size ≡ length f.0) → size ≡ 0 → IfSome files (λ f. length f.0 ≡ 0)
found_empty size None is none = tt
found_empty size (Some f) is none = sym is ∙ none

pub found_unmade : (magic : List ℕ) (size : ℕ) (files : Option Files) → IfSome files (λ f. size ≡ length f.0) → IfSome files (λ f. opening magic f.0 f.1 ≡ New) → (size ≡ 0 → ⊥) → IfSome files IsUnmade
found_unmade magic size None is found some = tt
found_unmade magic size (Some f) is found some = elim (new_found magic f found) [
  | inl none ↦ absurd (some (is ∙ none))
  | inr unmade ↦ unmade
]

pub new_same : (magic : List ℕ) (before : Option Files) (c : Files) → IfSome before (λ f. opening magic f.0 f.1 ≡ New) → Beside before (IsCreated magic) c → Beside before (IsSameKept magic) c
new_same magic None c found new = tt
new_same magic (Some f) c found new = new ∙ sym (ap (opened magic f.0) found)

pub new_created : (magic : List ℕ) (before : Option Files) (leave : Files → Type 0) (c : Files) → IfSome before (λ f. opening magic f.0 f.1 ≡ New) → IsDurable before leave → leave c → Beside before (IsCreated magic) c
new_created magic None leave c found durable left = tt
new_created magic (Some f) leave c found durable left = ap (kept magic) (durable c left) ∙ ap (opened magic f.0) found

pub same_created : (magic : List ℕ) (old now : Option Files) (c : Files) → now ≡ old → Beside now (IsCreated magic) c → Beside old (IsCreated magic) c
same_created magic old now c same new = subst (λ (o : Option Files). Beside o (IsCreated magic) c) same new
