-- A closed log that becomes its header.
use Rattle.std.proofs.Common.{◌≡◌, ℕ, ◌<◌, ◌≤◌, inl, inr, List, ◌++◌, length, take, drop, Option, Some, None, option_map, refl, sym, ap, subst, ◌∙◌, arith, length-take}
use Rattle.std.specs.Prelude.{IfSome}
use Rattle.std.proofs.lemmas.List.{drop_all, take_all}
use Rattle.ql_edge.specs.Disk.{Files, file_of, with_piece, with_cut, Torn, Cut, OnFile}
use Rattle.ql_edge.specs.Stops.{Leaves, After}
use Rattle.ql_edge.specs.declared.volume.Which.TheVariants as which
use Rattle.lldb_wal.specs.Spelling.{log_header}
use Rattle.lldb_wal.specs.Kept.{IsShut, Beside, IsDurable, IsAtRest, with_log}
use Rattle.lldb_wal.specs.Opened.{IsClosedLog, IsTidied}
use Rattle.lldb_wal.proofs.Logged.{shut_front}

pub tidy_self : (before : Option Files) (leave : Files → Type 0) (c : Files) → IfSome before (λ f. IsClosedLog f.1) → IsDurable before leave → leave c → Beside before IsTidied c
tidy_self None leave c closed durable left = tt
tidy_self (Some f) leave c closed durable left =
    let same : c ≡ f = durable c left in
    (ap (λ (d : Files). d.0) same, subst (λ (d : Files). IsClosedLog d.1) (sym same) closed)

-- a cut of a long log that a stop tears
pub tidy_cut : (before : Option Files) (leave : Files → Type 0) (c : Files) → IfSome before (λ f. IsClosedLog f.1) → IfSome before (λ f. 32 ≤ length f.1) → IsDurable before leave → After (OnFile which.Log (Cut 16)) leave c → Beside before IsTidied c
tidy_cut None leave c closed long durable after = tt
tidy_cut (Some f) leave c closed long durable after =
    let was : after.0 ≡ f = durable after.0 after.1 in
    let cut : Cut 16 f.1 c.1 = subst (λ (d : Files). Cut 16 d.1 c.1) was after.2.stepped in
    let shut : IsShut f.1 = elim closed [ inl short ↦ absurd (omega (arith, short, long)) | inr still ↦ still ] in
    (after.2.other ∙ ap (λ (d : Files). d.0) was, inr (shut_front f.1 c.1 cut.before shut))

-- a write of the header to a short one
pub tidy_write : (before : Option Files) (leave : Files → Type 0) (c : Files) → IfSome before (λ f. length f.1 < 32) → IsDurable before leave → After (OnFile which.Log (Torn 0 16)) leave c → Beside before IsTidied c
tidy_write None leave c short durable after = tt
tidy_write (Some f) leave c short durable after =
    let was : after.0 ≡ f = durable after.0 after.1 in
    let torn : Torn 0 16 f.1 c.1 = subst (λ (d : Files). Torn 0 16 d.1 c.1) was after.2.stepped in
    (after.2.other ∙ ap (λ (d : Files). d.0) was, inl (omega (arith, short, torn.no_longer)))

-- once the log is stable, nothing else is left
pub tidy_stable : (g : List ℕ → List ℕ) (before now : Option Files) (next : Files → Type 0) → now ≡ option_map (λ f. (f.0, g f.1)) before → Leaves next (Beside before IsTidied)
    → IfSome now (λ f. Leaves next (λ c. file_of which.Log c ≡ file_of which.Log f)) → IsDurable now next
tidy_stable g None now next is stops durable = rw is tt
tidy_stable g (Some f) now next is stops durable =
    let logs : IfSome (Some (f.0, g f.1)) (λ (h : Files). Leaves next (λ d. d.1 ≡ h.1)) = subst (λ (o : Option Files). IfSome o (λ h. Leaves next (λ d. d.1 ≡ h.1))) is durable in
    rw is (λ c left. pair c (f.0, g f.1) (stops c left).0 (logs c left))
  where
    pair : (c d : Files) → c.0 ≡ d.0 → c.1 ≡ d.1 → c ≡ d
    pair c d p q = λ i. (p i, q i)

pub tidy_over : (g : List ℕ → List ℕ) (before mid : Option Files) (c : Files) → mid ≡ option_map (λ f. (f.0, g f.1)) before → Beside mid IsTidied c → Beside before IsTidied c
tidy_over g None mid c is tidied = tt
tidy_over g (Some f) mid c is tidied = let same : IsTidied (f.0, g f.1) c = subst (λ (o : Option Files). Beside o IsTidied c) is tidied in same

pub short_cut : (before mid : Option Files) → mid ≡ option_map (with_cut which.Log 16) before → IfSome mid (λ f. length f.1 < 32)
short_cut None mid is = rw is tt
short_cut (Some f) mid is = rw is (let n = length-take 16 f.1 in omega (arith, n))

pub long_within : (before : Option Files) → IfSome before (λ f. 32 ≤ length f.1) → IfSome before (λ f. 16 ≤ length f.1)
long_within None long = tt
long_within (Some f) long = omega (arith, long)

pub tidied_long : (before mid now : Option Files) → mid ≡ option_map (with_cut which.Log 16) before → now ≡ option_map (with_piece which.Log 0 (log_header 0)) mid → now ≡ option_map (with_log (log_header 0)) before
tidied_long None mid now first second = second ∙ ap (option_map (with_piece which.Log 0 (log_header 0))) first
tidied_long (Some f) mid now first second =
    second ∙ ap (option_map (with_piece which.Log 0 (log_header 0))) first
    ∙ ap (λ (xs : List ℕ). Some (f.0, log_header 0 ++ xs)) (drop_all 16 (take 16 f.1) (let n = length-take 16 f.1 in omega (arith, n)))

pub tidied_named : (before mid : Option Files) → IfSome before (λ f. take 16 f.1 ≡ log_header 0) → mid ≡ option_map (with_cut which.Log 16) before → mid ≡ option_map (with_log (log_header 0)) before
tidied_named None mid named is = is
tidied_named (Some f) mid named is = is ∙ ap (λ (xs : List ℕ). Some (f.0, xs)) named

pub header_shut : IsShut (log_header 0)
header_shut = record { magic = refl; gate = λ one. absurd (cc) }

pub durable_rest : (before now : Option Files) (leave : Files → Type 0) → now ≡ option_map (with_log (log_header 0)) before → IsDurable now leave → IsAtRest now leave
durable_rest None now leave is durable = rw is tt
durable_rest (Some f) now leave is durable =
    let only : Leaves leave (λ c. c ≡ (f.0, log_header 0)) = subst (λ (o : Option Files). IsDurable o leave) is durable in
    rw is (refl, λ c left. (ap (λ (d : Files). d.0) (only c left), subst (λ (d : Files). IsShut d.1) (sym (only c left)) header_shut))

-- the cut behind the header of a short log
pub header_cut : (before mid : Option Files) (leave : Files → Type 0) (c : Files) → mid ≡ option_map (with_piece which.Log 0 (log_header 0)) before → IsDurable mid leave → After (OnFile which.Log (Cut 16)) leave c → Beside before (λ f c. (c.0 ≡ f.0) × IsShut c.1) c
header_cut None mid leave c is durable after = tt
header_cut (Some f) mid leave c is durable after =
    let only : IsDurable (option_map (with_piece which.Log 0 (log_header 0)) (Some f)) leave = subst (λ (o : Option Files). IsDurable o leave) is durable in
    let was : after.0 ≡ with_piece which.Log 0 (log_header 0) f = only after.0 after.1 in
    let cut : Cut 16 (log_header 0 ++ drop 16 f.1) c.1 = subst (λ (d : Files). Cut 16 d.1 c.1) was after.2.stepped in
    (after.2.other ∙ ap (λ (d : Files). d.0) was, shut_front (log_header 0) c.1 cut.before header_shut)

pub shut_tidied : (before : Option Files) (c : Files) → Beside before (λ f c. (c.0 ≡ f.0) × IsShut c.1) c → Beside before IsTidied c
shut_tidied None c shut = tt
shut_tidied (Some f) c shut = (shut.0, inr shut.1)

pub header_within : (before mid : Option Files) → mid ≡ option_map (with_piece which.Log 0 (log_header 0)) before → IfSome mid (λ f. 16 ≤ length f.1)
header_within None mid is = rw is tt
header_within (Some f) mid is = rw is (omega arith)

pub tidied_short : (before mid now : Option Files) → mid ≡ option_map (with_piece which.Log 0 (log_header 0)) before → now ≡ option_map (with_cut which.Log 16) mid → now ≡ option_map (with_log (log_header 0)) before
tidied_short None mid now first second = second ∙ ap (option_map (with_cut which.Log 16)) first
tidied_short (Some f) mid now first second = second ∙ ap (option_map (with_cut which.Log 16)) first

pub of_length : (P Q : List ℕ → Type 0) (files : Option Files) → IfSome files (λ f. P f.1) → ((l : List ℕ) → P l → Q l) → IfSome files (λ f. Q f.1)
of_length P Q None fact more = tt
of_length P Q (Some f) fact more = more f.1 fact

-- a log that is its closed header already
pub header_self : (front : List ℕ) (size : ℕ) (files : Option Files) → IfSome files (λ f. length f.1 ≡ size) → IfSome files (λ f. front ≡ take 16 f.1) → size ≡ 16 → front ≡ log_header 0 → files ≡ option_map (with_log (log_header 0)) files
header_self front size None long is sixteen named = refl
header_self front size (Some f) long is sixteen named = ap (λ (xs : List ℕ). Some (f.0, xs)) (sym (take_all 16 f.1 (omega (arith, long, sixteen))) ∙ sym is ∙ named)

pub durable_after : (old now : Option Files) (leave next : Files → Type 0) → now ≡ old → Leaves next leave → IsDurable old leave → IsDurable now next
durable_after None now leave next same stops durable = rw same tt
durable_after (Some f) now leave next same stops durable = rw same (λ c left. durable c (stops c left))

pub tidy_before : (old now : Option Files) (c : Files) → now ≡ old → Beside now IsTidied c → Beside old IsTidied c
tidy_before old now c same tidied = subst (λ (o : Option Files). Beside o IsTidied c) same tidied

pub rest_after : (old now : Option Files) (leave next : Files → Type 0) → now ≡ old → Leaves next leave → IsAtRest old leave → IsAtRest now next
rest_after None now leave next same stops rest = rw same tt
rest_after (Some f) now leave next same stops rest = rw same (rest.0, λ c left. rest.1 c (stops c left))
