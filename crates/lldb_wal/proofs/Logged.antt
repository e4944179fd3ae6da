-- A log whose header or rest is torn.
use Rattle.std.proofs.Common.{◌≡◌, ℕ, ◌+◌, ◌≤◌, ◌⊎◌, inl, inr, Bool, true, false, List, [], ◌∷◌, ◌++◌, length, take, drop, get_or, Option, Some, None, option_map, refl, sym, ap, subst, ◌∙◌, arith, append-nil}
use Rattle.std.specs.Prelude.{IfSome, nat_eq}
use Rattle.std.proofs.lemmas.Bool.{cases_Bool, cases_lt}
use Rattle.std.proofs.lemmas.Bool.Decides.{Decides-eqb}
use Rattle.std.proofs.lemmas.List.{take-take, take-append-drop, get_or-take, get_or_past, drop_more, drop_all}
use Rattle.ql_edge.specs.Disk.{Files, file_of, with_piece, with_cut, put, Torn, Cut, OnFile}
use Rattle.ql_edge.specs.Stops.{Leaves, After}
use Rattle.ql_edge.specs.declared.volume.Which.TheVariants as which
use Rattle.lldb_wal.specs.Log.{log_magic}
use Rattle.lldb_wal.specs.Spelling.{log_header}
use Rattle.lldb_wal.specs.Kept.{IsShut, Beside, IsDurable, IsAtRest, IsLogged, with_log}

-- what begins as a log that is shut is one
pub shut_front : (old new : List ℕ) → take 16 new ≡ take 16 old → IsShut old → IsShut new
shut_front old new front shut =
    let gate : get_or new 15 0 ≡ get_or old 15 0 = sym (get_or-take 16 new 15 0 (omega arith)) ∙ ap (λ (xs : List ℕ). get_or xs 15 0) front ∙ get_or-take 16 old 15 0 (omega arith) in
    record {
      magic = sym (take-take 15 16 new (omega arith)) ∙ ap (take 15) front ∙ take-take 15 16 old (omega arith) ∙ shut.magic;
      gate = λ one. shut.gate (sym gate ∙ one);
    }

long_of_gate : (log : List ℕ) → get_or log 15 0 ≡ 1 → 16 ≤ length log
long_of_gate log gate = elim (cases_lt 15 (length log)) [
  | inl long ↦ omega (arith, long)
  | inr short ↦ absurd (cc (get_or_past log 15 0 short))
]

-- a log is its magic, its gate and what stands behind
split_gate : (log : List ℕ) → 16 ≤ length log → log ≡ take 15 log ++ get_or log 15 0 ∷ drop 16 log
split_gate log long = sym (take-append-drop 15 log) ∙ ap (λ (xs : List ℕ). take 15 log ++ xs) (drop_more log 15 0 (omega (arith, long)))

-- a write of the gate that a stop tears leaves the log shut, or open with the same bytes behind
gate_torn : (old new : List ℕ) → Torn 15 1 old new → 16 ≤ length old → take 15 old ≡ log_magic → IsShut new ⊎ (new ≡ log_magic ++ 1 ∷ drop 16 old)
gate_torn old new t long magic = elim (cases_Bool (nat_eq (get_or new 15 0) 1)) [
  | inl one ↦ inr (split_gate new (omega (arith, long, t.no_shorter)) ∙ rw (t.before, magic, (Decides-eqb (get_or new 15 0) 1).0 one, t.after) refl)
  | inr other ↦ inl (record { magic = t.before ∙ magic; gate = λ same. not_both (nat_eq (get_or new 15 0) 1) ((Decides-eqb (get_or new 15 0) 1).1 same) other })
]
  where
    not_both : (b : Bool) → b ≡ true → b ≡ false → ⊥
    not_both b one other = cc

-- a batch behind the closed header
batch_put : (body : List ℕ) → put 16 body (log_header 0) ≡ log_header 0 ++ body
batch_put body = ap (λ (xs : List ℕ). log_header 0 ++ body ++ xs) (past (length body)) ∙ append-nil (log_header 0 ++ body)
  where
    past : (n : ℕ) → drop (16 + n) (log_header 0) ≡ []
    past n = drop_all (16 + n) (log_header 0) (omega arith)

-- while the batch is written the log stays shut
pub first_torn : (before : Option Files) (leave : Files → Type 0) (n : ℕ) (c : Files) → IsAtRest before leave → After (OnFile which.Log (Torn 16 n)) leave c → Beside before (λ f c. (c.0 ≡ f.0) × IsShut c.1) c
first_torn None leave n c rest after = tt
first_torn (Some f) leave n c rest after =
    let was = rest.1 after.0 after.1 in
    (after.2.other ∙ was.0, shut_front after.0.1 c.1 after.2.stepped.before was.1)

-- once the batch is stable, nothing else is left
pub first_stable : (before now : Option Files) (leave next : Files → Type 0) (body : List ℕ) → IsAtRest before leave → now ≡ option_map (with_piece which.Log 16 body) before
    → IfSome now (λ f. Leaves next (λ c. file_of which.Log c ≡ file_of which.Log f)) → Leaves next (After (OnFile which.Log (Torn 16 (length body))) leave)
    → IfSome before (λ f. Leaves next (λ c. c ≡ (f.0, log_header 0 ++ body)))
first_stable None now leave next body rest is durable stops = tt
first_stable (Some f) now leave next body rest is durable stops = λ c left.
    let log : c.1 ≡ put 16 body f.1 = (subst (λ (o : Option Files). IfSome o (λ g. Leaves next (λ d. d.1 ≡ g.1))) is durable) c left in
    let was = first_torn (Some f) leave (length body) c rest (stops c left) in
    pair c (f.0, log_header 0 ++ body) was.0 (log ∙ ap (put 16 body) rest.0 ∙ batch_put body)
  where
    pair : (c d : Files) → c.0 ≡ d.0 → c.1 ≡ d.1 → c ≡ d
    pair c d p q = λ i. (p i, q i)

-- while the gate is written the log is shut or open
pub gate_opens : (before : Option Files) (leave : Files → Type 0) (body : List ℕ) (c : Files) → IfSome before (λ f. Leaves leave (λ c. c ≡ (f.0, log_header 0 ++ body)))
    → After (OnFile which.Log (Torn 15 1)) leave c → Beside before (IsLogged (log_header 1 ++ body)) c
gate_opens None leave body c stable after = tt
gate_opens (Some f) leave body c stable after =
    let was : after.0 ≡ (f.0, log_header 0 ++ body) = stable after.0 after.1 in
    let torn : Torn 15 1 (log_header 0 ++ body) c.1 = subst (λ (d : Files). Torn 15 1 d.1 c.1) was after.2.stepped in
    (after.2.other ∙ ap (λ (d : Files). d.0) was, gate_torn (log_header 0 ++ body) c.1 torn (omega arith) refl)

pub batch_logged : (before first now : Option Files) (leave : Files → Type 0) (body : List ℕ) → IsAtRest before leave → first ≡ option_map (with_piece which.Log 16 body) before
    → now ≡ option_map (with_piece which.Log 15 (1 ∷ [])) first → now ≡ option_map (with_log (log_header 1 ++ body)) before
batch_logged None first now leave body rest is then_ = then_ ∙ ap (option_map (with_piece which.Log 15 (1 ∷ []))) is
batch_logged (Some f) first now leave body rest is then_ =
    then_ ∙ ap (option_map (with_piece which.Log 15 (1 ∷ []))) (is ∙ ap (λ (xs : List ℕ). Some (f.0, xs)) (ap (put 16 body) rest.0 ∙ batch_put body))

pub logged_stable : (before now : Option Files) (leave next : Files → Type 0) (body : List ℕ) → IfSome before (λ f. Leaves leave (λ c. c ≡ (f.0, log_header 0 ++ body))) → now ≡ option_map (with_log (log_header 1 ++ body)) before
    → IfSome now (λ f. Leaves next (λ c. file_of which.Log c ≡ file_of which.Log f)) → Leaves next (After (OnFile which.Log (Torn 15 1)) leave) → IsDurable now next
logged_stable None now leave next body stable is durable stops = rw is tt
logged_stable (Some f) now leave next body stable is durable stops =
    let logs : IfSome (Some (with_log (log_header 1 ++ body) f)) (λ g. Leaves next (λ d. d.1 ≡ g.1)) = subst (λ (o : Option Files). IfSome o (λ g. Leaves next (λ d. d.1 ≡ g.1))) is durable in
    rw is (λ c left. pair c (with_log (log_header 1 ++ body) f) (gate_opens (Some f) leave body c stable (stops c left)).0 (logs c left))
  where
    pair : (c d : Files) → c.0 ≡ d.0 → c.1 ≡ d.1 → c ≡ d
    pair c d p q = λ i. (p i, q i)

pub first_logged : (before : Option Files) (leave : Files → Type 0) (body : List ℕ) (c : Files) → IsAtRest before leave → After (OnFile which.Log (Torn 16 (length body))) leave c → Beside before (IsLogged (log_header 1 ++ body)) c
first_logged None leave body c rest after = tt
first_logged (Some f) leave body c rest after = let shut = first_torn (Some f) leave (length body) c rest after in (shut.0, inl shut.1)

-- the gate is closed again: while it is written the log is as it was, or shut
pub gate_closes : (before : Option Files) (leave : Files → Type 0) (c : Files) → IfSome before (λ f. take 15 f.1 ≡ log_magic) → IfSome before (λ f. get_or f.1 15 0 ≡ 1) → IsDurable before leave
    → After (OnFile which.Log (Torn 15 1)) leave c → Beside before (λ f c. IsLogged f.1 f c) c
gate_closes None leave c magic gate durable after = tt
gate_closes (Some f) leave c magic gate durable after =
    let was : after.0 ≡ f = durable after.0 after.1 in
    let torn : Torn 15 1 f.1 c.1 = subst (λ (d : Files). Torn 15 1 d.1 c.1) was after.2.stepped in
    let same : f.1 ≡ log_magic ++ 1 ∷ drop 16 f.1 = split_gate f.1 (long_of_gate f.1 gate) ∙ rw (magic, gate) refl in (
      after.2.other ∙ ap (λ (d : Files). d.0) was,
      elim (gate_torn f.1 c.1 torn (long_of_gate f.1 gate) magic) [
        | inl shut ↦ inl shut
        | inr still ↦ inr (still ∙ sym same)
      ],
    )

-- once it is stable, the log is shut
pub gate_shut : (before now : Option Files) (leave next : Files → Type 0) → IfSome before (λ f. take 15 f.1 ≡ log_magic) → IfSome before (λ f. get_or f.1 15 0 ≡ 1) → IsDurable before leave
    → now ≡ option_map (with_piece which.Log 15 (0 ∷ [])) before → IfSome now (λ f. Leaves next (λ c. file_of which.Log c ≡ file_of which.Log f)) → Leaves next (After (OnFile which.Log (Torn 15 1)) leave)
    → IfSome before (λ f. Leaves next (λ c. (c.0 ≡ f.0) × IsShut c.1))
gate_shut None now leave next magic gate durable is stable stops = tt
gate_shut (Some f) now leave next magic gate durable is stable stops = λ c left.
    let log : c.1 ≡ put 15 (0 ∷ []) f.1 = (subst (λ (o : Option Files). IfSome o (λ g. Leaves next (λ d. d.1 ≡ g.1))) is stable) c left in
    let shut : IsShut (put 15 (0 ∷ []) f.1) = rw magic (record { magic = refl; gate = λ one. absurd (cc) }) in
    ((gate_closes (Some f) leave c magic gate durable (stops c left)).0, subst (λ (xs : List ℕ). IsShut xs) (sym log) shut)

-- the cut behind the header leaves it shut
pub cut_shut : (before : Option Files) (leave : Files → Type 0) (c : Files) → IfSome before (λ f. Leaves leave (λ c. (c.0 ≡ f.0) × IsShut c.1)) → After (OnFile which.Log (Cut 16)) leave c → Beside before (λ f c. (c.0 ≡ f.0) × IsShut c.1) c
cut_shut None leave c shut after = tt
cut_shut (Some f) leave c shut after =
    let was = shut after.0 after.1 in
    (after.2.other ∙ was.0, shut_front after.0.1 c.1 after.2.stepped.before was.1)

pub shut_logged : (before : Option Files) (c : Files) → Beside before (λ f c. (c.0 ≡ f.0) × IsShut c.1) c → Beside before (λ f c. IsLogged f.1 f c) c
shut_logged None c shut = tt
shut_logged (Some f) c shut = (shut.0, inl shut.1)

pub long_log : (before now : Option Files) → IfSome before (λ f. take 15 f.1 ≡ log_magic) → IfSome before (λ f. get_or f.1 15 0 ≡ 1) → now ≡ option_map (with_piece which.Log 15 (0 ∷ [])) before → IfSome now (λ f. 16 ≤ length f.1)
long_log None now magic gate is = rw is tt
long_log (Some f) now magic gate is = rw (is, magic) (omega arith)

pub gate_within : (before : Option Files) → IfSome before (λ f. get_or f.1 15 0 ≡ 1) → IfSome before (λ f. 15 ≤ length f.1)
gate_within None gate = tt
gate_within (Some f) gate = let long = long_of_gate f.1 gate in omega (arith, long)

pub log_closed : (before mid now : Option Files) → IfSome before (λ f. take 15 f.1 ≡ log_magic) → mid ≡ option_map (with_piece which.Log 15 (0 ∷ [])) before → now ≡ option_map (with_cut which.Log 16) mid → now ≡ option_map (with_log (log_header 0)) before
log_closed None mid now magic is then_ = then_ ∙ ap (option_map (with_cut which.Log 16)) is
log_closed (Some f) mid now magic is then_ = then_ ∙ ap (option_map (with_cut which.Log 16)) is ∙ ap (λ (xs : List ℕ). Some (f.0, take 16 (xs ++ 0 ∷ [] ++ drop 16 f.1))) magic

pub closed_rest : (before now : Option Files) (leave : Files → Type 0) → now ≡ option_map (with_log (log_header 0)) before → IfSome before (λ f. Leaves leave (λ c. (c.0 ≡ f.0) × IsShut c.1)) → IsAtRest now leave
closed_rest None now leave is shut = rw is tt
closed_rest (Some f) now leave is shut = rw is (refl, shut)

pub shut_all : (before : Option Files) (leave : Files → Type 0) → Leaves leave (Beside before (λ f c. (c.0 ≡ f.0) × IsShut c.1)) → IfSome before (λ f. Leaves leave (λ c. (c.0 ≡ f.0) × IsShut c.1))
shut_all None leave stops = tt
shut_all (Some f) leave stops = stops
