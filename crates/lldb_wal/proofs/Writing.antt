-- The pieces of a batch that are written one by one, and the cut behind them.
use Rattle.std.proofs.Common.{◌≡◌, ℕ, ◌+◌, ◌≤◌, Bool, true, false, List, [], ◌∷◌, length, Option, Some, None, option_map, refl, sym, ap, subst, ◌∙◌, arith, cond}
use Rattle.std.specs.Prelude.{IfSome}
use Rattle.ql_edge.specs.Disk.{Files, file_of, with_piece, with_cut, Torn, Cut, OnFile}
use Rattle.ql_edge.specs.Stops.{Leaves, After}
use Rattle.ql_edge.specs.declared.volume.Which.TheVariants as which
use Rattle.lldb_base.specs.declared.batch.Piece.{Piece}
use Rattle.lldb_base.specs.Batch.{Edits, IsBatch, CanTake, LeaveNoGap, covers, byte_at}
use Rattle.lldb_base.proofs.Puts.{length_put, length_written}
use Rattle.lldb_wal.specs.Fields.{longest}
use Rattle.lldb_wal.specs.Kept.{Absorbs, Beside, IsDurable, IsCompleted, with_pieces, with_batch}
use Rattle.lldb_wal.proofs.Spells.{AreShort, are_short}
use Rattle.lldb_wal.proofs.Completed.{absorbs_self, absorbs_write, absorbs_cut}

-- so many pieces are left to be written, and what a stop leaves is completed by the batch
pub record Writing (shift : ℕ) (batch : Edits) (start now : Option Files) (leave : Files → Type 0) (left : List Piece) : Type 0 where
  pub files : option_map (with_pieces shift left) now ≡ option_map (with_pieces shift batch.pieces) start
  pub gapless : IfSome now (λ f. LeaveNoGap 16 shift (length f.0) left)
  pub short : AreShort batch.size left
  pub among : (i : ℕ) → byte_at shift i batch.pieces ≡ None → byte_at shift i left ≡ None
  pub stops : Leaves leave (Beside start (IsCompleted shift batch))

durable_stops : (shift : ℕ) (batch : Edits) (start : Option Files) (leave : Files → Type 0) → IfSome start (λ f. CanTake 16 shift (length f.0) batch) → IfSome start (λ f. 16 ≤ length f.0)
    → IfSome start (λ f. length f.0 ≤ longest) → IsDurable start leave → Leaves leave (Beside start (IsCompleted shift batch))
durable_stops shift batch None leave can long within durable c left = tt
durable_stops shift batch (Some f) leave can long within durable c left =
    let same : c ≡ f = durable c left in
    (ap (λ (d : Files). d.1) same, subst (λ (d : Files). Absorbs shift batch f.0 d.0) (sym same) (absorbs_self shift batch f.0 can long within))

gapless_of : (shift : ℕ) (batch : Edits) (start : Option Files) → IfSome start (λ f. CanTake 16 shift (length f.0) batch) → IfSome start (λ f. LeaveNoGap 16 shift (length f.0) batch.pieces)
gapless_of shift batch None can = tt
gapless_of shift batch (Some f) can = can.gapless

pub none_written : (shift : ℕ) (batch : Edits) (ps : List Piece) (start : Option Files) (leave : Files → Type 0) → IsBatch batch → ps ≡ batch.pieces → IfSome start (λ f. CanTake 16 shift (length f.0) batch) → IfSome start (λ f. 16 ≤ length f.0)
    → IfSome start (λ f. length f.0 ≤ longest) → IsDurable start leave → Writing shift batch start start leave ps
none_written shift batch ps start leave made same can long within durable = rw same (record {
  files = refl;
  gapless = gapless_of shift batch start can;
  short = are_short 0 batch.size batch.pieces made.rising made.within;
  among = λ i none. none;
  stops = durable_stops shift batch start leave can long within durable;
})

first_covers : (shift i : ℕ) (p : Piece) (ps : List Piece) → byte_at shift i (p ∷ ps) ≡ None → covers shift i p ≡ false
first_covers shift i p ps none = by_test _ (covers shift i p) (byte_at shift i ps) none
  where
    by_test : (v : ℕ) (b : Bool) (o : Option ℕ) → cond b (Some v) o ≡ None → b ≡ false
    by_test v true o none = absurd (cc)
    by_test v false o none = refl

rest_covers : (shift i : ℕ) (p : Piece) (ps : List Piece) → byte_at shift i (p ∷ ps) ≡ None → byte_at shift i ps ≡ None
rest_covers shift i p ps none = by_test _ (covers shift i p) (byte_at shift i ps) none
  where
    by_test : (v : ℕ) (b : Bool) (o : Option ℕ) → cond b (Some v) o ≡ None → o ≡ None
    by_test v true o none = absurd (cc)
    by_test v false o none = none

-- a torn write of the next piece
pub next_torn : (shift : ℕ) (batch : Edits) (start now : Option Files) (leave : Files → Type 0) (left old : List Piece) (p : Piece) (bytes : List ℕ) (c : Files) → shift + batch.size ≤ longest
    → Writing shift batch start now leave old → old ≡ p ∷ left → bytes ≡ p.bytes → After (OnFile which.Data (Torn (shift + p.place) (length bytes))) leave c → Beside start (IsCompleted shift batch) c
next_torn shift batch None now leave left old p bytes c end w split same after = tt
next_torn shift batch (Some f) now leave left old p bytes c end w split same after =
    let was = w.stops after.0 after.1 in
    let short : AreShort batch.size (p ∷ left) = subst (λ (ps : List Piece). AreShort batch.size ps) split w.short in
    let among : (i : ℕ) → byte_at shift i batch.pieces ≡ None → covers shift i p ≡ false = λ i none. first_covers shift i p left (subst (λ (ps : List Piece). byte_at shift i ps ≡ None) split (w.among i none)) in
    let torn : Torn (shift + p.place) (length p.bytes) after.0.0 c.0 = subst (λ (bs : List ℕ). Torn (shift + p.place) (length bs) after.0.0 c.0) same after.2.stepped in
    (after.2.other ∙ was.0, absorbs_write shift batch p f.0 after.0.0 c.0 end among short.0 was.1 torn)

gapless_next : (shift : ℕ) (now : Option Files) (p : Piece) (left : List Piece) → IfSome now (λ f. LeaveNoGap 16 shift (length f.0) (p ∷ left)) → IfSome (option_map (with_piece which.Data (shift + p.place) p.bytes) now) (λ f. LeaveNoGap 16 shift (length f.0) left)
gapless_next shift None p left gapless = tt
gapless_next shift (Some f) p left gapless = rw (length_put (shift + p.place) p.bytes f.0 gapless.1) gapless.2

files_next : (shift : ℕ) (now : Option Files) (p : Piece) (left : List Piece) → option_map (with_pieces shift left) (option_map (with_piece which.Data (shift + p.place) p.bytes) now) ≡ option_map (with_pieces shift (p ∷ left)) now
files_next shift None p left = refl
files_next shift (Some f) p left = refl

pub next_written : (shift : ℕ) (batch : Edits) (start now next : Option Files) (leave after : Files → Type 0) (left old : List Piece) (p : Piece) (bytes : List ℕ) → shift + batch.size ≤ longest
    → Writing shift batch start now leave old → old ≡ p ∷ left → bytes ≡ p.bytes → next ≡ option_map (with_piece which.Data (shift + p.place) bytes) now
    → Leaves after (After (OnFile which.Data (Torn (shift + p.place) (length bytes))) leave) → Writing shift batch start next after left
next_written shift batch start now next leave after left old p bytes end w split same is stops =
    let now_is : next ≡ option_map (with_piece which.Data (shift + p.place) p.bytes) now = is ∙ ap (λ (bs : List ℕ). option_map (with_piece which.Data (shift + p.place) bs) now) same in
    record {
      files = ap (option_map (with_pieces shift left)) now_is ∙ files_next shift now p left ∙ ap (λ (ps : List Piece). option_map (with_pieces shift ps) now) (sym split) ∙ w.files;
      gapless = rw now_is (gapless_next shift now p left (subst (λ (ps : List Piece). IfSome now (λ f. LeaveNoGap 16 shift (length f.0) ps)) split w.gapless));
      short = (subst (λ (ps : List Piece). AreShort batch.size ps) split w.short).3;
      among = λ i none. rest_covers shift i p left (subst (λ (ps : List Piece). byte_at shift i ps ≡ None) split (w.among i none));
      stops = λ c left_. next_torn shift batch start now leave left old p bytes c end w split same (stops c left_);
    }

pub next_within : (shift : ℕ) (batch : Edits) (start now : Option Files) (leave : Files → Type 0) (left old : List Piece) (p : Piece) → Writing shift batch start now leave old → old ≡ p ∷ left → IfSome now (λ f. shift + p.place ≤ length f.0)
next_within shift batch start now leave left old p w split = first now (subst (λ (ps : List Piece). IfSome now (λ f. LeaveNoGap 16 shift (length f.0) ps)) split w.gapless)
  where
    first : (files : Option Files) → IfSome files (λ f. LeaveNoGap 16 shift (length f.0) (p ∷ left)) → IfSome files (λ f. shift + p.place ≤ length f.0)
    first None gapless = tt
    first (Some f) gapless = gapless.1

pub all_written : (shift : ℕ) (batch : Edits) (start now : Option Files) (leave : Files → Type 0) (left : List Piece) → Writing shift batch start now leave left → left ≡ [] → now ≡ option_map (with_pieces shift batch.pieces) start
all_written shift batch start now leave left w none = same now ∙ ap (λ (ps : List Piece). option_map (with_pieces shift ps) now) (sym none) ∙ w.files
  where
    same : (files : Option Files) → files ≡ option_map (with_pieces shift []) files
    same None = refl
    same (Some f) = refl

-- the cut behind the pieces
pub cut_within : (shift size : ℕ) (batch : Edits) (start now : Option Files) → size ≡ batch.size → IfSome start (λ f. CanTake 16 shift (length f.0) batch) → now ≡ option_map (with_pieces shift batch.pieces) start → IfSome now (λ f. shift + size ≤ length f.0)
cut_within shift size batch None now same can is = rw is tt
cut_within shift size batch (Some f) now same can is = rw (is, same) (let far = length_written 16 shift batch.pieces f.0 can.gapless in omega (arith, far, can.covered))

pub cut_torn : (shift size : ℕ) (batch : Edits) (start : Option Files) (leave : Files → Type 0) (c : Files) → size ≡ batch.size → IsBatch batch → Leaves leave (Beside start (IsCompleted shift batch)) → After (OnFile which.Data (Cut (shift + size))) leave c → Beside start (IsCompleted shift batch) c
cut_torn shift size batch None leave c same made stops after = tt
cut_torn shift size batch (Some f) leave c same made stops after =
    let was = stops after.0 after.1 in
    (after.2.other ∙ was.0, absorbs_cut shift batch f.0 after.0.0 c.0 made was.1 (subst (λ (n : ℕ). Cut (shift + n) after.0.0 c.0) same after.2.stepped))

pub batch_applied : (shift : ℕ) (batch : Edits) (start mid now : Option Files) → mid ≡ option_map (with_pieces shift batch.pieces) start → now ≡ option_map (with_cut which.Data (shift + batch.size)) mid → now ≡ option_map (with_batch shift batch) start
batch_applied shift batch None mid now first second = second ∙ ap (option_map (with_cut which.Data (shift + batch.size))) first
batch_applied shift batch (Some f) mid now first second = second ∙ ap (option_map (with_cut which.Data (shift + batch.size))) first

pub applied_stable : (shift : ℕ) (batch : Edits) (start now : Option Files) (leave : Files → Type 0) → now ≡ option_map (with_batch shift batch) start → Leaves leave (Beside start (IsCompleted shift batch))
    → IfSome now (λ f. Leaves leave (λ c. file_of which.Data c ≡ file_of which.Data f)) → IsDurable now leave
applied_stable shift batch None now leave is stops durable = rw is tt
applied_stable shift batch (Some f) now leave is stops durable =
    let bytes : IfSome (Some (with_batch shift batch f)) (λ g. Leaves leave (λ d. d.0 ≡ g.0)) = subst (λ (o : Option Files). IfSome o (λ g. Leaves leave (λ d. d.0 ≡ g.0))) is durable in
    rw is (λ c left. pair c (with_batch shift batch f) (bytes c left) (stops c left).0)
  where
    pair : (c d : Files) → c.0 ≡ d.0 → c.1 ≡ d.1 → c ≡ d
    pair c d p q = λ i. (p i, q i)

pub next_end : (shift : ℕ) (batch : Edits) (start now : Option Files) (leave : Files → Type 0) (left old : List Piece) (p : Piece) (bytes : List ℕ) → shift + batch.size ≤ longest → Writing shift batch start now leave old → old ≡ p ∷ left → bytes ≡ p.bytes → shift + p.place + length bytes ≤ longest
next_end shift batch start now leave left old p bytes end w split same =
    let short : AreShort batch.size (p ∷ left) = subst (λ (ps : List Piece). AreShort batch.size ps) split w.short in
    let l : length bytes ≡ length p.bytes = ap length same in
    omega (arith, short.0, end, l)
