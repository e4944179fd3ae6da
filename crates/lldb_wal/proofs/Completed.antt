-- A data file that a batch completes, while its pieces are written and the file is cut.
use Rattle.std.proofs.Common.{◌≡◌, ℕ, ◌+◌, ◌-◌, ◌<◌, ◌≤◌, ◌⊎◌, inl, inr, max, Bool, true, false, List, [], ◌∷◌, length, take, drop, get_or, Option, Some, None, refl, sym, ap, ◌∙◌, arith, length-take}
use Rattle.std.specs.Option.{unwrap_or}
use Rattle.std.proofs.lemmas.Bool.{cases_lt}
use Rattle.std.proofs.lemmas.Bool.Decides.{nat_tests}
use Rattle.std.proofs.lemmas.List.{get_or-take, get_or-drop, ext_get_or}
use Rattle.ql_edge.specs.Disk.{Torn, Cut}
use Rattle.lldb_base.specs.declared.batch.Piece.{Piece}
use Rattle.lldb_base.specs.Batch.{Edits, IsBatch, CanTake, LeaveNoGap, reach, applied, covers, byte_at}
use Rattle.lldb_base.proofs.ByBytes.{applied_at}
use Rattle.lldb_base.proofs.Puts.{length_applied}
use Rattle.lldb_wal.specs.Fields.{longest}
use Rattle.lldb_wal.specs.Kept.{Absorbs}
use Rattle.lldb_wal.proofs.Spells.{AreShort, are_short}

from_back : (n i : ℕ) (xs : List ℕ) → n ≤ i → get_or xs i 0 ≡ get_or (drop n xs) (i - n) 0
from_back n i xs behind = ap (λ k. get_or xs k 0) (omega (arith, behind)) ∙ sym (get_or-drop n xs (i - n) 0)

-- outside of a torn range each byte is as before
torn_same : (at n i : ℕ) (old new : List ℕ) → Torn at n old new → (i < at) ⊎ (at + n ≤ i) → get_or new i 0 ≡ get_or old i 0
torn_same at n i old new t (inl before) = sym (get_or-take at new i 0 before) ∙ ap (λ (xs : List ℕ). get_or xs i 0) t.before ∙ get_or-take at old i 0 before
torn_same at n i old new t (inr behind) = from_back (at + n) i new behind ∙ ap (λ (xs : List ℕ). get_or xs (i - (at + n)) 0) t.after ∙ sym (from_back (at + n) i old behind)

covered : (shift i : ℕ) (p : Piece) → shift + p.place ≤ i → i < shift + p.place + length p.bytes → covers shift i p ≡ true
covered shift i p from to = grind (arith, nat_tests, from, to)

not_both : (b : Bool) → b ≡ true → b ≡ false → ⊥
not_both b one other = cc

outside : (shift i : ℕ) (p : Piece) → covers shift i p ≡ false → (i < shift + p.place) ⊎ (shift + p.place + length p.bytes ≤ i)
outside shift i p not = elim (cases_lt i (shift + p.place)) [
  | inl before ↦ inl before
  | inr from ↦ elim (cases_lt i (shift + p.place + length p.bytes)) [
    | inl to ↦ absurd (not_both (covers shift i p) (covered shift i p from to) not)
    | inr behind ↦ inr behind
  ]
]

gapless_more : (shift m n : ℕ) (ps : List Piece) → m ≤ n → LeaveNoGap 16 shift m ps → LeaveNoGap 16 shift n ps
gapless_more shift m n [] more gapless = tt
gapless_more shift m n (p ∷ ps) more gapless =
    (gapless.0, omega (arith, more, gapless.1), gapless_more shift (max m (shift + p.place + length p.bytes)) (max n (shift + p.place + length p.bytes)) ps (omega (arith, more)) gapless.2)

reach_more : (shift m n : ℕ) (ps : List Piece) → m ≤ n → reach shift m ps ≤ reach shift n ps
reach_more shift m n [] more = more
reach_more shift m n (p ∷ ps) more = reach_more shift (max m (shift + p.place + length p.bytes)) (max n (shift + p.place + length p.bytes)) ps (omega (arith, more))

reach_least : (shift n : ℕ) (ps : List Piece) → n ≤ reach shift n ps
reach_least shift n [] = omega arith
reach_least shift n (p ∷ ps) = let rest = reach_least shift (max n (shift + p.place + length p.bytes)) ps in omega (arith, rest)

-- a batch that can be written to bytes can be written to more
takes_more : (shift m n : ℕ) (batch : Edits) → m ≤ n → CanTake 16 shift m batch → CanTake 16 shift n batch
takes_more shift m n batch more can = record {
  gapless = gapless_more shift m n batch.pieces more can.gapless;
  floor_of_size = can.floor_of_size;
  covered = omega (arith, can.covered, reach_more shift m n batch.pieces more);
}

gapless_within : (shift m n most : ℕ) (ps : List Piece) → AreShort most ps → shift + most ≤ n → LeaveNoGap 16 shift m ps → LeaveNoGap 16 shift n ps
gapless_within shift m n most [] short within gapless = tt
gapless_within shift m n most (p ∷ ps) short within gapless =
    (gapless.0, omega (arith, within, short.0), gapless_within shift (max m (shift + p.place + length p.bytes)) (max n (shift + p.place + length p.bytes)) most ps short.3 (omega (arith, within)) gapless.2)

-- and to as many as it leaves
takes_covered : (shift m n : ℕ) (batch : Edits) → IsBatch batch → shift + batch.size ≤ n → CanTake 16 shift m batch → CanTake 16 shift n batch
takes_covered shift m n batch made within can = record {
  gapless = gapless_within shift m n batch.size batch.pieces (are_short 0 batch.size batch.pieces made.rising made.within) within can.gapless;
  floor_of_size = can.floor_of_size;
  covered = omega (arith, within, reach_least shift n batch.pieces);
}

pub absorbs_self : (shift : ℕ) (batch : Edits) (bytes : List ℕ) → CanTake 16 shift (length bytes) batch → 16 ≤ length bytes → length bytes ≤ longest → Absorbs shift batch bytes bytes
absorbs_self shift batch bytes can long within = record { same = λ i small none. refl; takes = can; long = long; within = within }

-- a torn write of one of the pieces is absorbed
pub absorbs_write : (shift : ℕ) (batch : Edits) (p : Piece) (old mid new : List ℕ) → shift + batch.size ≤ longest → ((i : ℕ) → byte_at shift i batch.pieces ≡ None → covers shift i p ≡ false)
    → p.place + length p.bytes ≤ batch.size → Absorbs shift batch old mid → Torn (shift + p.place) (length p.bytes) mid new → Absorbs shift batch old new
absorbs_write shift batch p old mid new end among short a t = record {
  same = λ i small none. torn_same (shift + p.place) (length p.bytes) i mid new t (outside shift i p (among i none)) ∙ a.same i small none;
  takes = takes_more shift (length mid) (length new) batch t.no_shorter a.takes;
  long = omega (arith, a.long, t.no_shorter);
  within = omega (arith, a.within, t.no_longer, end, short);
}

-- and so is a torn cut to the batch's length
pub absorbs_cut : (shift : ℕ) (batch : Edits) (old mid new : List ℕ) → IsBatch batch → Absorbs shift batch old mid → Cut (shift + batch.size) mid new → Absorbs shift batch old new
absorbs_cut shift batch old mid new made a t = record {
  same = λ i small none. sym (get_or-take (shift + batch.size) new i 0 small) ∙ ap (λ (xs : List ℕ). get_or xs i 0) t.before ∙ get_or-take (shift + batch.size) mid i 0 small ∙ a.same i small none;
  takes = elim (cases_lt (length mid) (shift + batch.size)) [
    | inl short ↦ takes_more shift (length mid) (length new) batch (omega (arith, short, t.no_shorter)) a.takes
    | inr long ↦ takes_covered shift (length mid) (length new) batch made (omega (arith, long, t.no_shorter)) a.takes
  ];
  long = omega (arith, a.long, t.no_shorter, a.takes.floor_of_size);
  within = omega (arith, a.within, t.no_longer);
}

either : (o : Option ℕ) (x y : ℕ) → (o ≡ None → x ≡ y) → unwrap_or o x ≡ unwrap_or o y
either None x y same = same refl
either (Some v) x y same = refl

-- what is absorbed is made the same by the batch
pub absorbed : (shift : ℕ) (batch : Edits) (old new : List ℕ) → IsBatch batch → CanTake 16 shift (length old) batch → Absorbs shift batch old new → applied shift batch new ≡ applied shift batch old
absorbed shift batch old new made can a =
    let before : length (applied shift batch old) ≡ shift + batch.size = length_applied 16 shift batch old can in
    let now : length (applied shift batch new) ≡ shift + batch.size = length_applied 16 shift batch new a.takes in
    ext_get_or 0 (applied shift batch new) (applied shift batch old) (now ∙ sym before) (λ i within.
    let small : i < shift + batch.size = omega (arith, within, now) in
    applied_at 16 shift batch new i made a.takes small
    ∙ either (byte_at shift i batch.pieces) (get_or new i 0) (get_or old i 0) (a.same i small)
    ∙ sym (applied_at 16 shift batch old i made can small))

same_bytes : (o : Option ℕ) (x : ℕ) → o ≡ None → unwrap_or o x ≡ x
same_bytes None x none = refl
same_bytes (Some v) x none = absurd (cc)

-- what the batch makes is absorbed, too
pub absorbs_applied : (shift : ℕ) (batch : Edits) (bytes : List ℕ) → IsBatch batch → CanTake 16 shift (length bytes) batch → shift + batch.size ≤ longest → Absorbs shift batch bytes (applied shift batch bytes)
absorbs_applied shift batch bytes made can end =
    let now : length (applied shift batch bytes) ≡ shift + batch.size = length_applied 16 shift batch bytes can in
    record {
      same = λ i small none. applied_at 16 shift batch bytes i made can small ∙ same_bytes (byte_at shift i batch.pieces) (get_or bytes i 0) none;
      takes = takes_covered shift (length bytes) (length (applied shift batch bytes)) batch made (omega (arith, now)) can;
      long = omega (arith, now, can.floor_of_size);
      within = omega (arith, now, end);
    }

front_free : (shift i m : ℕ) (ps : List Piece) → i < 16 → LeaveNoGap 16 shift m ps → byte_at shift i ps ≡ None
front_free shift i m [] small gapless = refl
front_free shift i m (p ∷ ps) small gapless =
    let not : covers shift i p ≡ false = grind (arith, nat_tests, small, gapless.0) in
    rw not (front_free shift i (max m (shift + p.place + length p.bytes)) ps small gapless.2)

-- what is absorbed has the same header
pub same_front : (shift : ℕ) (batch : Edits) (old new : List ℕ) → 16 ≤ length old → Absorbs shift batch old new → take 16 new ≡ take 16 old
same_front shift batch old new long a =
    let l : length (take 16 old) ≡ 16 = length-take 16 old ∙ omega (arith, long) in
    let m : length (take 16 new) ≡ 16 = length-take 16 new ∙ omega (arith, a.long) in
    ext_get_or 0 (take 16 new) (take 16 old) (m ∙ sym l) (λ i within.
    let small : i < 16 = omega (arith, within, m) in
    get_or-take 16 new i 0 small
    ∙ a.same i (omega (arith, small, a.takes.floor_of_size)) (front_free shift i (length new) batch.pieces small a.takes.gapless)
    ∙ sym (get_or-take 16 old i 0 small))
