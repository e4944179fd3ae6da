-- Bytes of entries, cut and put together.
use Rattle.std.proofs.Common.{◌≡◌, ℕ, zero, suc, ◌-◌, ◌/◌, ◌<◌, ◌≤◌, Bool, List, [], ◌∷◌, ◌++◌, length, take, drop, Option, IsSomeAnd, Bor, Result, Ok, Err, IsErrAnd, refl, sym, ap, ◌∙◌, arith, append_assoc, append-nil, length-append, w16}
use Rattle.std.specs.Int.{to_be_bytes}
use Rattle.std.specs.List.{AllByRecursion}
use Rattle.std.proofs.lemmas.List.{length-take-le, take-append-drop, take_at}
use Rattle.lldb_base.specs.Trouble.{IsCausedTrouble, Refuses}
use Rattle.lldb_base.specs.declared.trouble.Trouble.{Trouble}
use Rattle.lldb_base.specs.declared.trouble.Trouble.TheVariants as trouble
use Rattle.lldb_btree.specs.Nodes.{Entry, IsEntry, entry_bytes, body}
use Rattle.lldb_btree.specs.Reading.{mark}
use Rattle.lldb_btree.specs.Splicing.{AreNode, key_at_end}
use Rattle.lldb_btree.proofs.Splitting.{Whole, some_on}
use Rattle.lldb_btree.proofs.Standing.{all_left, all_right}

pub body_both : (xs ys : List Entry) → body (xs ++ ys) ≡ body xs ++ body ys
body_both [] ys = refl
body_both (x ∷ xs) ys = ap (λ (r : List ℕ). entry_bytes x ++ r) (body_both xs ys) ∙ sym (append_assoc (entry_bytes x) (body xs) (body ys))

pub entry_added : (old new key tail : List ℕ) → new ≡ ((old ++ to_be_bytes w16 (length key)) ++ key) ++ tail → new ≡ old ++ entry_bytes (record { key = key; tail = tail })
unfolding entry_bytes
entry_added old new key tail e = e ∙ append_assoc (old ++ to_be_bytes w16 (length key)) key tail ∙ append_assoc old (to_be_bytes w16 (length key)) (key ++ tail)

take_front : (xs ys : List ℕ) (n : ℕ) → length xs ≡ n → take n (xs ++ ys) ≡ xs
take_front xs ys n e = take_at xs ys n e

-- the bytes before so many last ones
pub front_taken : (bytes front back : List ℕ) (last many : ℕ) → bytes ≡ front ++ back → length back ≡ last → many ≡ length bytes - last → take many bytes ≡ front
front_taken bytes front back last many is len m =
    let n : length front ≡ many = omega (arith, ap length is, length-append front back, len, m) in
    ap (take many) is ∙ take_front front back many n

pub skip_none : (count : ℕ) (bytes : List ℕ) (es : List Entry) → count ≡ 0 → bytes ≡ body es → bytes ≡ body (drop count es)
skip_none count bytes es z is = is ∙ ap (λ (n : ℕ). body (drop n es)) (sym z)

pub skip_bad : (leaf : Bool) (count : ℕ) (bytes : List ℕ) → (count ≡ 0 → ⊥) → ((e : Entry) (more : List ℕ) → IsEntry leaf e → bytes ≡ entry_bytes e ++ more → ⊥) → (es : List Entry) → AllByRecursion (IsEntry leaf) es → count ≤ length es → bytes ≡ body es → ⊥
skip_bad leaf count bytes some none [] fits low is = some (omega (arith, low))
skip_bad leaf count bytes some none (e ∷ es) fits low is = none e (body es) fits.0 is

drop_more : (n count : ℕ) (e : Entry) (es : List Entry) → n ≡ count - 1 → (count ≡ 0 → ⊥) → drop n es ≡ drop count (e ∷ es)
drop_more n zero e es is some = absurd (some refl)
drop_more n (suc count) e es is some = ap (λ (k : ℕ). drop k es) (omega (arith, is))

pub skip_goes : (leaf : Bool) (count : ℕ) (bytes key tail rest : List ℕ) (r : Option (Bor (List ℕ))) → (count ≡ 0 → ⊥) → Whole leaf bytes key tail rest → ((es : List Entry) → AllByRecursion (IsEntry leaf) es → count - 1 ≤ length es → rest ≡ body es → IsSomeAnd r (λ p. p.now ≡ body (drop (count - 1) es))) → (es : List Entry) → AllByRecursion (IsEntry leaf) es → count ≤ length es → bytes ≡ body es → IsSomeAnd r (λ p. p.now ≡ body (drop count es))
skip_goes leaf count bytes key tail rest r some whole next [] fits low is = absurd (some (omega (arith, low)))
skip_goes leaf count bytes key tail rest r some whole next (e ∷ es) fits low is =
    let w : (key ≡ e.key) × (tail ≡ e.tail) × (rest ≡ body es) = whole e (body es) fits.0 is in
    some_on (λ p. p.now ≡ body (drop (count - 1) es)) (λ p. p.now ≡ body (drop count (e ∷ es))) r (λ p s. s ∙ ap body (drop_more (count - 1) count e es refl some)) (next es fits.1 (omega (arith, low)) w.2)

-- the last of some entries
pub record LastOne (leaf : Bool) (es : List Entry) : Type 0 where
  pub one : Entry
  pub is : drop (length es - 1) es ≡ one ∷ []
  pub fits : IsEntry leaf one
  pub key : one.key ≡ key_at_end es

pub last_one : (leaf : Bool) (es : List Entry) → AllByRecursion (IsEntry leaf) es → 0 < length es → LastOne leaf es
last_one leaf [] a some = absurd (omega (arith, some))
last_one leaf (e ∷ []) a some = record { one = e; is = refl; fits = a.0; key = refl }
last_one leaf (e ∷ f ∷ es) a some =
    let r : LastOne leaf (f ∷ es) = last_one leaf (f ∷ es) a.1 (omega arith) in
    let n : suc (suc (length es)) - 1 ≡ suc (suc (length es) - 1) = omega arith in
    record { one = r.one; is = ap (λ (k : ℕ). drop k (e ∷ f ∷ es)) n ∙ r.is; fits = r.fits; key = r.key }

-- the bytes behind all entries but the last one are that one's
pub last_bytes : (leaf : Bool) (es : List Entry) (count many : ℕ) (last : List ℕ) (o : LastOne leaf es) → length es ≡ count → many ≡ count - 1 → last ≡ body (drop many es) → last ≡ entry_bytes o.one ++ []
last_bytes leaf es count many last o len m is =
    let n : many ≡ length es - 1 = omega (arith, len, m) in
    is ∙ ap (λ (k : ℕ). body (drop k es)) n ∙ ap body o.is

-- a refusal of a call that is handed on
pub refuses_then : (T U : Type 0) (F G : ℕ → ℕ → Type 0) (P Q : Type 0) (r : Result U Trouble) (e : Trouble) → IsErrAnd r (λ y. y ≡ e) → ((n k : ℕ) → F n k → G n k) → (P → Q) → Refuses {T = T} F P (Err e) → Refuses G Q r
refuses_then T U F G P Q (Ok x) e h full f a = absurd h
refuses_then T U F G P Q (Err y) e h full f a = rw h (on e a) where
  on : (e : Trouble) → Refuses {T = T} F P (Err e) → Refuses {T = U} G Q (Err e)
  on trouble.Failed a = tt
  on trouble.NoMemory a = tt
  on (trouble.Full need most) a = full need most a
  on trouble.Damaged a = f a

-- the same of a call that is the last
pub refuses_last : {T : Type 0} (F G : ℕ → ℕ → Type 0) (P Q : Type 0) (r : Result T Trouble) → ((n k : ℕ) → F n k → G n k) → (P → Q) → Refuses F P r → Refuses G Q r
refuses_last F G P Q (Ok x) full f a = tt
refuses_last F G P Q (Err trouble.Failed) full f a = tt
refuses_last F G P Q (Err trouble.NoMemory) full f a = tt
refuses_last F G P Q (Err (trouble.Full need most)) full f a = full need most a
refuses_last F G P Q (Err trouble.Damaged) full f a = f a

-- an answer that no device is the cause of, where the count of faults stands
caused_err : {a b : ℕ} (T U : Type 0) (e : Trouble) → ((n : ℕ) → IsCausedTrouble {T = T} (Err e) n n) → b ≡ a → IsCausedTrouble {T = U} (Err e) a b
caused_err T U trouble.Failed none same = absurd (omega (arith, none 0))
caused_err T U trouble.NoMemory none same = same
caused_err T U (trouble.Full need most) none same = same
caused_err T U trouble.Damaged none same = same

pub caused_then : {a b : ℕ} (T U : Type 0) (r : Result U Trouble) (e : Trouble) → IsErrAnd r (λ y. y ≡ e) → ((n : ℕ) → IsCausedTrouble {T = T} (Err e) n n) → b ≡ a → IsCausedTrouble r a b
caused_then T U (Ok x) e h none same = absurd h
caused_then T U (Err y) e h none same = rw h (caused_err T U e none same)

pub caused_last : {a b : ℕ} (T : Type 0) (r : Result T Trouble) → ((n : ℕ) → IsCausedTrouble r n n) → b ≡ a → IsCausedTrouble r a b
caused_last T (Ok x) none same = same
caused_last T (Err e) none same = caused_err T T e none same

pub never : (F : ℕ → ℕ → Type 0) (n k : ℕ) → ⊥ → F n k
never F n k none = absurd none

-- a head that was read, as that of a node with these entries
pub head_is : (leaf found : Bool) (es : List Entry) (bytes rest : List ℕ) (count : ℕ) → AreNode leaf es bytes → ((l : Bool) (c : ℕ) (r : List ℕ) → bytes ≡ mark l ∷ c ∷ r → (found ≡ l) × (count ≡ c) × (rest ≡ r)) → (found ≡ leaf) × (count ≡ length es) × (rest ≡ body es)
head_is leaf found es bytes rest count a whole = whole leaf (length es) (body es) a.is

-- half of the entries, as a node
pub half_front : (leaf found : Bool) (es : List Entry) (half : ℕ) (bytes all : List ℕ) → AllByRecursion (IsEntry leaf) es → half ≤ length es → found ≡ leaf → bytes ≡ body (take half es) → all ≡ mark found ∷ half ∷ bytes → AreNode leaf (take half es) all
half_front leaf found es half bytes all fits low same is whole = record {
  fits = all_left (IsEntry leaf) (take half es) (drop half es) (rw (take-append-drop half es) fits);
  is = whole ∙ ap (λ (l : Bool). mark l ∷ half ∷ bytes) same ∙ ap (λ (n : ℕ). mark leaf ∷ n ∷ bytes) (sym (length-take-le half es low)) ∙ ap (λ (b : List ℕ). mark leaf ∷ length (take half es) ∷ b) is;
}

pub half_back : (leaf found : Bool) (es : List Entry) (half more : ℕ) (bytes all : List ℕ) → AllByRecursion (IsEntry leaf) es → half ≤ length es → more ≡ length es - half → found ≡ leaf → bytes ≡ body (drop half es) → all ≡ mark found ∷ more ∷ bytes → AreNode leaf (drop half es) all
half_back leaf found es half more bytes all fits low m same is whole =
    let whole_es : take half es ++ drop half es ≡ es = take-append-drop half es in
    let n : more ≡ length (drop half es) = omega (arith, m, low, length-take-le half es low, length-append (take half es) (drop half es), ap length whole_es) in
    record {
      fits = all_right (IsEntry leaf) (take half es) (drop half es) (rw whole_es fits);
      is = whole ∙ ap (λ (l : Bool). mark l ∷ more ∷ bytes) same ∙ ap (λ (n : ℕ). mark leaf ∷ n ∷ bytes) n ∙ ap (λ (b : List ℕ). mark leaf ∷ length (drop half es) ∷ b) is;
    }

-- entries cut in two, as bytes
pub halves_whole : (half : ℕ) (es : List Entry) (bytes : List ℕ) → bytes ≡ body es → bytes ≡ body (take half es) ++ body (drop half es)
halves_whole half es bytes is = is ∙ ap body (sym (take-append-drop half es)) ∙ body_both (take half es) (drop half es)

-- two entries, one pushed behind the other
pub two_pushed : (a b c : List ℕ) (x y : Entry) → a ≡ [] → b ≡ a ++ entry_bytes x → c ≡ b ++ entry_bytes y → c ≡ body (x ∷ y ∷ [])
two_pushed a b c x y none one two =
    two ∙ ap (λ (z : List ℕ). z ++ entry_bytes y) (one ∙ ap (λ (z : List ℕ). z ++ entry_bytes x) none) ∙ ap (λ (z : List ℕ). entry_bytes x ++ z) (sym (append-nil (entry_bytes y)))

pub half_low : (n m : ℕ) → n ≡ m → n / 2 ≤ m
half_low n m e = omega (arith, e)

-- both halves of a node's entries
pub cut_front : (leaf found : Bool) (es : List Entry) (count : ℕ) (bytes all : List ℕ) → AllByRecursion (IsEntry leaf) es → count ≡ length es → found ≡ leaf → bytes ≡ body (take (count / 2) es) → all ≡ mark found ∷ (count / 2) ∷ bytes → AreNode leaf (take (length es / 2) es) all
cut_front leaf found es count bytes all fits n same is whole =
    let half : AreNode leaf (take (count / 2) es) all = half_front leaf found es (count / 2) bytes all fits (half_low count (length es) n) same is whole in
    rw n at half

pub cut_back : (leaf found : Bool) (es : List Entry) (count more : ℕ) (bytes all : List ℕ) → AllByRecursion (IsEntry leaf) es → count ≡ length es → more ≡ count - count / 2 → found ≡ leaf → bytes ≡ body (drop (count / 2) es) → all ≡ mark found ∷ more ∷ bytes → AreNode leaf (drop (length es / 2) es) all
cut_back leaf found es count more bytes all fits n m same is whole =
    let left : more ≡ length es - count / 2 = m ∙ ap (λ (k : ℕ). k - count / 2) n in
    let half : AreNode leaf (drop (count / 2) es) all = half_back leaf found es (count / 2) more bytes all fits (half_low count (length es) n) left same is whole in
    rw n at half
