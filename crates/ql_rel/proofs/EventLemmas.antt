-- The laws of events.
use Rattle.std.proofs.Common.{◌≡◌, ℕ, suc, ◌+◌, ◌<◌, ◌≤◌, Bool, true, false, cond, nat_lt, List, [], ◌∷◌, ◌++◌, length, filter, refl, sym, ap, ◌∙◌, arith, append_assoc, length-append}
use Rattle.std.proofs.lemmas.Bool.Decides.{nat_tests}
use Rattle.ql_rel.specs.declared.db.Db.{Db}
use Rattle.ql_rel.specs.Events.{Event, shows, commits, shown_text, commits_of, places_from, places_of, told_by, kept_after}
use Rattle.ql_rel.specs.EventLaws.{NeverFall}

weaker : (a b : ℕ) (ns : List ℕ) → a ≤ b → NeverFall b ns → NeverFall a ns
weaker a b [] h k = tt
weaker a b (n ∷ ns) h k = (omega (arith, k.0), k.1)

fall_from : (before : ℕ) (events : List Event) → NeverFall before (places_from before events)
fall_from before [] = tt
fall_from before (shows text ∷ events) = weaker before (before + length text) (places_from (before + length text) events) (omega arith) (fall_from (before + length text) events)
fall_from before (commits db ∷ events) = (omega arith, fall_from before events)

pub places_rise : (events : List Event) → NeverFall 0 (places_of events)
places_rise events = fall_from 0 events

each_from : (before : ℕ) (events : List Event) → length (places_from before events) ≡ length (commits_of events)
each_from before [] = refl
each_from before (shows text ∷ events) = each_from (before + length text) events
each_from before (commits db ∷ events) = ap suc (each_from before events)

pub places_each : (events : List Event) → length (places_of events) ≡ length (commits_of events)
places_each events = each_from 0 events

never_below : (n : ℕ) → nat_lt n 0 ≡ false
never_below n = grind (arith, nat_tests)

none_below : (ns : List ℕ) → length (filter (λ place. nat_lt place 0) ns) ≡ 0
none_below [] = refl
none_below (n ∷ ns) = rw (never_below n) (none_below ns)

pub told_none : (events : List Event) → told_by 0 events ≡ 0
told_none events = none_below (places_of events)

is_below : (m n : ℕ) → m < n → nat_lt m n ≡ true
is_below m n h = grind (arith, nat_tests)

all_from : (before shown : ℕ) (events : List Event) → before + length (shown_text events) < shown → length (filter (λ place. nat_lt place shown) (places_from before events)) ≡ length (commits_of events)
all_from before shown [] h = refl
all_from before shown (shows text ∷ events) h = all_from (before + length text) shown events (omega (arith, length-append text (shown_text events)))
all_from before shown (commits db ∷ events) h = rw (is_below before shown (omega arith)) (ap suc (all_from before shown events h))

pub told_all : (shown : ℕ) (events : List Event) → length (shown_text events) < shown → told_by shown events ≡ length (commits_of events)
told_all shown events h = all_from 0 shown events (omega arith)

abbrev IfTrue : Bool → Bool → Type 0
IfTrue true b = b ≡ true
IfTrue false b = Unit {0}

if_true : (a b : Bool) → (a ≡ true → b ≡ true) → IfTrue a b
if_true true b h = h refl
if_true false b h = tt

under_both : (n shown further : ℕ) → shown ≤ further → IfTrue (nat_lt n shown) (nat_lt n further)
under_both n shown further h = if_true (nat_lt n shown) (nat_lt n further) (λ e. grind (arith, nat_tests))

no_fewer : (a b : Bool) (n : ℕ) (xs ys : List ℕ) → IfTrue a b → length xs ≤ length ys → length (cond a (n ∷ xs) xs) ≤ length (cond b (n ∷ ys) ys)
no_fewer true true n xs ys e h = omega (arith, h)
no_fewer true false n xs ys e h = absurd (cc)
no_fewer false true n xs ys e h = omega (arith, h)
no_fewer false false n xs ys e h = h

more_below : (shown further : ℕ) (ns : List ℕ) → shown ≤ further → length (filter (λ place. nat_lt place shown) ns) ≤ length (filter (λ place. nat_lt place further) ns)
more_below shown further [] h = omega arith
more_below shown further (n ∷ ns) h =
    no_fewer (nat_lt n shown) (nat_lt n further) n (filter (λ place. nat_lt place shown) ns) (filter (λ place. nat_lt place further) ns) (under_both n shown further h) (more_below shown further ns h)

pub told_more : (shown further : ℕ) (events : List Event) → shown ≤ further → told_by shown events ≤ told_by further events
told_more shown further events h = more_below shown further (places_of events) h

pub texts_join : (a b : List Event) → shown_text (a ++ b) ≡ shown_text a ++ shown_text b
texts_join [] b = refl
texts_join (shows text ∷ a) b = ap (λ (t : List ℕ). text ++ t) (texts_join a b) ∙ sym (append_assoc text (shown_text a) (shown_text b))
texts_join (commits db ∷ a) b = texts_join a b

pub commits_join : (a b : List Event) → commits_of (a ++ b) ≡ commits_of a ++ commits_of b
commits_join [] b = refl
commits_join (shows text ∷ a) b = commits_join a b
commits_join (commits db ∷ a) b = ap (λ (dbs : List Db). db ∷ dbs) (commits_join a b)

pub kept_join : (a b : List Event) (db : Db) → kept_after db (a ++ b) ≡ kept_after (kept_after db a) b
kept_join [] b db = refl
kept_join (shows text ∷ a) b db = kept_join a b db
kept_join (commits after ∷ a) b db = kept_join a b after
