-- Whatever the tokens are, they read by a rule of the grammar or they stop somewhere.
use Rattle.std.proofs.Common.{◌≡◌, ℕ, zero, suc, ◌<◌, ◌≤◌, Bool, true, false, ◌&&◌, List, [], ◌∷◌, length, refl, sym, arith}
use Rattle.ql_lex.specs.declared.marks.Mark.TheVariants as m
use Rattle.ql_lex.specs.declared.words.Word.TheVariants as w
use Rattle.ql_syntax.specs.Lexemes.{Lexeme, is_open, is_close, is_comma, is_name, is_number, is_text, is_kind, is_id, is_count, is_function, is_mark, is_word, is_prefix, is_either, is_both, is_comparison, is_sum, is_product, sees, sees_two}
use Rattle.ql_syntax.specs.Rules.{Rule, Production, rule_of, token, before, nothing, ◌then◌, ◌or◌, maybe, many, bracketed, further, finish, the, list, word, mark, name, if_exists, if_not_exists, filter, subselect, join, enters, script, expr, term, factor, predicate, sum, product, unary, primary, ref, select, set, column, statement, creation, removal, alteration, insertion, update, deletion}
use Rattle.ql_syntax.specs.Readings as r
use Rattle.ql_syntax.specs.Readings.{Parse, Reads, Stop, Stops}
use Rattle.ql_cursor.proofs.GrammarLaws.{shorter}

-- the tokens read by a rule, or stop
pub data Ends (n : ℕ) (x : Rule) (ts : List Lexeme) : Type 0 where
  reads : {a : Parse} {rest : List Lexeme} → Reads n x ts a rest → Ends n x ts
  stops : {s : Stop} → Stops n x ts s → Ends n x ts

-- all lists of tokens do
abbrev pub Total : ℕ → Rule → Type 0
Total n x = (ts : List Lexeme) → Ends n x ts

-- a rule takes a token at least
abbrev pub Takes : ℕ → Rule → Type 0
Takes n x = (ts rest : List Lexeme) (a : Parse) → Reads n x ts a rest → suc (length rest) ≤ length ts

a_token : {n : ℕ} (test : Lexeme → Bool) → Total n (token test)
a_token test [] = stops (r.other_token refl)
a_token {n = n} test (t ∷ ts) = by (test t) refl
  where
    by : (b : Bool) → test t ≡ b → Ends n (token test) (t ∷ ts)
    by true e = reads (r.takes e)
    by false e = stops (r.other_token e)

a_token_before : {n : ℕ} (test next : Lexeme → Bool) → Total n (before test next)
a_token_before test next [] = stops (r.not_before refl)
a_token_before {n = n} test next (t ∷ ts) = by (test t) (sees next ts) refl refl
  where
    by : (b c : Bool) → test t ≡ b → sees next ts ≡ c → Ends n (before test next) (t ∷ ts)
    by true true e f = reads (r.takes_before e f)
    by true false e f = stops (r.not_before (rw (e, f) refl))
    by false c e f = stops (r.not_before (rw e refl))

no_token : {n : ℕ} → Total n nothing
no_token ts = reads r.takes_nothing

the_end : {n : ℕ} → Total n finish
the_end [] = reads r.at_end
the_end (t ∷ ts) = stops r.not_at_end

in_turn : {n : ℕ} {x y : Rule} → Total n x → Total n y → Total n (x then y)
in_turn {n = n} {x = x} {y = y} f g ts = by (f ts)
  where
    behind : {a : Parse} {mid : List Lexeme} → Reads n x ts a mid → Ends n y mid → Ends n (x then y) ts
    behind h (reads k) = reads (r.both h k)
    behind h (stops k) = stops (r.in_second h k)

    by : Ends n x ts → Ends n (x then y) ts
    by (reads {rest = mid} h) = behind h (g mid)
    by (stops i) = stops (r.in_first i)

one_of : {n : ℕ} {x y : Rule} → Total n x → Total n y → Total n (x or y)
one_of {n = n} {x = x} {y = y} f g ts = by (enters x ts) (enters y ts) refl refl (f ts) (g ts)
  where
    by : (b c : Bool) → enters x ts ≡ b → enters y ts ≡ c → Ends n x ts → Ends n y ts → Ends n (x or y) ts
    by true c e d (reads h) _ = reads (r.first e h)
    by true c e d (stops i) _ = stops (r.in_left e i)
    by false true e d _ (reads h) = reads (r.second e d h)
    by false true e d _ (stops i) = stops (r.in_right e d i)
    by false false e d _ _ = stops (r.neither e d)

perhaps : {n : ℕ} {x : Rule} → Total n x → Total n (maybe x)
perhaps {n = n} {x = x} f ts = by (enters x ts) refl (f ts)
  where
    by : (b : Bool) → enters x ts ≡ b → Ends n x ts → Ends n (maybe x) ts
    by true e (reads h) = reads (r.entered e h)
    by true e (stops i) = stops (r.in_part e i)
    by false e _ = reads (r.left_out e)

-- one turn, where further turns over fewer tokens end
one_turn : {n : ℕ} {x : Rule} → Total n x → Takes n x → (ts : List Lexeme) → ((mid : List Lexeme) → suc (length mid) ≤ length ts → Ends n (many x) mid) → Ends n (many x) ts
one_turn {n = n} {x = x} f g ts next = by (enters x ts) refl (f ts)
  where
    behind : {a : Parse} {mid : List Lexeme} → enters x ts ≡ true → Reads n x ts a mid → Ends n (many x) mid → Ends n (many x) ts
    behind e h (reads k) = reads (r.goes_on e h k)
    behind e h (stops i) = stops (r.in_later e h i)

    by : (b : Bool) → enters x ts ≡ b → Ends n x ts → Ends n (many x) ts
    by false e _ = reads (r.ended e)
    by true e (stops i) = stops (r.in_one e i)
    by true e (reads {a = a} {rest = mid} h) = behind e h (next mid (g ts mid a h))

-- by as many turns as there are tokens
turns : {n : ℕ} {x : Rule} → Total n x → Takes n x → (most : ℕ) (ts : List Lexeme) → length ts ≤ most → Ends n (many x) ts
turns f g zero ts within = one_turn f g ts (λ mid k. absurd (omega (arith, k, within)))
turns f g (suc most) ts within = one_turn f g ts (λ mid k. turns f g most mid (omega (arith, k, within)))

repeated : {n : ℕ} {x : Rule} → Total n x → Takes n x → Total n (many x)
repeated f g ts = turns f g (length ts) ts (omega arith)

-- one member more behind a comma, where further members over fewer tokens end
one_member : {n : ℕ} {x : Rule} → Total n x → (ts : List Lexeme) → ((mid : List Lexeme) → suc (length mid) ≤ length ts → Ends n (further x) mid) → Ends n (further x) ts
one_member f [] next = reads (r.no_comma refl)
one_member {n = n} {x = x} f (t ∷ ts) next = by (is_comma t) (enters x ts) refl refl (f ts)
  where
    behind : {a : Parse} {mid : List Lexeme} → is_comma t ≡ true → enters x ts ≡ true → Reads n x ts a mid → Ends n (further x) mid → Ends n (further x) (t ∷ ts)
    behind e d h (reads k) = reads (r.member e d h k)
    behind e d h (stops i) = stops (r.in_further e d h i)

    by : (b c : Bool) → is_comma t ≡ b → enters x ts ≡ c → Ends n x ts → Ends n (further x) (t ∷ ts)
    by false c e d _ = reads (r.no_comma e)
    by true false e d _ = reads (r.trailing e d)
    by true true e d (stops i) = stops (r.in_member e d i)
    by true true e d (reads {rest = mid} h) = behind e d h (next mid (omega (arith, shorter h)))

members : {n : ℕ} {x : Rule} → Total n x → (most : ℕ) (ts : List Lexeme) → length ts ≤ most → Ends n (further x) ts
members f zero ts within = one_member f ts (λ mid k. absurd (omega (arith, k, within)))
members f (suc most) ts within = one_member f ts (λ mid k. members f most mid (omega (arith, k, within)))

a_list : {n : ℕ} {x : Rule} → Total n x → Total n (list x)
a_list f = in_turn f (λ ts. members f (length ts) ts (omega arith))

-- brackets, where no more may be opened
no_room : (x : Rule) → Total zero (bracketed x)
no_room x [] = stops (r.not_open refl)
no_room x (t ∷ ts) = by (is_open t) refl
  where
    by : (b : Bool) → is_open t ≡ b → Ends zero (bracketed x) (t ∷ ts)
    by true e = stops (r.no_room e)
    by false e = stops (r.not_open e)

in_brackets : {n : ℕ} {x : Rule} → Total n x → Total (suc n) (bracketed x)
in_brackets f [] = stops (r.not_open refl)
in_brackets {n = n} {x = x} f (t ∷ ts) = by (is_open t) refl (f ts)
  where
    closed : {a : Parse} {c : Lexeme} {rest : List Lexeme} → is_open t ≡ true → Reads n x ts a (c ∷ rest) → (b : Bool) → is_close c ≡ b → Ends (suc n) (bracketed x) (t ∷ ts)
    closed o h true e = reads (r.enclosed o h e)
    closed o h false e = stops (r.not_closed o h e)

    behind : {a : Parse} (rest : List Lexeme) → is_open t ≡ true → Reads n x ts a rest → Ends (suc n) (bracketed x) (t ∷ ts)
    behind [] o h = stops (r.not_closed o h refl)
    behind (c ∷ rest) o h = closed o h (is_close c) refl

    by : (b : Bool) → is_open t ≡ b → Ends n x ts → Ends (suc n) (bracketed x) (t ∷ ts)
    by false e _ = stops (r.not_open e)
    by true e (stops i) = stops (r.within e i)
    by true e (reads {rest = rest} h) = behind rest e h

-- what a production says
by_production : {n : ℕ} (p : Production) → Total n (rule_of p) → Total n (the p)
by_production {n = n} p f ts = by (f ts)
  where
    by : Ends n (rule_of p) ts → Ends n (the p) ts
    by (reads h) = reads (r.by_rule h)
    by (stops i) = stops (r.by_its_rule i)

takes_one : {n : ℕ} (test : Lexeme → Bool) → Takes n (token test)
takes_one test ts rest a (r.takes e) = omega arith

takes_first : {n : ℕ} {y : Rule} (test : Lexeme → Bool) → Takes n (token test then y)
takes_first test ts rest a (r.both (r.takes e) k) = omega (arith, shorter k)

-- the two productions that stand in brackets, with a room
pub record Inside (n : ℕ) : Type 0 where
  pub an_expr : Total n (the expr)
  pub a_select : Total n (the select)

-- the same with the room inside one more bracket, if there is one
abbrev pub Inner : ℕ → Type 0
Inner zero = Unit {0}
Inner (suc n) = Inside n

-- brackets round what is made of the two productions
round : {x : Rule} (n : ℕ) → Inner n → ((m : ℕ) → Inside m → Total m x) → Total n (bracketed x)
round {x = x} zero i f = no_room x
round (suc n) i f = in_brackets (f n i)

a_mark : {n : ℕ} → (a : _) → Total n (mark a)
a_mark a = a_token (is_mark a)

a_word : {n : ℕ} → (a : _) → Total n (word a)
a_word a = a_token (is_word a)

a_name : {n : ℕ} → Total n name
a_name = a_token is_name

a_ref : {n : ℕ} → Total n (the ref)
a_ref = by_production ref (in_turn a_name (perhaps (in_turn (a_mark m.Dot) a_name)))

-- parts with operators between them
a_chain : {n : ℕ} {x : Rule} (op : Lexeme → Bool) → Total n x → Total n (x then many (token op then x))
a_chain op f = in_turn f (repeated (in_turn (a_token op) f) (takes_first op))

a_primary : (n : ℕ) → Inner n → Total n (the primary)
a_primary n i = by_production primary (
    one_of (a_token is_number) (
    one_of (a_token is_text) (
    one_of (a_word w.True) (
    one_of (a_word w.False) (
    one_of (a_word w.Null) (
    one_of (in_turn (a_token_before is_count is_open) (round n i (λ room k. perhaps (one_of (a_mark m.Star) (a_list k.an_expr))))) (
    one_of (in_turn (a_token_before is_function is_open) (round n i (λ room k. perhaps (a_list k.an_expr)))) (
    one_of a_ref (
    one_of (round n i (λ room k. k.an_expr))
    (in_turn (a_token is_kind) (round n i (λ room k. k.an_expr))))))))))))

a_unary : (n : ℕ) → Inner n → Total n (the unary)
a_unary n i = by_production unary (in_turn (repeated (a_token is_prefix) (takes_one is_prefix)) (a_primary n i))

a_product : (n : ℕ) → Inner n → Total n (the product)
a_product n i = by_production product (a_chain is_product (a_unary n i))

a_sum : (n : ℕ) → Inner n → Total n (the sum)
a_sum n i = by_production sum (a_chain is_sum (a_product n i))

a_subselect : (n : ℕ) → Inside n → Total n subselect
a_subselect n k = in_turn k.a_select (perhaps (a_mark m.Semicolon))

a_predicate : (n : ℕ) → Inner n → Total n (the predicate)
a_predicate n i = by_production predicate (
    one_of (in_turn (perhaps (a_word w.Not)) (
    one_of (in_turn (a_word w.In) (round n i (λ room k. one_of (a_list k.an_expr) (a_subselect room k))))
    (in_turn (a_word w.Between) (in_turn (a_sum n i) (in_turn (a_word w.And) (a_sum n i))))))
    (in_turn (a_word w.Is) (in_turn (perhaps (a_word w.Not)) (a_word w.Null))))

a_factor : (n : ℕ) → Inner n → Total n (the factor)
a_factor n i = by_production factor (in_turn (a_sum n i) (in_turn (repeated (in_turn (a_token is_comparison) (a_sum n i)) (takes_first is_comparison)) (perhaps (a_predicate n i))))

a_term : (n : ℕ) → Inner n → Total n (the term)
a_term n i = by_production term (a_chain is_both (a_factor n i))

an_expr_at : (n : ℕ) → Inner n → Total n (the expr)
an_expr_at n i = by_production expr (a_chain is_either (a_term n i))

a_set : (n : ℕ) → Inner n → Total n (the set)
a_set n i = by_production set (in_turn (one_of a_name (round n i a_subselect)) (perhaps (in_turn (a_word w.As) a_name)))

a_filter : (n : ℕ) → Inner n → Total n filter
a_filter n i = in_turn (a_word w.Where) (an_expr_at n i)

a_join : (n : ℕ) → Inner n → Total n join
a_join n i = in_turn (one_of (a_word w.Left) (one_of (a_word w.Right) (a_word w.Full))) (in_turn (perhaps (a_word w.Outer)) (in_turn (a_word w.Join)
    (in_turn (a_set n i) (in_turn (a_word w.On) (an_expr_at n i)))))

a_select_at : (n : ℕ) → Inner n → Total n (the select)
a_select_at n i = by_production select (in_turn (a_word w.Select) (in_turn (perhaps (a_word w.Distinct))
    (in_turn (one_of (a_mark m.Star) (a_list (in_turn (an_expr_at n i) (perhaps (in_turn (a_word w.As) a_name)))))
    (in_turn (perhaps (in_turn (a_word w.From) (in_turn (a_list (a_set n i)) (perhaps (a_join n i)))))
    (in_turn (perhaps (a_filter n i))
    (in_turn (perhaps (in_turn (a_word w.Group) (in_turn (a_word w.By) (a_list a_ref))))
    (in_turn (perhaps (in_turn (a_word w.Order) (in_turn (a_word w.By) (in_turn (a_list (an_expr_at n i)) (perhaps (one_of (a_word w.Asc) (a_word w.Desc)))))))
    (in_turn (perhaps (in_turn (a_word w.Limit) (an_expr_at n i)))
    (perhaps (in_turn (a_word w.Offset) (an_expr_at n i)))))))))))

-- with a room, where there is one inside one more bracket
inside_of : (n : ℕ) → Inner n → Inside n
inside_of n i = record { an_expr = an_expr_at n i; a_select = a_select_at n i }

inside : (n : ℕ) → Inside n
inside zero = inside_of zero tt
inside (suc n) = inside_of (suc n) (inside n)

inner : (n : ℕ) → Inner n
inner zero = tt
inner (suc n) = inside n

an_expr_in : (n : ℕ) → Total n (the expr)
an_expr_in n = (inside n).an_expr

a_select_in : (n : ℕ) → Total n (the select)
a_select_in n = (inside n).a_select

-- brackets round what ends in every room
around : {x : Rule} → ((n : ℕ) → Total n x) → (n : ℕ) → Total n (bracketed x)
around {x = x} f zero = no_room x
around f (suc n) = in_brackets (f n)

a_quiet : {n : ℕ} → Total n (maybe if_exists)
a_quiet = perhaps (in_turn (a_word w.If) (a_word w.Exists))

a_quiet_not : {n : ℕ} → Total n (maybe if_not_exists)
a_quiet_not = perhaps (in_turn (a_word w.If) (in_turn (a_word w.Not) (a_word w.Exists)))

a_column : (n : ℕ) → Total n (the column)
a_column n = by_production column (in_turn a_name (in_turn (a_token is_kind)
    (in_turn (perhaps (one_of (in_turn (a_word w.Not) (a_word w.Null)) (an_expr_in n))) (perhaps (in_turn (a_word w.Default) (an_expr_in n))))))

a_creation : (n : ℕ) → Total n (the creation)
a_creation n = by_production creation (in_turn (a_word w.Create) (one_of
    (in_turn (a_word w.Table) (in_turn a_quiet_not (in_turn a_name (around (λ room. a_list (a_column room)) n))))
    (in_turn (perhaps (a_word w.Unique)) (in_turn (a_word w.Index) (in_turn a_quiet_not (in_turn a_name (in_turn (a_word w.On) (in_turn a_name
    (around (λ room. one_of (in_turn (a_token_before is_id is_open) (around (λ _. no_token) room)) a_name) n)))))))))

a_removal : (n : ℕ) → Total n (the removal)
a_removal n = by_production removal (in_turn (a_word w.Drop) (one_of
    (in_turn (a_word w.Table) (in_turn a_quiet a_name))
    (in_turn (a_word w.Index) (in_turn a_quiet a_name))))

an_alteration : (n : ℕ) → Total n (the alteration)
an_alteration n = by_production alteration (in_turn (a_word w.Alter) (in_turn (a_word w.Table) (in_turn a_name (one_of
    (in_turn (a_word w.Add) (a_column n))
    (in_turn (a_word w.Drop) (in_turn (a_word w.Column) a_name))))))

an_insertion : (n : ℕ) → Total n (the insertion)
an_insertion n = by_production insertion (in_turn (a_word w.Insert) (in_turn (a_word w.Into) (in_turn a_name (in_turn (perhaps (around (λ _. a_list a_name) n)) (one_of
    (in_turn (a_word w.Values) (a_list (around (λ room. a_list (an_expr_in room)) n)))
    (a_select_in n))))))

an_update : (n : ℕ) → Total n (the update)
an_update n = by_production update (in_turn (a_word w.Update) (in_turn a_name (in_turn (perhaps (a_word w.Set))
    (in_turn (a_list (in_turn a_name (in_turn (a_mark m.Equal) (an_expr_in n)))) (perhaps (a_filter n (inner n)))))))

a_deletion : (n : ℕ) → Total n (the deletion)
a_deletion n = by_production deletion (in_turn (a_word w.Delete) (in_turn (a_word w.From) (in_turn a_name (perhaps (a_filter n (inner n))))))

a_statement : (n : ℕ) → Total n (the statement)
a_statement n = by_production statement (
    one_of (in_turn (a_word w.Begin) (a_word w.Transaction)) (
    one_of (a_word w.Commit) (
    one_of (a_word w.Rollback) (
    one_of (a_select_in n) (
    one_of (a_creation n) (
    one_of (a_removal n) (
    one_of (an_alteration n) (
    one_of (in_turn (a_word w.Truncate) (in_turn (a_word w.Table) a_name)) (
    one_of (an_insertion n) (
    one_of (an_update n)
    (a_deletion n)))))))))))

-- every list of tokens is a script, or it stops being one somewhere
pub a_script : (n : ℕ) → Total n script
a_script n = in_turn (perhaps (a_statement n)) (in_turn (repeated (in_turn (a_mark m.Semicolon) (perhaps (a_statement n))) (takes_first (is_mark m.Semicolon))) the_end)
