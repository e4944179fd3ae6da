-- The links of a chain.
use Rattle.std.proofs.Common.{◌≡◌, ℕ, Bool, true, List, [], ◌∷◌, drop, refl, ap, ◌∙◌}
use Rattle.ql_value.specs.declared.operator.BinOp.{BinOp}
use Rattle.ql_value.specs.declared.operator.BinOp.TheVariants as bin
use Rattle.ql_cursor.specs.declared.fault.Fault.{Fault}
use Rattle.ql_parse_expr.specs.declared.level.Level.{Level}
use Rattle.ql_parse_expr.specs.declared.level.Level.TheVariants as l
use Rattle.ql_syntax.specs.declared.syntax.Expr.{Expr}
use Rattle.ql_syntax.specs.declared.syntax.Expr.TheVariants as e
use Rattle.ql_syntax.specs.declared.syntax.Link.{Link, roll-Link}
use Rattle.ql_syntax.specs.Lexemes.{Lexeme, sees, is_prefix}
use Rattle.ql_value.specs.declared.operator.UnOp.{UnOp}
use Rattle.ql_value.specs.declared.operator.UnOp.TheVariants as un
use Rattle.ql_parse_expr.specs.Levels.{is_op, part_of, chain_rule, chain_of, next_op, next_un_op}
use Rattle.ql_syntax.specs.Rules.{Rule, token, ◌then◌, the, maybe, factor, predicate}
use Rattle.ql_syntax.specs.Readings.{Parse, Reads, Stop, Stops, leaf, pair, cell, node, takes, both, by_rule, in_first, in_second}
use Rattle.ql_cursor.specs.Parses.{Gives, Fails}
use Rattle.ql_syntax.specs.Trees.{bin_op, un_op, chain, signed, expr_of, links_of, ops_of, tested_of}

-- a link
abbrev pub link_of : Parse → Link
link_of (pair (leaf t) a) = roll-Link (record { op = bin_op t.kind; part = expr_of a })
link_of _ = roll-Link (record { op = bin.AndNot; part = e.Null })

-- an operator and the part behind it are a link
pub gives_link : {n : ℕ} (level : Level) {now after new : List Lexeme} {op : BinOp} {part : Expr} → sees (is_op level) now ≡ true → op ≡ next_op now → after ≡ drop 1 now
    → Gives n (the (part_of level)) expr_of after part new → Gives n (token (is_op level) then the (part_of level)) link_of now (roll-Link (record { op = op; part = part })) new
gives_link level {now = []} s o d h = cc
gives_link {n = n} level {now = t ∷ ts} {after = after} {new = new} s o d h =
    let here : after ≡ ts = d in
    let h' : Gives n (the (part_of level)) expr_of ts _ new = rw here at h in
    record { parse = pair (leaf t) h'.parse; reads = both (takes s) h'.reads; means = cc (o, h'.means) }

-- a part that fails
pub fails_link : {n : ℕ} (level : Level) {now after : List Lexeme} {d : Fault} → sees (is_op level) now ≡ true → after ≡ drop 1 now
    → Fails n (the (part_of level)) after d → Fails n (token (is_op level) then the (part_of level)) now d
fails_link level {now = []} s d h = cc
fails_link {n = n} level {now = t ∷ ts} {after = after} {d = fault} s d h =
    let here : after ≡ ts = d in
    let h' : Fails n (the (part_of level)) ts fault = rw here at h in
    record { stops = λ no. let stop = h'.stops no in (stop.0, in_second (takes s) stop.1, stop.2) }

-- the links are the first one and those behind it
pub first_link : {n : ℕ} {test : Lexeme → Bool} {y : Rule} {now new : List Lexeme} (a b : Parse) → Reads n (token test then y) now a new → links_of (cell a b) ≡ link_of a ∷ links_of b
first_link _ b (both (takes e) h) = refl

-- an operator before a part
abbrev pub prefix_of : Parse → UnOp
prefix_of (leaf t) = un_op t.kind
prefix_of _ = un.Flip

-- a token before a part is an operator
pub gives_prefix : {n : ℕ} {now new : List Lexeme} {op : UnOp} → sees is_prefix now ≡ true → op ≡ next_un_op now → new ≡ drop 1 now → Gives n (token is_prefix) prefix_of now op new
gives_prefix {now = []} s o d = cc
gives_prefix {now = t ∷ ts} s o d = rw (o, d) (record { parse = leaf t; reads = takes s; means = refl })

-- the operators are the first one and those behind it
pub first_prefix : {n : ℕ} {test : Lexeme → Bool} {now new : List Lexeme} (a b : Parse) → Reads n (token test) now a new → ops_of (cell a b) ≡ prefix_of a ∷ ops_of b
first_prefix _ b (takes e) = refl

-- equal parts make equal chains
pub same_chain : {a b : Expr} {ls ms : List Link} → a ≡ b → ls ≡ ms → chain a ls ≡ chain b ms
same_chain e d = rw (e, d) refl

-- equal parts with equal operators before them are equal
pub same_signed : {os ps : List UnOp} {a b : Expr} → os ≡ ps → a ≡ b → signed os a ≡ signed ps b
same_signed e d = rw (e, d) refl

-- a chain means the same in the production that it is
pub chain_tree : {n : ℕ} {x y : Rule} {old new : List Lexeme} (all : Parse → Expr) → ((a b : Parse) → chain_of (pair a b) ≡ all (pair a b)) → (a : Parse) → Reads n (x then y) old a new → chain_of a ≡ all a
chain_tree all same _ (both h i) = same _ _

gives_tested : {n : ℕ} {old mid new : List Lexeme} {part value : Expr} (a : Parse) → Reads n (chain_rule l.Comparison) old a mid → part ≡ chain_of a
    → Gives n (maybe (the predicate)) (tested_of part) mid value new → Gives n (the factor) expr_of old value new
gives_tested _ (both h i) e k = record { parse = node factor (pair _ (pair _ k.parse)); reads = by_rule (both h (both i k.reads)); means = k.means ∙ ap (λ q. tested_of q k.parse) e }

-- a chain and the predicate behind it are a factor
pub gives_factor : {n : ℕ} {old mid new : List Lexeme} {part value : Expr} → Gives n (chain_rule l.Comparison) chain_of old part mid
    → Gives n (maybe (the predicate)) (tested_of part) mid value new → Gives n (the factor) expr_of old value new
gives_factor h k = gives_tested h.parse h.reads h.means k

stops_front : {n : ℕ} {x y z : Rule} {old : List Lexeme} {s : Stop} → Stops n (x then y) old s → Stops n (x then (y then z)) old s
stops_front (in_first h) = in_first h
stops_front (in_second h i) = in_second h (in_first i)

-- what fails in the front of a sequence fails in all of it
pub fails_front : {n : ℕ} {x y z : Rule} {old : List Lexeme} {d : Fault} → Fails n (x then y) old d → Fails n (x then (y then z)) old d
fails_front h = record { stops = λ no. let s = h.stops no in (s.0, stops_front s.1, s.2) }

stops_behind : {n : ℕ} {x y z : Rule} {old mid : List Lexeme} {a : Parse} {s : Stop} → Reads n (x then y) old a mid → Stops n z mid s → Stops n (x then (y then z)) old s
stops_behind (both h i) k = in_second h (in_second i k)

-- what fails behind the front of a sequence fails in all of it
pub fails_behind : {n : ℕ} {x y z : Rule} {A : Type 0} {tree : Parse → A} {old mid : List Lexeme} {v : A} {d : Fault} → Gives n (x then y) tree old v mid → Fails n z mid d → Fails n (x then (y then z)) old d
fails_behind h k = record { stops = λ no. let s = k.stops no in (s.0, stops_behind h.reads s.1, s.2) }
