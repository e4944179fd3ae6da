-- Each form of a printed tree is sound where its parts are.
use Rattle.std.proofs.Common.{◌≡◌, ℕ, ◌^◌, ◌<◌, Bool, true, false, List, [], ◌∷◌, ◌++◌, Some, None, map, refl}
use Rattle.std.specs.Prelude.{flat_map}
use Rattle.std.specs.Char.{to_ascii_uppercase}
use Rattle.ql_lex.specs.declared.marks.Mark.TheVariants as m
use Rattle.ql_lex.specs.declared.words.Word.{Word}
use Rattle.ql_lex.specs.declared.words.Word.TheVariants as w
use Rattle.ql_lex.specs.Tokens.{IsName}
use Rattle.ql_lex.specs.Words.{word_bytes, IsWord}
use Rattle.ql_value.specs.declared.operator.BinOp.{BinOp}
use Rattle.ql_value.specs.declared.operator.UnOp.{UnOp}
use Rattle.ql_value.specs.declared.value.Kind.{Kind}
use Rattle.ql_syntax.specs.declared.syntax.Expr.{Expr}
use Rattle.ql_syntax.specs.declared.syntax.Expr.TheVariants as e
use Rattle.ql_syntax.specs.declared.syntax.Function.{Function}
use Rattle.ql_syntax.specs.declared.syntax.Link.{Link, roll-Link}
use Rattle.ql_syntax.specs.declared.syntax.Select.{Select}
use Rattle.ql_syntax.specs.Ink.{space, text_of, mark, keyword, name, listed, bracketed}
use Rattle.ql_syntax.specs.Functions.{function_bytes}
use Rattle.ql_syntax.specs.Printing.{Inks, ink_of_un, ink_of_not, ink_of_expr, ink_of_link, ink_of_select}
use Rattle.ql_syntax.specs.Trees.{chain, signed}
use Rattle.ql_syntax.proofs.PrintingEquations.{of_chain, of_unary, of_number, of_text, of_truth, of_null, of_column, of_paren, of_call, of_convert, of_in, of_in_select, of_between, of_is_null, of_link}
use Rattle.ql_print.proofs.LexedInk.{blank, token}
use Rattle.ql_print.proofs.CutLemmas.{is_spelled_as_word, dot_cut, number_cut, text_cut}
use Rattle.ql_print.proofs.SoundInk.{IsSound, IsLater, IsPart, AreSound, sound_part, sound_then, later_then, keyword_lexed, small_lexed, name_lexed, bracketed_part, bracketed_later, listed_sound}
use Rattle.ql_print.proofs.SoundTokens.{bin_lexed, un_lexed, kind_lexed, kind_quiet, function_name, name_quiet, number_quiet}

-- a keyword between blanks, and what stands behind it
pub behind_later : (word : Word) (x : Inks) → is_spelled_as_word (map to_ascii_uppercase (word_bytes word)) ≡ true → IsWord (map to_ascii_uppercase (word_bytes word)) word
    → IsSound x → IsLater (space ∷ keyword word ∷ space ∷ x)
behind_later word x s i h = record { goes = λ tail e l. blank (keyword_lexed word (space ∷ x ++ tail) s i refl (blank (h.goes tail e l))); apart = λ tail e. refl }

-- chains

link_later : (op : BinOp) (part : Expr) → IsSound (ink_of_expr part) → IsLater (ink_of_link (roll-Link (record { op = op; part = part })))
link_later op part h =
    rw (of_link op part) (record { goes = λ tail e l. blank (bin_lexed op (ink_of_expr part ++ tail) (h.goes tail e l)); apart = λ tail e. refl })

-- what the links of a chain print
abbrev pub ink_of_links : List Link → Inks
ink_of_links links = flat_map (λ (link : Inks). link) (map ink_of_link links)

-- one link more
pub links_later : (op : BinOp) (part : Expr) (links : List Link) → IsSound (ink_of_expr part) → IsLater (ink_of_links links) → IsLater (ink_of_links (roll-Link (record { op = op; part = part }) ∷ links))
links_later op part links h k = later_then (ink_of_link (roll-Link (record { op = op; part = part }))) (ink_of_links links) (link_later op part h) k

-- a chain
pub chain_sound : (first : Expr) (links : List Link) → IsSound (ink_of_expr first) → IsLater (ink_of_links links) → IsSound (ink_of_expr (chain first links))
chain_sound first [] h k = h
chain_sound first (link ∷ links) h k = rw (of_chain first (link ∷ links)) (sound_then (ink_of_expr first) (ink_of_links (link ∷ links)) h k)

-- signs

-- what further signs print
abbrev signs : List UnOp → Inks
signs ops = flat_map (λ (y : Inks). (space ∷ []) ++ y) (map (λ (op : UnOp). ink_of_un op ∷ []) ops)

signs_part : (ops : List UnOp) (x : Inks) → IsPart x → IsPart (signs ops ++ x)
signs_part [] x h = h
signs_part (op ∷ ops) x h =
    let more = signs_part ops x h in
    record {
      goes = λ tail e l. blank (un_lexed op ((signs ops ++ x) ++ tail) (more.quiet tail) (more.goes tail e l));
      quiet = λ tail. record { first = 32; others = _; bytes = refl; minus = refl; equal = refl };
    }

-- signs before a part
pub signed_sound : (ops : List UnOp) (part : Expr) → IsPart (ink_of_expr part) → IsSound (ink_of_expr (signed ops part))
signed_sound [] part h = sound_part h
signed_sound (op ∷ ops) part h =
    let more = signs_part ops (ink_of_expr part) h in
    rw (of_unary (op ∷ ops) part) (record { goes = λ tail e l. un_lexed op ((signs ops ++ ink_of_expr part) ++ tail) (more.quiet tail) (more.goes tail e l) })

-- literals

pub number_part : (n : ℕ) → n < 2 ^ 64 → IsPart (ink_of_expr (e.Number n))
number_part n h = rw (of_number n) (record { goes = λ tail e l. token (number_cut n (text_of tail) h e) l; quiet = λ tail. number_quiet n (text_of tail) h })

pub text_part : (bytes : List ℕ) → IsPart (ink_of_expr (e.Text bytes))
text_part bytes = rw (of_text bytes) (record {
  goes = λ tail e l. token (text_cut bytes (text_of tail)) l;
  quiet = λ tail. record { first = 34; others = _; bytes = refl; minus = refl; equal = refl };
})

pub true_part : IsPart (ink_of_expr (e.Truth true))
true_part = rw (of_truth true) (record {
  goes = λ tail e l. small_lexed w.True tail refl refl e l;
  quiet = λ tail. record { first = 116; others = _; bytes = refl; minus = refl; equal = refl };
})

pub false_part : IsPart (ink_of_expr (e.Truth false))
false_part = rw (of_truth false) (record {
  goes = λ tail e l. small_lexed w.False tail refl refl e l;
  quiet = λ tail. record { first = 102; others = _; bytes = refl; minus = refl; equal = refl };
})

pub null_part : IsPart (ink_of_expr e.Null)
null_part = rw of_null (record {
  goes = λ tail e l. keyword_lexed w.Null tail refl refl e l;
  quiet = λ tail. record { first = 78; others = _; bytes = refl; minus = refl; equal = refl };
})

-- columns, brackets, calls and conversions

pub column_part : (column : List ℕ) → IsName column → IsPart (ink_of_expr (e.Column None column))
column_part column n = rw (of_column None column) (record { goes = λ tail e l. name_lexed column tail n e l; quiet = λ tail. name_quiet column (text_of tail) n })

pub table_column_part : (table column : List ℕ) → IsName table → IsName column → IsPart (ink_of_expr (e.Column (Some table) column))
table_column_part table column t n = rw (of_column (Some table) column) (record {
  goes = λ tail e l. name_lexed table (mark m.Dot ∷ name column ∷ tail) t refl (token (dot_cut (text_of (name column ∷ tail))) (name_lexed column tail n e l));
  quiet = λ tail. name_quiet table (text_of (mark m.Dot ∷ name column ∷ tail)) t;
})

pub paren_part : (part : Expr) → IsSound (ink_of_expr part) → IsPart (ink_of_expr (e.Paren part))
paren_part part h = rw (of_paren part) (bracketed_part (ink_of_expr part) h)

pub call_part : (function : Function) (star : Bool) (parts : List Expr) → AreSound (map ink_of_expr parts) → IsPart (ink_of_expr (e.Call function star parts))
call_part function star parts h =
    let inner = bracketed_later (listed (map ink_of_expr parts)) (listed_sound (map ink_of_expr parts) h) in
    rw (of_call function star parts) (record {
      goes = λ tail e l. name_lexed (function_bytes function) (bracketed (listed (map ink_of_expr parts)) ++ tail) (function_name function) (inner.apart tail e) (inner.goes tail e l);
      quiet = λ tail. name_quiet (function_bytes function) (text_of (bracketed (listed (map ink_of_expr parts)) ++ tail)) (function_name function);
    })

pub convert_part : (kind : Kind) (part : Expr) → IsSound (ink_of_expr part) → IsPart (ink_of_expr (e.Convert kind part))
convert_part kind part h =
    let inner = bracketed_later (ink_of_expr part) h in
    rw (of_convert kind part) (record {
      goes = λ tail e l. kind_lexed kind (bracketed (ink_of_expr part) ++ tail) (inner.apart tail e) (inner.goes tail e l);
      quiet = λ tail. kind_quiet kind (bracketed (ink_of_expr part) ++ tail);
    })

-- predicates

not_later : (negated : Bool) (word : Word) (x : Inks) → is_spelled_as_word (map to_ascii_uppercase (word_bytes word)) ≡ true → IsWord (map to_ascii_uppercase (word_bytes word)) word
    → IsSound x → IsLater ((space ∷ ink_of_not negated) ++ (keyword word ∷ space ∷ x))
not_later false word x s i h = behind_later word x s i h
not_later true word x s i h = record {
  goes = λ tail e l. blank (keyword_lexed w.Not (space ∷ keyword word ∷ space ∷ x ++ tail) refl refl refl (blank (keyword_lexed word (space ∷ x ++ tail) s i refl (blank (h.goes tail e l)))));
  apart = λ tail e. refl;
}

pub in_sound : (part : Expr) (negated : Bool) (list : List Expr) → IsSound (ink_of_expr part) → AreSound (map ink_of_expr list) → IsSound (ink_of_expr (e.IsIn negated part list))
in_sound part negated list h k =
    rw (of_in part negated list)
    (sound_then (ink_of_expr part) ((space ∷ ink_of_not negated) ++ (keyword w.In ∷ space ∷ bracketed (listed (map ink_of_expr list)))) h
    (not_later negated w.In (bracketed (listed (map ink_of_expr list))) refl refl (sound_part (bracketed_part (listed (map ink_of_expr list)) (listed_sound (map ink_of_expr list) k)))))

pub in_select_sound : (part : Expr) (negated : Bool) (query : Select) → IsSound (ink_of_expr part) → IsSound (ink_of_select query) → IsSound (ink_of_expr (e.IsInSelect negated part query))
in_select_sound part negated query h k =
    rw (of_in_select part negated query)
    (sound_then (ink_of_expr part) ((space ∷ ink_of_not negated) ++ (keyword w.In ∷ space ∷ bracketed (ink_of_select query))) h
    (not_later negated w.In (bracketed (ink_of_select query)) refl refl (sound_part (bracketed_part (ink_of_select query) k))))

pub between_sound : (part : Expr) (negated : Bool) (low high : Expr) → IsSound (ink_of_expr part) → IsSound (ink_of_expr low) → IsSound (ink_of_expr high) → IsSound (ink_of_expr (e.IsBetween negated part low high))
between_sound part negated low high h i k =
    let bounds = sound_then (ink_of_expr low) (space ∷ keyword w.And ∷ space ∷ ink_of_expr high) i (behind_later w.And (ink_of_expr high) refl refl k) in
    rw (of_between part negated low high)
    (sound_then (ink_of_expr part) ((space ∷ ink_of_not negated) ++ (keyword w.Between ∷ space ∷ ink_of_expr low ++ (space ∷ keyword w.And ∷ space ∷ ink_of_expr high))) h
    (not_later negated w.Between (ink_of_expr low ++ (space ∷ keyword w.And ∷ space ∷ ink_of_expr high)) refl refl bounds))

null_sound : IsSound (keyword w.Null ∷ [])
null_sound = record { goes = λ tail e l. keyword_lexed w.Null tail refl refl e l }

null_later : (negated : Bool) → IsLater (space ∷ keyword w.Is ∷ space ∷ ink_of_not negated ++ (keyword w.Null ∷ []))
null_later false = behind_later w.Is (keyword w.Null ∷ []) refl refl null_sound
null_later true = behind_later w.Is (keyword w.Not ∷ space ∷ keyword w.Null ∷ []) refl refl
    (record { goes = λ tail e l. keyword_lexed w.Not (space ∷ keyword w.Null ∷ tail) refl refl refl (blank (keyword_lexed w.Null tail refl refl e l)) })

pub is_null_sound : (part : Expr) (negated : Bool) → IsSound (ink_of_expr part) → IsSound (ink_of_expr (e.IsNull negated part))
is_null_sound part negated h =
    rw (of_is_null part negated) (sound_then (ink_of_expr part) (space ∷ keyword w.Is ∷ space ∷ ink_of_not negated ++ (keyword w.Null ∷ [])) h (null_later negated))
