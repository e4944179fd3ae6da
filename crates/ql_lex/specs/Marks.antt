-- The 27 marks.
use Rattle.std.specs.Prelude.{◌≡◌, ℕ, ◌≤◌, ◌==◌, if◌then◌else◌, List, ◌∷◌, ◌++◌, length, Option, Some, None, codes}
use Rattle.ql_lex.specs.declared.marks.Mark.{Mark}
use Rattle.ql_lex.specs.declared.marks.Mark.TheVariants as m

-- how a mark is written
abbrev pub mark_bytes : Mark → List ℕ
mark_bytes m.Plus = codes "+"
mark_bytes m.Minus = codes "-"
mark_bytes m.Star = codes "*"
mark_bytes m.Slash = codes "/"
mark_bytes m.Percent = codes "%"
mark_bytes m.Ampersand = codes "&"
mark_bytes m.Bar = codes "|"
mark_bytes m.Caret = codes "^"
mark_bytes m.AndAnd = codes "&&"
mark_bytes m.OrOr = codes "||"
mark_bytes m.EqualEqual = codes "=="
mark_bytes m.Equal = codes "="
mark_bytes m.BangEqual = codes "!="
mark_bytes m.LessGreater = codes "<>"
mark_bytes m.Less = codes "<"
mark_bytes m.LessEqual = codes "<="
mark_bytes m.Greater = codes ">"
mark_bytes m.GreaterEqual = codes ">="
mark_bytes m.ShiftLeft = codes "<<"
mark_bytes m.ShiftRight = codes ">>"
mark_bytes m.AndNot = codes "&^"
mark_bytes m.Bang = codes "!"
mark_bytes m.Open = codes "("
mark_bytes m.Close = codes ")"
mark_bytes m.Comma = codes ","
mark_bytes m.Semicolon = codes ";"
mark_bytes m.Dot = codes "."

-- no longer mark stands at the front of the text
abbrev pub IsLongest : Mark → List ℕ → Type 0
IsLongest mark text = (other : Mark) (rest : List ℕ) → text ≡ mark_bytes other ++ rest → length (mark_bytes other) ≤ length (mark_bytes mark)

-- no mark stands there
abbrev pub HasNoMark : List ℕ → Type 0
HasNoMark text = (mark : Mark) (rest : List ℕ) → text ≡ mark_bytes mark ++ rest → ⊥

-- the mark that one byte is
abbrev pub mark_of_one : ℕ → Option Mark
mark_of_one a = if a == 43 then Some m.Plus else (if a == 45 then Some m.Minus else (if a == 42 then Some m.Star else (if a == 47 then Some m.Slash else (if a == 37 then Some m.Percent else (if a == 38 then Some m.Ampersand else (if a == 124 then Some m.Bar else (if a == 94 then Some m.Caret else (if a == 61 then Some m.Equal else (if a == 60 then Some m.Less else (if a == 62 then Some m.Greater else (if a == 33 then Some m.Bang else (if a == 40 then Some m.Open else (if a == 41 then Some m.Close else (if a == 44 then Some m.Comma else (if a == 59 then Some m.Semicolon else (if a == 46 then Some m.Dot else None))))))))))))))))

-- the mark that two bytes are
abbrev pub mark_of_two : ℕ → ℕ → Option Mark
mark_of_two a b = if a == 38 then (if b == 38 then Some m.AndAnd else (if b == 94 then Some m.AndNot else None)) else (if a == 124 then (if b == 124 then Some m.OrOr else None) else (if a == 61 then (if b == 61 then Some m.EqualEqual else None) else (if a == 33 then (if b == 61 then Some m.BangEqual else None) else (if a == 60 then (if b == 62 then Some m.LessGreater else (if b == 61 then Some m.LessEqual else (if b == 60 then Some m.ShiftLeft else None))) else (if a == 62 then (if b == 61 then Some m.GreaterEqual else (if b == 62 then Some m.ShiftRight else None)) else None)))))

-- a byte and the first of a text are no mark
abbrev pub HasNoPair : ℕ → List ℕ → Type 0
HasNoPair a rest = (b : ℕ) (behind : List ℕ) → rest ≡ b ∷ behind → mark_of_two a b ≡ None
