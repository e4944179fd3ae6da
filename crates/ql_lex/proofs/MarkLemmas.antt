-- The marks against the first two bytes of a text.
use Rattle.std.proofs.Common.{◌≡◌, ℕ, ◌≤◌, ◌⊎◌, List, [], ◌∷◌, ◌++◌, length, Some, None, refl, sym, ◌∙◌, ap, inl, inr, arith}
use Rattle.ql_lex.specs.declared.marks.Mark.{Mark}
use Rattle.ql_lex.specs.declared.marks.Mark.TheVariants as m
use Rattle.ql_lex.specs.Marks.{mark_bytes, mark_of_one, mark_of_two, IsLongest, HasNoMark, HasNoPair}

-- a mark is one byte
pub record IsOne (mark : Mark) : Type 0 where
  pub a : ℕ
  pub bytes : mark_bytes mark ≡ a ∷ []
  pub is : mark_of_one a ≡ Some mark

-- a mark is two bytes
pub record IsTwo (mark : Mark) : Type 0 where
  pub a : ℕ
  pub b : ℕ
  pub bytes : mark_bytes mark ≡ a ∷ b ∷ []
  pub is : mark_of_two a b ≡ Some mark

pub one_or_two : (mark : Mark) → IsOne mark ⊎ IsTwo mark
one_or_two m.Plus = inl (record { a = 43; bytes = refl; is = refl })
one_or_two m.Minus = inl (record { a = 45; bytes = refl; is = refl })
one_or_two m.Star = inl (record { a = 42; bytes = refl; is = refl })
one_or_two m.Slash = inl (record { a = 47; bytes = refl; is = refl })
one_or_two m.Percent = inl (record { a = 37; bytes = refl; is = refl })
one_or_two m.Ampersand = inl (record { a = 38; bytes = refl; is = refl })
one_or_two m.Bar = inl (record { a = 124; bytes = refl; is = refl })
one_or_two m.Caret = inl (record { a = 94; bytes = refl; is = refl })
one_or_two m.AndAnd = inr (record { a = 38; b = 38; bytes = refl; is = refl })
one_or_two m.OrOr = inr (record { a = 124; b = 124; bytes = refl; is = refl })
one_or_two m.EqualEqual = inr (record { a = 61; b = 61; bytes = refl; is = refl })
one_or_two m.Equal = inl (record { a = 61; bytes = refl; is = refl })
one_or_two m.BangEqual = inr (record { a = 33; b = 61; bytes = refl; is = refl })
one_or_two m.LessGreater = inr (record { a = 60; b = 62; bytes = refl; is = refl })
one_or_two m.Less = inl (record { a = 60; bytes = refl; is = refl })
one_or_two m.LessEqual = inr (record { a = 60; b = 61; bytes = refl; is = refl })
one_or_two m.Greater = inl (record { a = 62; bytes = refl; is = refl })
one_or_two m.GreaterEqual = inr (record { a = 62; b = 61; bytes = refl; is = refl })
one_or_two m.ShiftLeft = inr (record { a = 60; b = 60; bytes = refl; is = refl })
one_or_two m.ShiftRight = inr (record { a = 62; b = 62; bytes = refl; is = refl })
one_or_two m.AndNot = inr (record { a = 38; b = 94; bytes = refl; is = refl })
one_or_two m.Bang = inl (record { a = 33; bytes = refl; is = refl })
one_or_two m.Open = inl (record { a = 40; bytes = refl; is = refl })
one_or_two m.Close = inl (record { a = 41; bytes = refl; is = refl })
one_or_two m.Comma = inl (record { a = 44; bytes = refl; is = refl })
one_or_two m.Semicolon = inl (record { a = 59; bytes = refl; is = refl })
one_or_two m.Dot = inl (record { a = 46; bytes = refl; is = refl })

at_most_two : (mark : Mark) → IsOne mark ⊎ IsTwo mark → length (mark_bytes mark) ≤ 2
at_most_two mark (inl h) = rw h.bytes (omega arith)
at_most_two mark (inr h) = rw h.bytes (omega arith)

pub longest_two : (mark : Mark) (text : List ℕ) → length (mark_bytes mark) ≡ 2 → IsLongest mark text
longest_two mark text e other rest h = rw e (at_most_two other (one_or_two other))

longest_one_of : (mark : Mark) (a : ℕ) (rest text : List ℕ) → text ≡ a ∷ rest → HasNoPair a rest → mark_bytes mark ≡ a ∷ [] → (other : Mark) (behind : List ℕ) → text ≡ mark_bytes other ++ behind → IsOne other ⊎ IsTwo other → length (mark_bytes other) ≤ length (mark_bytes mark)
longest_one_of mark a rest text s none e other behind h (inl o) = rw (o.bytes, e) (omega arith)
longest_one_of mark a rest text s none e other behind h (inr o) =
    let both : a ∷ rest ≡ o.a ∷ o.b ∷ behind = sym s ∙ h ∙ ap (λ (x : List ℕ). x ++ behind) o.bytes in
    let tail : rest ≡ o.b ∷ behind = cc in
    let head : a ≡ o.a = cc in
    let no = none o.b behind tail in
    let yes = o.is in
    cc

pub one_front : (mark : Mark) (a : ℕ) (rest text : List ℕ) → text ≡ a ∷ rest → mark_bytes mark ≡ a ∷ [] → text ≡ mark_bytes mark ++ rest
one_front mark a rest text s e = rw (s, e) refl

pub longest_one : (mark : Mark) (a : ℕ) (rest text : List ℕ) → text ≡ a ∷ rest → HasNoPair a rest → mark_bytes mark ≡ a ∷ [] → IsLongest mark text
longest_one mark a rest text s none e other behind h = longest_one_of mark a rest text s none e other behind h (one_or_two other)

no_mark_of : (a : ℕ) (rest text : List ℕ) → text ≡ a ∷ rest → HasNoPair a rest → mark_of_one a ≡ None → (other : Mark) (behind : List ℕ) → text ≡ mark_bytes other ++ behind → IsOne other ⊎ IsTwo other → ⊥
no_mark_of a rest text s none e other behind h (inl o) =
    let both : a ∷ rest ≡ o.a ∷ behind = sym s ∙ h ∙ ap (λ (x : List ℕ). x ++ behind) o.bytes in
    let head : a ≡ o.a = cc in
    let yes = o.is in
    cc
no_mark_of a rest text s none e other behind h (inr o) =
    let both : a ∷ rest ≡ o.a ∷ o.b ∷ behind = sym s ∙ h ∙ ap (λ (x : List ℕ). x ++ behind) o.bytes in
    let tail : rest ≡ o.b ∷ behind = cc in
    let head : a ≡ o.a = cc in
    let no = none o.b behind tail in
    let yes = o.is in
    cc

pub no_mark : (a : ℕ) (rest text : List ℕ) → text ≡ a ∷ rest → HasNoPair a rest → mark_of_one a ≡ None → HasNoMark text
no_mark a rest text s none e other behind h = no_mark_of a rest text s none e other behind h (one_or_two other)

no_mark_none_of : (text : List ℕ) → text ≡ [] → (other : Mark) (behind : List ℕ) → text ≡ mark_bytes other ++ behind → IsOne other ⊎ IsTwo other → ⊥
no_mark_none_of text s other behind h (inl o) =
    let both : [] ≡ o.a ∷ behind = sym s ∙ h ∙ ap (λ (x : List ℕ). x ++ behind) o.bytes in cc
no_mark_none_of text s other behind h (inr o) =
    let both : [] ≡ o.a ∷ o.b ∷ behind = sym s ∙ h ∙ ap (λ (x : List ℕ). x ++ behind) o.bytes in cc

pub no_mark_none : (text : List ℕ) → text ≡ [] → HasNoMark text
no_mark_none text s other behind h = no_mark_none_of text s other behind h (one_or_two other)

same_mark_of : (x y : Mark) → mark_bytes x ≡ mark_bytes y → IsOne x ⊎ IsTwo x → IsOne y ⊎ IsTwo y → x ≡ y
same_mark_of x y e (inl o) (inl q) =
    let both : o.a ∷ [] ≡ q.a ∷ [] = sym o.bytes ∙ e ∙ q.bytes in
    let head : o.a ≡ q.a = cc in
    let one = o.is in
    let other = q.is in
    cc
same_mark_of x y e (inl o) (inr q) = let both : o.a ∷ [] ≡ q.a ∷ q.b ∷ [] = sym o.bytes ∙ e ∙ q.bytes in cc
same_mark_of x y e (inr o) (inl q) = let both : o.a ∷ o.b ∷ [] ≡ q.a ∷ [] = sym o.bytes ∙ e ∙ q.bytes in cc
same_mark_of x y e (inr o) (inr q) =
    let both : o.a ∷ o.b ∷ [] ≡ q.a ∷ q.b ∷ [] = sym o.bytes ∙ e ∙ q.bytes in
    let head : o.a ≡ q.a = cc in
    let next : o.b ≡ q.b = cc in
    let one = o.is in
    let other = q.is in
    cc

-- marks that are written alike are the same mark
pub same_mark : (x y : Mark) → mark_bytes x ≡ mark_bytes y → x ≡ y
same_mark x y e = same_mark_of x y e (one_or_two x) (one_or_two y)
