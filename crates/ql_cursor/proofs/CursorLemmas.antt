-- What is known of the token at a cursor.
use Rattle.std.proofs.Common.{◌≡◌, true, List, ℕ, ◌+◌, ◌-◌, [], ◌∷◌, ◌++◌, All, IsTrue, Option, Some, None, MatchOption, take, drop, reverse, option_to_list, refl}
use Rattle.std.proofs.lemmas.List.{reverse-append}
use Rattle.std.proofs.lemmas.List.Elements.{All-head, All-drop}
use Rattle.ql_lex.specs.Tokens.{IsIn, IsName, IsSpelled, spelling_of}
use Rattle.ql_lex.specs.Numbers.{is_number}
use Rattle.ql_lex.specs.declared.token.Token.{Token}
use Rattle.ql_lex.specs.declared.token.TokenKind.{TokenKind}
use Rattle.ql_lex.specs.declared.token.TokenKind.TheVariants as kind
use Rattle.ql_syntax.specs.Lexemes.{lexemes, sees, is_name, is_number as is_number_token, kind_is_name, kind_is_number}

-- the first token stands on bytes of the source
pub head_in : (source : List ℕ) (t : Token) (tokens rest : List Token) → tokens ≡ t ∷ rest → All (IsIn source) tokens → IsIn source t
head_in source t tokens rest e all =
    let whole : All (IsIn source) (t ∷ rest) = rw e at all in
    All-head (IsIn source) t rest whole

spelled_name : (k : TokenKind) (text : List ℕ) → kind_is_name k ≡ true → IsSpelled k text → IsName text
spelled_name kind.Name text e h = h
spelled_name kind.Number text e h = cc
spelled_name kind.Text text e h = cc
spelled_name (kind.Mark m) text e h = cc
spelled_name (kind.Word w) text e h = cc

spelled_number : (k : TokenKind) (text : List ℕ) → kind_is_number k ≡ true → IsSpelled k text → IsTrue (is_number text)
spelled_number kind.Name text e h = cc
spelled_number kind.Number text e h = h
spelled_number kind.Text text e h = cc
spelled_number (kind.Mark m) text e h = cc
spelled_number (kind.Word w) text e h = cc

-- a name at the front is spelled as one
pub head_name : (source : List ℕ) (t : Token) (tokens rest : List Token) → tokens ≡ t ∷ rest → All (IsIn source) tokens → sees is_name (lexemes source tokens) ≡ true → IsName (spelling_of source t)
head_name source t tokens rest e all f =
    let g : kind_is_name t.kind ≡ true = rw e at f in
    spelled_name t.kind (spelling_of source t) g (head_in source t tokens rest e all).spelled

-- a number at the front is spelled as one
pub head_number : (source : List ℕ) (t : Token) (tokens rest : List Token) → tokens ≡ t ∷ rest → All (IsIn source) tokens → sees is_number_token (lexemes source tokens) ≡ true → IsTrue (is_number (spelling_of source t))
head_number source t tokens rest e all f =
    let g : kind_is_number t.kind ≡ true = rw e at f in
    spelled_number t.kind (spelling_of source t) g (head_in source t tokens rest e all).spelled

-- without the last token, the tokens in reverse order are those behind the first
pub behind_next : (old now : List Token) (last : Option Token) (n k : ℕ) → old ≡ now ++ option_to_list last → MatchOption last ((n ≡ 0) × (k ≡ 0)) (λ t. k + 1 ≡ n) → now ≡ take (n - 1) old → reverse now ≡ drop 1 (reverse old)
behind_next old now None n k e h r =
    let none : now ≡ [] = rw h.0 at r in
    rw (e, none) refl
behind_next old now (Some t) n k e h r = rw (e, reverse-append now (t ∷ [])) refl

-- and they stand on bytes of the source as before
pub all_behind : (source : List ℕ) (old now : List Token) (last : Option Token) (n k : ℕ) → old ≡ now ++ option_to_list last → MatchOption last ((n ≡ 0) × (k ≡ 0)) (λ t. k + 1 ≡ n) → now ≡ take (n - 1) old → All (IsIn source) (reverse old) → All (IsIn source) (reverse now)
all_behind source old now last n k e h r all = rw (behind_next old now last n k e h r) (All-drop (IsIn source) 1 (reverse old) all)
