-- Words that are gone over in order.
use Rattle.std.proofs.Common.{◌≡◌, ℕ, suc, Bool, List, [], ◌∷◌, sym, ap, ◌∙◌}
use Rattle.ql_shell.specs.declared.options.Flag.{Flag}
use Rattle.ql_shell.specs.declared.options.Options.{Options}
use Rattle.ql_shell.specs.declared.words.Command.TheVariants.{Usage, Input}
use Rattle.ql_shell.specs.declared.words.Request.{Request}
use Rattle.ql_shell.specs.declared.words.Word.{Word}
use Rattle.ql_shell.specs.declared.words.Word.TheVariants as word
use Rattle.ql_shell.specs.Words.{word_of, request, request_from, goes_on, with_flag, from_words}

-- what follows from words, by what the first of them is
turn : (number : ℕ) (options : Options) (w : List ℕ) (ws all : List (List ℕ)) (k : Word) → all ≡ w ∷ ws → word_of w ≡ k
    → request_from number options all ≡ goes_on number options k w ws (λ o. request_from (suc number) o ws)
turn number options w ws all k e is = rw e (ap (λ (z : Word). goes_on number options z w ws (λ o. request_from (suc number) o ws)) is)

pub at_unknown : (total : Request) (number : ℕ) (options : Options) (w : List ℕ) (ws all : List (List ℕ)) → request_from number options all ≡ total → all ≡ w ∷ ws → word_of w ≡ word.Unknown → request options (Usage number) ≡ total
at_unknown total number options w ws all h e is = sym (turn number options w ws all word.Unknown e is) ∙ h

pub at_end : (total : Request) (number : ℕ) (options : Options) (w : List ℕ) (ws all : List (List ℕ)) → request_from number options all ≡ total → all ≡ w ∷ ws → word_of w ≡ word.End → request options (from_words ws) ≡ total
at_end total number options w ws all h e is = sym (turn number options w ws all word.End e is) ∙ h

pub at_statement : (total : Request) (number : ℕ) (options : Options) (w : List ℕ) (ws all : List (List ℕ)) → request_from number options all ≡ total → all ≡ w ∷ ws → word_of w ≡ word.Statement → request options (from_words all) ≡ total
at_statement total number options w ws all h e is = ap (λ (z : List (List ℕ)). request options (from_words z)) e ∙ sym (turn number options w ws all word.Statement e is) ∙ h

pub at_flag : (total : Request) (number : ℕ) (options : Options) (w : List ℕ) (ws all : List (List ℕ)) (flag : Flag) (on : Bool) → request_from number options all ≡ total → all ≡ w ∷ ws → word_of w ≡ word.Flag flag on
    → request_from (suc number) (with_flag options flag on) ws ≡ total
at_flag total number options w ws all flag on h e is = sym (turn number options w ws all (word.Flag flag on) e is) ∙ h

pub at_last : (total : Request) (number : ℕ) (options : Options) (all : List (List ℕ)) → request_from number options all ≡ total → all ≡ [] → request options Input ≡ total
at_last total number options all h e = sym (ap (request_from number options) e) ∙ h
