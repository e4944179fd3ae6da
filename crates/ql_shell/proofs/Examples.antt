-- What the definitions give on a few words.
use Rattle.std.proofs.Common.{◌≡◌, [], ◌∷◌, true, false, refl}
use Rattle.std.specs.Prelude.{codes}
use Rattle.ql_shell.specs.Words.{request, request_of, no_options, word_of, option_word, flag_named, is_yes_letter, is_yes_word, is_no_letter, is_no_word}
use Rattle.ql_shell.specs.declared.options.Options.{Options}
use Rattle.ql_shell.specs.declared.words.Command.TheVariants.{Usage, Text, Input}

abbrev with_names : Options
with_names = record { bare = false; with_names = true }

pub without_words : request_of [] ≡ request no_options Input
unfolding word_of option_word flag_named is_yes_letter is_yes_word is_no_letter is_no_word
without_words = refl

pub end_of_options : request_of (codes "--" ∷ []) ≡ request no_options Input
unfolding word_of option_word flag_named is_yes_letter is_yes_word is_no_letter is_no_word
end_of_options = refl

pub two_words : request_of (codes "SELECT" ∷ codes "1" ∷ []) ≡ request no_options (Text (codes "SELECT 1"))
unfolding word_of option_word flag_named is_yes_letter is_yes_word is_no_letter is_no_word
two_words = refl

pub behind_options : request_of (codes "--" ∷ codes "-x" ∷ codes "--" ∷ []) ≡ request no_options (Text (codes "-x --"))
unfolding word_of option_word flag_named is_yes_letter is_yes_word is_no_letter is_no_word
behind_options = refl

pub one_dash : request_of (codes "-" ∷ []) ≡ request no_options (Text (codes "-"))
unfolding word_of option_word flag_named is_yes_letter is_yes_word is_no_letter is_no_word
one_dash = refl

pub empty_word : request_of ([] ∷ []) ≡ request no_options (Text [])
unfolding word_of option_word flag_named is_yes_letter is_yes_word is_no_letter is_no_word
empty_word = refl

pub unknown_option : request_of (codes "-nope" ∷ codes "x" ∷ []) ≡ request no_options (Usage 1)
unfolding word_of option_word flag_named is_yes_letter is_yes_word is_no_letter is_no_word
unknown_option = refl

pub names_shown : request_of (codes "--fld=true" ∷ codes "x" ∷ []) ≡ request with_names (Text (codes "x"))
unfolding word_of option_word flag_named is_yes_letter is_yes_word is_no_letter is_no_word
names_shown = refl

pub last_counts : request_of (codes "-fld=F" ∷ codes "-fld" ∷ codes "--" ∷ []) ≡ request with_names Input
unfolding word_of option_word flag_named is_yes_letter is_yes_word is_no_letter is_no_word
last_counts = refl

pub wrong_value : request_of (codes "-fld" ∷ codes "--fld=yes" ∷ []) ≡ request with_names (Usage 2)
unfolding word_of option_word flag_named is_yes_letter is_yes_word is_no_letter is_no_word
wrong_value = refl

pub three_dashes : request_of (codes "---fld" ∷ []) ≡ request no_options (Usage 1)
unfolding word_of option_word flag_named is_yes_letter is_yes_word is_no_letter is_no_word
three_dashes = refl

abbrev without_level : Options
without_level = record { bare = true; with_names = true }

pub no_level : request_of (codes "--bare" ∷ codes "-fld=1" ∷ codes "x" ∷ []) ≡ request without_level (Text (codes "x"))
unfolding word_of option_word flag_named is_yes_letter is_yes_word is_no_letter is_no_word
no_level = refl
