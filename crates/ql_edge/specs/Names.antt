-- How long a name is.
use Rattle.std.specs.Prelude.{ℕ}

-- how many bytes a name has at most
abbrev pub longest_name : ℕ
longest_name = 128
