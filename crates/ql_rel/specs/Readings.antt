-- What is still to be counted where a text was read up to a place.
use Rattle.std.specs.Prelude.{ℕ, Bool, nat_lt, List}
use Rattle.ql_rel.specs.declared.text_limit.Place.{Place}
use Rattle.ql_rel.specs.declared.text_limit.Place.TheVariants as place
use Rattle.ql_rel.specs.declared.text_limit.Reading.{Reading}
use Rattle.ql_rel.specs.TextLimits.{outside, inside, escaped, most_open, most_brackets}

-- the bytes outside of strings, where the first byte stands at this place
abbrev pub outside_from : Place → List ℕ → List ℕ
outside_from place.Outside bytes = outside bytes
outside_from place.Inside bytes = inside bytes
outside_from place.Escaped bytes = escaped bytes

-- too many brackets will be open at once in the bytes behind
abbrev pub has_more : Reading → List ℕ → Bool
has_more reading bytes = nat_lt most_brackets (most_open reading.depth (outside_from reading.place bytes))
