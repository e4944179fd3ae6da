-- Numbers in bytes, the highest byte first.
use Rattle.std.specs.Prelude.{ℕ, List}
use Rattle.byteorder.specs.Endian.{big_bytes, big_number}

-- a number in so many bytes
unfoldable pub as_bytes : ℕ → ℕ → List ℕ
as_bytes count n = big_bytes count n

-- the number in the first so many bytes
unfoldable pub number_in : ℕ → List ℕ → ℕ
number_in count bytes = big_number count bytes
