-- Bits in words, 64 to a word: bit i of a list of words is bit i % 64 of word i / 64, and no bit past the end is set.
use Rattle.std.specs.Prelude.{ℕ, ◌*◌, ◌/◌, ◌%◌, Bool, ◌==◌, List, length, slice_index}
use Rattle.std.specs.Int.{bit_at}
use Rattle.engine_base.specs.Places.{by_place}

-- whether bit i is set
abbrev pub bit_of : List ℕ → ℕ → Bool
bit_of words i = bit_at (slice_index words (i / 64)) (i % 64) == 1

-- the bits of the words, in order
abbrev pub bits_of : List ℕ → List Bool
bits_of words = by_place (64 * length words) (bit_of words)
