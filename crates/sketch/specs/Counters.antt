-- Sixteen counters of four bits in a word: counter i of a list of words is digit i % 16 of word i / 16.
use Rattle.std.specs.Prelude.{ℕ, suc, zero, ◌/◌, ◌%◌, List, slice_index}

-- digit n of x, in base 16
unfoldable pub nibble : ℕ → ℕ → ℕ
nibble x zero = x % 16
nibble x (suc n) = nibble (x / 16) n

abbrev pub counter_at : List ℕ → ℕ → ℕ
counter_at words i = nibble (slice_index words (i / 16)) (i % 16)
