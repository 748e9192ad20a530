-- A set of numbers as the bits of words, under the places of the words that are not 0.
use Rattle.std.specs.Prelude.{◌≡◌, ℕ, ◌≤◌, Bool, false, not, eqb, List, length, slice_index, slice_index_or}

-- the layer above holds the places of the words that are not 0
pub record IsBitLayer (words : List ℕ) (n : ℕ) (held : ℕ → Bool) : Type 0 where
  pub long : length words ≤ n
  pub some : (w : ℕ) → held w ≡ not (eqb (slice_index words w) 0)

-- q is in the set of which these are the tests
abbrev pub is_in_set : List Bool → ℕ → Bool
is_in_set tests q = slice_index_or tests q false
