-- The words of a line. (Rule of this project: they are separated by spaces alone.)
use Rattle.std.specs.Prelude.{ℕ, ◌==◌, Bool, List, [], ◌∷◌, None, length, nat_lt}
use Rattle.std.specs.List.{filter, slice_split}
use Rattle.streams.specs.Numbers.{number_of}
use Rattle.streams.specs.Reads.{with_rest, Reads}

abbrev pub is_word : List ℕ → Bool
is_word w = nat_lt 0 (length w)

-- the words of a text: what stands between spaces (32) and is not empty
abbrev pub words_in : List ℕ → List (List ℕ)
words_in text = filter is_word (slice_split (λ b. b == 32) text)

-- the number that stands next
unfoldable pub number_at : Reads ℕ
number_at [] = None
number_at (w ∷ ws) = with_rest ws (number_of w)
