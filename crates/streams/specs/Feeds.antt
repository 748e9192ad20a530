-- The lines of a text, between line feeds (10).
use Rattle.std.specs.Prelude.{◌≡◌, ℕ, ◌==◌, false, List}
use Rattle.std.specs.List.{All, position_or_len, slice_split}

-- no byte is a line feed
abbrev pub HasNoFeed : List ℕ → Type 0
HasNoFeed = All (λ b. (b == 10) ≡ false)

-- where the first line feed is, or the length
abbrev pub feed_in : List ℕ → ℕ
feed_in = position_or_len (λ b. b == 10)

-- the pieces between line feeds
abbrev pub lines_of : List ℕ → List (List ℕ)
lines_of = slice_split (λ b. b == 10)
