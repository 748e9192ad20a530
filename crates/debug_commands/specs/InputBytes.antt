-- One line of the input, as it is read.
use Rattle.std.specs.Prelude.{◌≡◌, ℕ, Bool, true, false, Option, List, [], ◌∷◌, ◌++◌, length}
use Rattle.std.specs.Io.KnownBytes.{Consumes}
use Rattle.streams.specs.Feeds.{HasNoFeed}

-- the line feed, where the line has one
abbrev pub feed : Bool → List ℕ
feed true = 10 ∷ []
feed false = []

-- the bytes that are left begin with a line of more than this number of bytes
pub record IsTooLarge (room : ℕ) (old new : Option (List ℕ)) : Type 0 where
  pub front : List ℕ
  pub byte : ℕ
  pub feeds : HasNoFeed front
  pub full : length front ≡ room
  pub consumed : Consumes old new (front ++ byte ∷ [])
