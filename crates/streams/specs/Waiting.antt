-- What is written through a buffer.
use Rattle.std.specs.Prelude.{◌≡◌, ◌++◌, List, ℕ, Option}
use Rattle.std.specs.Io.KnownBytes.{Appends}

-- these bytes are those that the writer got since old, and after them those that wait in the buffer
abbrev pub IsTextWritten : Option (List ℕ) → Option (List ℕ) → List ℕ → List ℕ → Type 0
IsTextWritten old new waiting bytes = (sent : List ℕ) × (bytes ≡ sent ++ waiting) × Appends old new sent
