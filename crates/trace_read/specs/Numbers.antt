-- Numbers as text.
use Rattle.std.specs.Prelude.{ℕ, List, ◌++◌, codes}
use Rattle.std.specs.Fmt.{decimal}
use Rattle.std.specs.List.{flat_map}

abbrev pub number_line : ℕ → List ℕ
number_line key = decimal key ++ codes "\n"

-- a number a line
unfoldable pub numbers_text : List ℕ → List ℕ
numbers_text keys = flat_map number_line keys
