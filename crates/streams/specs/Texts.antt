-- Pieces of text that several debuggers print. (Format of this project.)
use Rattle.std.specs.Prelude.{ℕ, List, ◌++◌}
use Rattle.std.specs.Fmt.{decimal}

-- a name, then a number
abbrev pub count_text : List ℕ → ℕ → List ℕ
count_text name n = name ++ decimal n
