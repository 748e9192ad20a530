-- The blanks at the ends of a line.
use Rattle.std.specs.Prelude.{ℕ, ◌==◌, ◌&&◌, ◌||◌, Bool, List, [], ◌∷◌, length, if◌then◌else◌}

-- a space, a tab or a carriage return
abbrev pub is_blank : ℕ → Bool
is_blank b = b == 32 || (b == 9 || b == 13)

abbrev pub is_empty : List ℕ → Bool
is_empty xs = length xs == 0

-- without the blanks at the front, and at the back
abbrev pub without_front : List ℕ → List ℕ
without_front [] = []
without_front (b ∷ bs) = if is_blank b then without_front bs else b ∷ bs

abbrev pub without_back : List ℕ → List ℕ
without_back [] = []
without_back (b ∷ bs) =
    if is_blank b && is_empty (without_back bs) then [] else b ∷ without_back bs

unfoldable pub trimmed_text : List ℕ → List ℕ
trimmed_text bs = without_back (without_front bs)
