-- Sets of keys as ascending lists.
use Rattle.std.specs.Prelude.{ℕ, ◌<◌, nat_lt, cond, List, [], ◌∷◌}

-- the residents with k among them
abbrev pub residents_with : ℕ → List ℕ → List ℕ
residents_with k [] = k ∷ []
residents_with k (a ∷ xs) = cond (nat_lt k a) (k ∷ a ∷ xs) (a ∷ residents_with k xs)

-- each key of the list is above k
abbrev pub IsBelowAll : ℕ → List ℕ → Type 0
IsBelowAll k [] = Unit {0}
IsBelowAll k (a ∷ xs) = (k < a) × IsBelowAll k xs

-- each key of the list is above those before it
abbrev pub IsAscendingKeys : List ℕ → Type 0
IsAscendingKeys [] = Unit {0}
IsAscendingKeys (a ∷ xs) = IsBelowAll a xs × IsAscendingKeys xs
