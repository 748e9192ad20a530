-- Words read one after another, and a name found among several.
use Rattle.std.specs.Prelude.{ℕ, Option, Some, None, List, [], ◌∷◌, if◌then◌else◌}
use Rattle.std.specs.Str.{bytes_eq}

infixl 10 ◌>>=◌
abbrev pub ◌>>=◌ : {A B : Type 0} → Option A → (A → Option B) → Option B
None >>= f = None
(Some x) >>= f = f x

-- what is read of some words, and the words after it
abbrev pub Reads : Type 0 → Type 0
Reads A = List (List ℕ) → Option (A × List (List ℕ))

abbrev pub with_rest : {A : Type 0} → List (List ℕ) → Option A → Option (A × List (List ℕ))
with_rest ws None = None
with_rest ws (Some x) = Some (x, ws)

-- where no word is left
abbrev pub at_end : {A : Type 0} → A × List (List ℕ) → Option A
at_end (x, []) = Some x
at_end (x, (w ∷ ws)) = None

-- the first of these names that is spelled so
abbrev pub first_named : {N : Type 0} → (N → List ℕ) → List N → List ℕ → Option N
first_named spelling [] word = None
first_named spelling (n ∷ ns) word = if bytes_eq (spelling n) word then Some n else first_named spelling ns word
