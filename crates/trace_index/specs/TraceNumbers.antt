-- The keys of a trace by number.
use Rattle.std.specs.Prelude.{◌≡◌, ℕ, suc, ◌==◌, true, if◌then◌else◌, List, [], ◌∷◌, length, map}
use Rattle.engine_base.specs.Keys.{has_key}
use Rattle.trace_index.specs.KeyPlaces.{number_of_key}
use Rattle.trace_index.specs.declared.key_places.KeyPlaces.{KeyPlaces}

-- k in front of the keys, unless it is one of them
abbrev pub keys_with : List ℕ → ℕ → List ℕ
keys_with keys k = if has_key k keys then keys else k ∷ keys

-- The keys given, and before them each other key of the trace once: the later it first comes, the further to the front.
abbrev pub first_comings : List ℕ → List ℕ → List ℕ
first_comings keys [] = keys
first_comings keys (k ∷ trace) = first_comings (keys_with keys k) trace

-- how many keys came before k
abbrev pub count_before : List ℕ → ℕ → ℕ
count_before [] k = 0
count_before (a ∷ keys) k = if k == a then length keys else count_before keys k

-- the number of a key of the trace: how many other keys first came before it
abbrev pub key_number : List ℕ → ℕ → ℕ
key_number trace = count_before (first_comings [] trace)

-- for each access the number of its key
abbrev pub numbers_of : List ℕ → List ℕ
numbers_of trace = map (key_number trace) trace

-- no two keys of the trace have the same number
abbrev pub NumbersDiffer : List ℕ → Type 0
NumbersDiffer trace = (a b : ℕ) → has_key a trace ≡ true → has_key b trace ≡ true
    → key_number trace a ≡ key_number trace b → a ≡ b

-- each of the keys has its number in the table, and no other key has one
abbrev pub HasNumbers : List ℕ → KeyPlaces → Type 0
HasNumbers keys seen = (k : ℕ) → number_of_key seen k ≡ (if has_key k keys then suc (count_before keys k) else 0)
