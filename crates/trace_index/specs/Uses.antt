-- Where a key comes next in a trace, and where it came before.
use Rattle.std.specs.Prelude.{◌≡◌, ◌<◌, ◌≤◌, ℕ, zero, suc, ◌==◌, if◌then◌else◌, Option, Some, None}
use Rattle.std.specs.Prelude.{List, [], ◌∷◌, length, drop, slice_index}
use Rattle.engine_base.specs.declared.limits.TheConstants.{MAX_ACCESSES}

-- the least place that holds k, where the list begins at place n
abbrev pub next_place_in : ℕ → ℕ → List ℕ → Option ℕ
next_place_in n k [] = None
next_place_in n k (a ∷ xs) = if k == a then Some n else next_place_in (suc n) k xs

-- the least place from i on in the trace t that holds k
abbrev pub next_from : List ℕ → ℕ → ℕ → Option ℕ
next_from t i k = next_place_in i k (drop i t)

-- the least place after i that holds k, or none
abbrev pub next : List ℕ → ℕ → ℕ → Option ℕ
next t i k = next_from t (suc i) k

-- the greatest place below i that holds k, or none
abbrev pub last_below : List ℕ → ℕ → ℕ → Option ℕ
last_below t zero k = None
last_below t (suc i) k = if k == slice_index t i then Some i else last_below t i k

-- the number that stands for a use: one above its place, or 0 for none
abbrev pub number_of : Option ℕ → ℕ
number_of None = 0
number_of (Some p) = suc p

-- for each access of the trace t the number of a use of its key, and few enough of them
pub record AreUses (use_at : ℕ → ℕ → Option ℕ) (t numbers : List ℕ) : Type 0 where
  pub few : length t ≤ MAX_ACCESSES
  pub long : length numbers ≡ length t
  pub right : (i : ℕ) → i < length t → slice_index numbers i ≡ number_of (use_at i (slice_index t i))

-- the numbers of the next uses, and of the previous ones
abbrev pub AreNextUses : List ℕ → List ℕ → Type 0
AreNextUses t = AreUses (next t) t

abbrev pub ArePreviousUses : List ℕ → List ℕ → Type 0
ArePreviousUses t = AreUses (last_below t) t
