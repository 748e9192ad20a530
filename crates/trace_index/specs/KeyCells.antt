-- A table of keys and their numbers, by a hash.
use Rattle.std.specs.Prelude.{◌≡◌, ◌≢◌, ℕ, zero, suc, ◌+◌, ◌-◌, ◌*◌, ◌/◌, ◌%◌, ◌^◌, ◌<◌, ◌≤◌, Bool, ◌&&◌, nat_le, eqb, cond, min, max, List, [], ◌∷◌, length, slice_index}
use Rattle.trace_index.specs.declared.key_cells.TheConstants.{WINDOW, MIN_HOMES, MAX_HOMES}

-- a number, or the other one where it is 0
abbrev pub number_or : ℕ → ℕ → ℕ
number_or zero other = other
number_or (suc p) other = suc p

-- the number that a cell has for k
abbrev pub number_at : List ℕ → List ℕ → ℕ → ℕ → ℕ
number_at keys numbers p k = cond (eqb (slice_index keys p) k) (slice_index numbers p) 0

-- the number that the first p cells have for k
abbrev pub number_below : List ℕ → List ℕ → ℕ → ℕ → ℕ
number_below keys numbers zero k = 0
number_below keys numbers (suc p) k = number_or (number_at keys numbers p k) (number_below keys numbers p k)

abbrev pub number_among : List ℕ × List ℕ → ℕ → ℕ
number_among cells k = number_below cells.0 cells.1 (length cells.0) k

-- the home of a key among so many homes: the upper bits of its product by a number near 2^64 over the golden ratio (Knuth's
-- multiplicative hashing), taken to these
abbrev pub home : ℕ → ℕ → ℕ
home homes key = ((key * 11400714819323198485) % 2 ^ 64 / 2 ^ 32 * homes) % 2 ^ 64 / 2 ^ 32

-- how many cells are taken
abbrev pub taken : List ℕ → ℕ
taken [] = 0
taken (zero ∷ numbers) = taken numbers
taken (suc n ∷ numbers) = suc (taken numbers)

-- the homes among so many cells: behind the last one there is a window
abbrev pub homes_among : ℕ → ℕ
homes_among cells = cells - WINDOW

-- how many cells the next table has: a ninth more homes
abbrev pub len_of_larger : ℕ → ℕ
len_of_larger cells = max MIN_HOMES (min (homes_among cells) MAX_HOMES / 9 * 10) + WINDOW

-- as many cells are taken as five homes in six, and a table of so many homes grows
abbrev pub has_few_free : List ℕ → Bool
has_few_free numbers =
    nat_le (homes_among (length numbers) - homes_among (length numbers) / 6) (taken numbers)
    && nat_le (homes_among (length numbers)) MAX_HOMES

-- each key stands once, at its home or behind it within the window, with no empty cell between
pub record IsTable (homes : ℕ) (keys numbers : List ℕ) : Type 0 where
  pub each : length numbers ≡ length keys
  pub behind : (p : ℕ) → slice_index numbers p ≢ 0 → home homes (slice_index keys p) ≤ p
  pub near : (p : ℕ) → slice_index numbers p ≢ 0 → p < home homes (slice_index keys p) + WINDOW
  pub joined : (p q : ℕ) → slice_index numbers p ≢ 0 → home homes (slice_index keys p) ≤ q → q < p
      → slice_index numbers q ≢ 0
  pub once : (p q : ℕ) → slice_index numbers p ≢ 0 → slice_index numbers q ≢ 0 → slice_index keys p ≡ slice_index keys q
      → p ≡ q

-- what holds of the fields of a table
pub record AreCells (homes count : ℕ) (keys numbers : List ℕ) : Type 0 where
  pub table : IsTable homes keys numbers
  pub long : homes ≡ homes_among (length numbers)
  pub few : homes ≤ MAX_HOMES / 9 * 10
  pub counted : count ≡ taken numbers

-- the first place from one to another that has the key or is empty, or the end
pub record IsPlace (keys numbers : List ℕ) (from end key place : ℕ) : Type 0 where
  pub within : place ≤ end
  pub behind : place < end → from ≤ place
  pub taken : (q : ℕ) → from ≤ q → q < place → slice_index numbers q ≢ 0
  pub others : (q : ℕ) → from ≤ q → q < place → slice_index keys q ≢ key
  pub stops : place < end → slice_index numbers place ≢ 0 → slice_index keys place ≡ key
