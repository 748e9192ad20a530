-- How good an estimate is.
use Rattle.std.specs.Prelude.{◌≡◌, ℕ, ◌+◌, ◌*◌, ◌/◌, ◌<◌, ◌≤◌, ◌==◌, ◌&&◌, min, Bool, true, false, List, [], length}
use Rattle.std.specs.Prelude.{count_by}
use Rattle.sketch.specs.Columns.{Spread, column}
use Rattle.sketch.specs.Sketch.{least_counter, IsTable}
use Rattle.admission.specs.Shape.{Shape, IsShape, IsSized}
use Rattle.admission.specs.Eras.{halvings, this_era}
use Rattle.admission.specs.Doorkeeper.{probe, is_probe}
use Rattle.admission.specs.Frequency.{FrequencyData, IsFrequencyOf, IsFrequency, frequency_of, frequency_with}
use Rattle.admission.specs.Frequency.{start, noted, ages, halves, empty_frequency, frequency_from, estimate}
use Rattle.admission_laws.specs.Exact.{records_of, exact_estimate}

-- The data of a list of keys are what recording them one after another gives, from the data of no key.
abbrev pub ListsAreRecorded : Type 0
ListsAreRecorded = (s : Shape) (keys : List ℕ) → IsSized s
    → frequency_of s keys ≡ frequency_from (empty_frequency s) keys

-- An estimate is at least what an exact count of the same eras gives: the error of a Count-Min sketch has one side
-- (Cormode and Muthukrishnan 2005).
abbrev pub EstimatesAreNeverLow : Type 0
EstimatesAreNeverLow = (c : ℕ) (spread : Spread) (keys : List ℕ) (f : FrequencyData) (key : ℕ)
    → IsFrequencyOf c spread keys f → exact_estimate c keys key ≤ estimate key f

-- So it is at least the number of the key's records since the last halving, up to 16.
abbrev pub EstimatesCountTheEra : Type 0
EstimatesCountTheEra = (c : ℕ) (spread : Spread) (keys : List ℕ) (f : FrequencyData) (key : ℕ)
    → IsFrequencyOf c spread keys f → min 16 (records_of key (this_era c keys)) ≤ estimate key f

-- how many of the recorded keys have the key's column in a row
abbrev pub colliding : Shape → ℕ → ℕ → List ℕ → ℕ
colliding s key row keys =
    count_by (λ k. column s.spread k row s.width == column s.spread key row s.width) keys

-- It is at most 16, and in each row at most the counter when the era began, the era's records that have the key's
-- column there, and 1 for the doorkeeper.
pub record EstimatesAreBounded : Type 0 where
  pub small : (c : ℕ) (spread : Spread) (keys : List ℕ) (f : FrequencyData) (key : ℕ)
      → IsFrequencyOf c spread keys f → estimate key f ≤ 16
  pub by_row : (s : Shape) (keys : List ℕ) (key row : ℕ) → IsShape s → row < 4
      → estimate key (frequency_of s keys)
      ≤ start s (halvings s.capacity (length keys)) keys row (column s.spread key row s.width)
      + colliding s key row (this_era s.capacity keys) + 1

-- A key collides with none where in some row no other recorded key has its column, and one of its three bits is no
-- other's.
pub record CollidesWithNone (s : Shape) (keys : List ℕ) (key : ℕ) : Type 0 where
  pub row : ℕ
  pub row_below : row < 4
  pub own_column : (k : ℕ) → 1 ≤ records_of k keys
      → column s.spread k row s.width ≡ column s.spread key row s.width → k ≡ key
  pub bit : ℕ
  pub bit_below : bit < 3
  pub own_bit : (k : ℕ) → 1 ≤ records_of k keys
      → is_probe s.spread s.size k (probe s.spread key bit s.size) ≡ true → k ≡ key

-- The estimate of such a key is the exact count.
abbrev pub EstimatesAreExact : Type 0
EstimatesAreExact = (s : Shape) (keys : List ℕ) (key : ℕ) → IsShape s → CollidesWithNone s keys key
    → estimate key (frequency_of s keys) ≡ exact_estimate s.capacity keys key

-- What recording a key does to estimates, where it brings no halving and where it brings one. A halving leaves the half
-- of the least counter, so no estimate falls below the half of what it was, less 1.
pub record EstimatesRise : Type 0 where
  pub own : (f : FrequencyData) (key : ℕ) → IsFrequency f → halves f ≡ false
      → estimate key (frequency_with key f) ≡ min 16 (estimate key f + 1)
  pub others : (f : FrequencyData) (key other : ℕ) → IsFrequency f → halves f ≡ false
      → estimate other f ≤ estimate other (frequency_with key f)
  pub halved : (f : FrequencyData) (key other : ℕ) → IsFrequency f → halves f ≡ true
      → estimate other (frequency_with key f) ≡ least_counter other (noted key f).table / 2
  pub half : (f : FrequencyData) (key other : ℕ) → IsFrequency f → halves f ≡ true
      → estimate other f ≤ 2 * estimate other (frequency_with key f) + 2

-- ---- without a doorkeeper

-- Which halving comes when, and which age it leaves, hangs on the counters then: a list of keys has no eras, and the
-- laws are of any data, and of the keys that are recorded from there on.

-- what the data of every frequency without a doorkeeper are: that has no bits
pub record IsOpenFrequency (f : FrequencyData) : Type 0 where
  pub table : IsTable f.table
  pub size : f.door.size ≡ 0
  pub bits : f.door.bits ≡ []

-- whether recording the key brings a halving
abbrev pub brings_halving : ℕ → FrequencyData → Bool
brings_halving key f = ages key f && halves f

-- What recording a key does to estimates, which are 1 above the least counter. A key that does not age has full
-- counters, so its estimate stays at 16.
pub record OpenEstimatesRise : Type 0 where
  pub own : (f : FrequencyData) (key : ℕ) → IsOpenFrequency f → brings_halving key f ≡ false
      → estimate key (frequency_with key f) ≡ min 16 (estimate key f + 1)
  pub others : (f : FrequencyData) (key other : ℕ) → IsOpenFrequency f → brings_halving key f ≡ false
      → estimate other f ≤ estimate other (frequency_with key f)
  pub halved : (f : FrequencyData) (key other : ℕ) → IsOpenFrequency f → brings_halving key f ≡ true
      → estimate other (frequency_with key f) ≡ least_counter other (noted key f).table / 2 + 1
  pub stays : (f : FrequencyData) (key : ℕ) → IsOpenFrequency f → IsOpenFrequency (frequency_with key f)

-- So while no halving comes, a key's estimate rises by at least the number of its records, up to 16.
abbrev pub OpenEstimatesCount : Type 0
OpenEstimatesCount = (f : FrequencyData) (keys : List ℕ) (key : ℕ) → IsOpenFrequency f
    → (frequency_from f keys).halvings ≡ f.halvings
    → min 16 (estimate key f + records_of key keys) ≤ estimate key (frequency_from f keys)
