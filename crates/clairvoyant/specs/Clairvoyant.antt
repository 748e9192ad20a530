-- What a cache that knows the trace shows.
use Rattle.std.specs.Prelude.{◌≡◌, ℕ, ◌≤◌, nat_lt, Bool, cond, eqb, ◌&&◌, Option, Some, None}
use Rattle.std.specs.Prelude.{List, length, slice_index}
use Rattle.engine_base.specs.declared.limits.TheConstants.{MAX_ACCESSES, MAX_STEPS}
pub use Rattle.engine_base.specs.declared.outcome.Outcome.{Outcome}
pub use Rattle.engine_base.specs.declared.stats.Stats.{Stats}
use Rattle.engine_base.specs.Stats.{stats_of, stats_with}
use Rattle.clairvoyant.specs.Belady.{belady_residents_after, belady_answer, belady_residents, belady_outcomes}

pub record ClairvoyantState : Type 0 where
  pub trace : List ℕ
  pub capacity : ℕ
  pub residents : List ℕ
  pub stats : Stats

-- a cache of capacity c once the accesses below place i of the trace are made
abbrev pub clairvoyant_at : ℕ → List ℕ → ℕ → ClairvoyantState
clairvoyant_at c t i =
    record { trace = t; capacity = c; residents = belady_residents c t i; stats = stats_of (belady_outcomes c t i) }

-- the first accesses of the trace give it
pub record IsBeladyReached (d : ClairvoyantState) : Type 0 where
  pub gives : d ≡ clairvoyant_at d.capacity d.trace d.stats.accesses
  pub within : d.stats.accesses ≤ length d.trace
  pub short : length d.trace ≤ MAX_ACCESSES
  pub room : 1 ≤ d.capacity

-- k is the trace's next access, and there is one more step to count
abbrev pub is_next : ClairvoyantState → ℕ → Bool
is_next d k =
    nat_lt d.stats.accesses MAX_STEPS
    && (nat_lt d.stats.accesses (length d.trace) && eqb k (slice_index d.trace d.stats.accesses))

abbrev pub clairvoyant_after : ClairvoyantState → ℕ → ClairvoyantState
clairvoyant_after d k = record {
  trace = d.trace;
  capacity = d.capacity;
  residents = belady_residents_after d.capacity d.trace d.stats.accesses k d.residents;
  stats = stats_with (belady_answer d.capacity d.trace d.stats.accesses k d.residents) d.stats;
}

abbrev pub clairvoyant_access : ℕ → ClairvoyantState → Outcome × ClairvoyantState
clairvoyant_access k d = (belady_answer d.capacity d.trace d.stats.accesses k d.residents, clairvoyant_after d k)

abbrev pub clairvoyant_act : ClairvoyantState → ℕ → Option (Outcome × ClairvoyantState)
clairvoyant_act d k = cond (is_next d k) (Some (clairvoyant_access k d)) None
