-- The undo record of an access, as a function of the trace's place and the residents before it.
use Rattle.std.specs.Prelude.{◌≡◌, ℕ, suc, ◌-◌, ◌≤◌, nat_lt, cond, eqb, List, length, slice_index}
use Rattle.engine_base.specs.declared.outcome.Outcome.TheVariants as outcome
use Rattle.engine_base.specs.Stats.{stats_without}
use Rattle.engine_base.specs.Keys.{has_key, keys_without}
pub use Rattle.clairvoyant.specs.declared.optimal_record.OptimalRecord.{OptimalRecord}
use Rattle.clairvoyant.specs.declared.optimal_record.OptimalRecord.TheVariants.{Hit, Kept, Evicted, Rejected}
use Rattle.clairvoyant.specs.Keys.{residents_with}
use Rattle.clairvoyant.specs.Ranks.{rank}
use Rattle.clairvoyant.specs.Belady.{Outcome, farthest, belady_residents}
use Rattle.clairvoyant.specs.Clairvoyant.{ClairvoyantState}

-- the record where k came to a full cache at place i, and v is the one to leave
abbrev pub record_full : List ℕ → ℕ → ℕ → ℕ → OptimalRecord
record_full t i k v = cond (eqb k v) (Rejected k) (Evicted record { key = v; rank = rank t (suc i) v })

-- the record of an access to k at place i, from the residents before it
abbrev pub use_record_of : ℕ → List ℕ → ℕ → ℕ → List ℕ → OptimalRecord
use_record_of c t i k r =
    cond (has_key k r) Hit (cond (nat_lt (length r) c) Kept (record_full t i k (farthest t i k r)))

-- the record of the access at place i of the trace, in a cache of capacity c
abbrev pub record_at : ℕ → List ℕ → ℕ → OptimalRecord
record_at c t i = use_record_of c t i (slice_index t i) (belady_residents c t i)

abbrev pub outcome_of : OptimalRecord → Outcome
outcome_of Hit = outcome.Hit
outcome_of Kept = outcome.Kept
outcome_of (Evicted g) = outcome.Evicted g.key
outcome_of (Rejected k) = outcome.Rejected k

-- the residents before an access to k, from those after it
abbrev pub undone_keys : OptimalRecord → ℕ → List ℕ → List ℕ
undone_keys Hit k l = l
undone_keys Kept k l = keys_without k l
undone_keys (Evicted g) k l = residents_with g.key (keys_without k l)
undone_keys (Rejected j) k l = l

abbrev pub clairvoyant_undone : OptimalRecord → ClairvoyantState → ClairvoyantState
clairvoyant_undone r d = record {
  trace = d.trace;
  capacity = d.capacity;
  residents = undone_keys r (slice_index d.trace (d.stats.accesses - 1)) d.residents;
  stats = stats_without (outcome_of r) d.stats;
}

-- the record is that of the last access
pub record ClairvoyantFits (r : OptimalRecord) (d : ClairvoyantState) : Type 0 where
  pub applied : 1 ≤ d.stats.accesses
  pub last : r ≡ record_at d.capacity d.trace (d.stats.accesses - 1)
