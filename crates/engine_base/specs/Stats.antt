-- What is counted of a list of outcomes.
use Rattle.std.specs.Prelude.{◌≡◌, ℕ, ◌+◌, ◌-◌, ◌≤◌, Bool, true, false, cond, List, length, count_by}
use Rattle.engine_base.specs.declared.limits.TheConstants.{MAX_STEPS}
pub use Rattle.engine_base.specs.declared.outcome.Outcome.{Outcome}
use Rattle.engine_base.specs.declared.outcome.Outcome.TheVariants.{Hit, Kept, Evicted, Rejected}
use Rattle.engine_base.specs.declared.stats.Stats.{Stats}

abbrev pub is_hit : Outcome → Bool
is_hit Hit = true
is_hit Kept = false
is_hit (Evicted k) = false
is_hit (Rejected k) = false

abbrev pub is_miss : Outcome → Bool
is_miss Hit = false
is_miss Kept = true
is_miss (Evicted k) = true
is_miss (Rejected k) = true

-- a key left, or was not kept
abbrev pub is_eviction : Outcome → Bool
is_eviction Hit = false
is_eviction Kept = false
is_eviction (Evicted k) = true
is_eviction (Rejected k) = true

abbrev pub is_rejection : Outcome → Bool
is_rejection Hit = false
is_rejection Kept = false
is_rejection (Evicted k) = false
is_rejection (Rejected k) = true

abbrev pub stats_of : List Outcome → Stats
stats_of os = record {
  accesses = length os;
  hits = count_by is_hit os;
  misses = count_by is_miss os;
  evictions = count_by is_eviction os;
  rejections = count_by is_rejection os;
}

abbrev pub one_if : Bool → ℕ
one_if b = cond b 1 0

-- the counts with one outcome more
abbrev pub stats_with : Outcome → Stats → Stats
stats_with o s = record {
  accesses = s.accesses + 1;
  hits = s.hits + one_if (is_hit o);
  misses = s.misses + one_if (is_miss o);
  evictions = s.evictions + one_if (is_eviction o);
  rejections = s.rejections + one_if (is_rejection o);
}

-- the counts with one outcome less
abbrev pub stats_without : Outcome → Stats → Stats
stats_without o s = record {
  accesses = s.accesses - 1;
  hits = s.hits - one_if (is_hit o);
  misses = s.misses - one_if (is_miss o);
  evictions = s.evictions - one_if (is_eviction o);
  rejections = s.rejections - one_if (is_rejection o);
}

-- each count that the outcome raised is above 0
pub record IsCounted (o : Outcome) (s : Stats) : Type 0 where
  pub accesses : 1 ≤ s.accesses
  pub hits : one_if (is_hit o) ≤ s.hits
  pub misses : one_if (is_miss o) ≤ s.misses
  pub evictions : one_if (is_eviction o) ≤ s.evictions
  pub rejections : one_if (is_rejection o) ≤ s.rejections

-- no count is over that of the steps that an engine may apply
pub record IsSmall (s : Stats) : Type 0 where
  pub accesses : s.accesses ≤ MAX_STEPS
  pub hits : s.hits ≤ MAX_STEPS
  pub misses : s.misses ≤ MAX_STEPS
  pub evictions : s.evictions ≤ MAX_STEPS
  pub rejections : s.rejections ≤ MAX_STEPS

-- the counts of a run: each access is a hit or a miss
pub record IsTally (s : Stats) : Type 0 where
  pub whole : s.hits + s.misses ≡ s.accesses
  pub evictions : s.evictions ≤ s.misses
  pub rejections : s.rejections ≤ s.evictions
  pub few : s.accesses ≤ MAX_STEPS
