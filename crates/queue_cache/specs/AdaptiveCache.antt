-- A cache with an adaptive window: what it shows after a list of accesses, one access as a step, its undo record, and how
-- the record undoes it. Keys are counted by sixteen counters for each entry and without a doorkeeper, as Caffeine does.
use Rattle.std.specs.Prelude.{◌≡◌, ◌≢◌, ◌⊎◌, ℕ, ◌≤◌, true, Option, Some, None, []}
pub use Rattle.engine_base.specs.declared.config.Config.{Config}
pub use Rattle.engine_base.specs.declared.outcome.Outcome.{Outcome}
pub use Rattle.engine_base.specs.declared.stats.Stats.{Stats}
use Rattle.engine_base.specs.Pace.{Pace}
use Rattle.engine_base.specs.Stats.{stats_of, stats_with, stats_without, IsCounted, IsTally}
use Rattle.engine_base.specs.Limited.{limited}
use Rattle.segments.specs.Items.{nodeless_item}
use Rattle.segments.specs.Queues.{queue_holding}
use Rattle.admission.specs.Frequency.{FrequencyData, empty_frequency, frequency_with, ages, halves, pace_of}
use Rattle.admission.specs.FreqRecord.{frequency_record, frequency_before, FitsRecord, size_of}
use Rattle.replacement.specs.Admission.{admits_in}
use Rattle.replacement.specs.PlanMoves.{leaver_in}
use Rattle.replacement.specs.Shape.{open_shape_of}
use Rattle.queue_cache.specs.declared.adaptive_cache.AdaptiveRecord.{AdaptiveRecord}
use Rattle.queue_cache.specs.Climber.{ClimbRules, caffeine_rules, first_window}
use Rattle.queue_cache.specs.AdaptiveWindow.{AdaptiveState, empty_adaptive, adaptive_act}
use Rattle.queue_cache.specs.WindowRecord.{window_record_of, window_undone, WindowFits}

pub record AdaptiveCacheState : Type 0 where
  pub rules : ClimbRules
  pub window : AdaptiveState
  pub frequency : FrequencyData
  pub stats : Stats

-- ---- one access: its key is recorded, and then it goes by the window in force

abbrev pub response_to : ℕ → AdaptiveCacheState → Outcome × AdaptiveState
response_to k d = adaptive_act d.rules (admits_in (Some (frequency_with k d.frequency))) (nodeless_item k) d.window

abbrev pub cache_after : ℕ → AdaptiveCacheState → AdaptiveCacheState
cache_after k d = record {
  rules = d.rules;
  window = (response_to k d).1;
  frequency = frequency_with k d.frequency;
  stats = stats_with (response_to k d).0 d.stats;
}

abbrev pub cache_access : ℕ → AdaptiveCacheState → Outcome × AdaptiveCacheState
cache_access k d = ((response_to k d).0, cache_after k d)

abbrev pub cache_count : AdaptiveCacheState → ℕ
cache_count d = d.stats.accesses

-- none is accepted after MAX_STEPS
abbrev pub cache_act : AdaptiveCacheState → ℕ → Option (Outcome × AdaptiveCacheState)
cache_act d k = limited cache_count cache_access d k

-- an empty cache, whose period may be chosen
abbrev pub empty_cache : Config → Option ℕ → AdaptiveCacheState
empty_cache c period = record {
  rules = caffeine_rules c.capacity c.main_percent period;
  window = empty_adaptive (caffeine_rules c.capacity c.main_percent period) (first_window c.capacity c.main_percent);
  frequency = empty_frequency (open_shape_of 4 c);
  stats = stats_of [];
}

-- ---- the record of an access

-- The record of an access to k, from the cache before it. It is this and nothing beside: its only lists are those of a
-- halving that the recording of the key brought.
abbrev pub cache_record_of : ℕ → AdaptiveCacheState → AdaptiveRecord
cache_record_of k d = record {
  counting = frequency_record k d.frequency;
  window = window_record_of d.rules (admits_in (Some (frequency_with k d.frequency))) (nodeless_item k) d.window;
}

-- an access may be refused memory: its key is not resident, or brings a halving, whose undo record it makes
abbrev pub cache_may_ask : AdaptiveCacheState → ℕ → Type 0
cache_may_ask d k =
    (queue_holding (nodeless_item k) d.window.queues ≡ None)
    ⊎ ((halves d.frequency ≡ true) × (ages k d.frequency ≡ true))

-- the state before the access, from its record and the state after it
abbrev pub cache_undone : AdaptiveRecord → AdaptiveCacheState → AdaptiveCacheState
cache_undone r d = record {
  rules = d.rules;
  window = window_undone r.window d.window;
  frequency = frequency_before r.counting d.frequency;
  stats = stats_without r.window.outcome d.stats;
}

-- undoing the access takes memory: an item left in it, which comes back
abbrev pub cache_asks : AdaptiveRecord → Type 0
cache_asks r = leaver_in r.window.access ≢ None

abbrev pub cache_words : AdaptiveRecord → ℕ
cache_words r = size_of r.counting

abbrev pub cache_pace : AdaptiveCacheState → Pace
cache_pace d = pace_of d.frequency

-- ---- what holds of a cache

-- there were no more halvings than accesses
pub record IsRunning (f : FrequencyData) (s : Stats) : Type 0 where
  pub counts : IsTally s
  pub halvings : f.halvings ≤ s.accesses

-- each part of the record fits in its turn, and what undoing it leaves holds of a cache
pub record CacheFits (r : AdaptiveRecord) (d : AdaptiveCacheState) : Type 0 where
  pub window : WindowFits d.rules r.window d.window
  pub counting : FitsRecord r.counting d.frequency
  pub counted : IsCounted r.window.outcome d.stats
  pub before : IsRunning (frequency_before r.counting d.frequency) (stats_without r.window.outcome d.stats)
