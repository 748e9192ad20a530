-- What is known of W-TinyLFU with an adaptive window, whatever the admission filter says.
use Rattle.std.specs.Prelude.{◌≡◌, ℕ, ◌+◌, ◌*◌, ◌≤◌, nat_lt, Bool, cond, Option, List, [], ◌∷◌, count_by}
use Rattle.engine_base.specs.Stats.{is_hit, is_miss, is_eviction, one_if}
use Rattle.segments.specs.Items.{Item, is_same_item}
use Rattle.segments.specs.Queues.{total_items}
use Rattle.replacement.specs.Counts.{queue_occurrences}
use Rattle.queue_cache.specs.Climber.{ClimbRules, AreClimbRules, caffeine_rules, first_window}
use Rattle.queue_cache.specs.Resizing.{max_size_change}
use Rattle.queue_cache.specs.AdaptiveWindow.{Outcome, AdaptiveState, empty_adaptive, adaptive_act, IsAdaptive}
use Rattle.queue_cache.specs.WindowRecord.{window_record_of, window_undone}

-- An access is undone from its record and the state after it.
abbrev pub AdaptiveUndoes : Type 0
AdaptiveUndoes = (r : ClimbRules) (admits : ℕ → ℕ → Bool) (i : Item) (s : AdaptiveState) → IsAdaptive r s
    → window_undone (window_record_of r admits i s) (adaptive_act r admits i s).1 ≡ s

-- What an access to an item, whose outcome is o, took a state to.
pub record IsAdaptiveAccess (i : Item) (old : AdaptiveState) (o : Outcome) (new : AdaptiveState) : Type 0 where
  pub hits : is_hit o ≡ nat_lt 0 (queue_occurrences i old.queues)
  pub counts : total_items new.queues + one_if (is_eviction o) ≡ total_items old.queues + one_if (is_miss o)
  -- no item came but this
  pub came : (j : Item)
      → queue_occurrences j new.queues ≤ queue_occurrences j old.queues + cond (is_same_item j i) 1 0
  -- the size changed by so many items at most
  pub size : (new.size ≤ old.size + max_size_change) × (old.size ≤ new.size + max_size_change)

pub record KeepsAdaptive (r : ClimbRules) (size : ℕ) : Type 0 where
  pub starts : IsAdaptive r (empty_adaptive r size)
  pub keeps : (admits : ℕ → ℕ → Bool) (i : Item) (s : AdaptiveState) → IsAdaptive r s
      → IsAdaptive r (adaptive_act r admits i s).1
  pub accesses : (admits : ℕ → ℕ → Bool) (i : Item) (s : AdaptiveState) → IsAdaptive r s
      → IsAdaptiveAccess i s (adaptive_act r admits i s).0 (adaptive_act r admits i s).1
  pub fits : (s : AdaptiveState) → IsAdaptive r s → total_items s.queues ≤ r.capacity
  -- from that access of a period on, the size in force is the target
  pub reached : (s : AdaptiveState) → IsAdaptive r s → r.capacity ≤ max_size_change * s.climber.accesses
      → s.size ≡ s.climber.target

-- for all rules, and each size at first
abbrev pub AdaptiveKeeps : Type 0
AdaptiveKeeps = (r : ClimbRules) (size : ℕ) → AreClimbRules r → 1 ≤ size → size ≤ r.largest → KeepsAdaptive r size

-- ---- over accesses, each with what the filter says then

pub record Access : Type 0 where
  pub admits : ℕ → ℕ → Bool
  pub item : Item

abbrev pub adaptive_state_after : ClimbRules → AdaptiveState → List Access → AdaptiveState
adaptive_state_after r s [] = s
adaptive_state_after r s (a ∷ l) = adaptive_state_after r (adaptive_act r a.admits a.item s).1 l

abbrev pub adaptive_outcomes : ClimbRules → AdaptiveState → List Access → List Outcome
adaptive_outcomes r s [] = []
adaptive_outcomes r s (a ∷ l) =
    (adaptive_act r a.admits a.item s).0 ∷ adaptive_outcomes r (adaptive_act r a.admits a.item s).1 l

-- The items are the misses minus the evictions, rejected ones too.
abbrev pub AdaptiveCounts : Type 0
AdaptiveCounts = (r : ClimbRules) (size : ℕ) (accesses : List Access) → AreClimbRules r → 1 ≤ size → size ≤ r.largest
    → total_items (adaptive_state_after r (empty_adaptive r size) accesses).queues
    + count_by is_eviction (adaptive_outcomes r (empty_adaptive r size) accesses)
    ≡ count_by is_miss (adaptive_outcomes r (empty_adaptive r size) accesses)

-- The rules of each capacity and main part are such, and the window at first is one of theirs.
abbrev pub RulesFit : Type 0
RulesFit = (c main : ℕ) (period : Option ℕ) → 1 ≤ c → main ≤ 99 → AreClimbRules (caffeine_rules c main period)
    × ((1 ≤ first_window c main) × (first_window c main ≤ (caffeine_rules c main period).largest))
