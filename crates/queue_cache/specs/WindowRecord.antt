-- The undo record of an access with an adaptive window, and how it is undone: what followed the size first, then
-- the access.
use Rattle.std.specs.Prelude.{ℕ, ◌+◌, ◌-◌, nat_lt, Bool, if◌then◌else◌}
use Rattle.engine_base.specs.Stats.{is_hit}
use Rattle.segments.specs.declared.records.Queue.TheVariants.{Window, Probation, Protected}
use Rattle.segments.specs.Queues.{Queues}
use Rattle.segments.specs.Runs.{queues_before_run}
use Rattle.replacement.specs.declared.record.Moves.{Moves}
use Rattle.replacement.specs.Plan.{Item, plan}
use Rattle.replacement.specs.PlanMoves.{moves_of, undone_moves, FitsMoves}
use Rattle.replacement.specs.Table.{Response}
use Rattle.queue_cache.specs.declared.window_record.SizeChange.{SizeChange}
use Rattle.queue_cache.specs.declared.window_record.SizeChange.TheVariants.{Grew, Shrank, Stayed}
pub use Rattle.queue_cache.specs.declared.window_record.WindowRecord.{WindowRecord}
use Rattle.queue_cache.specs.Climber.{ClimbRules, climber_after, period_record, climber_before, FitsClimber}
use Rattle.queue_cache.specs.Resizing.{size_towards, demoted_items, queues_after_demotions, lent_items, returned_items}
use Rattle.queue_cache.specs.AdaptiveWindow.{Rules, AdaptiveState, rules_at, response_of, IsAdaptive}

-- by how much the size changes from what it is, and how many items each run moves then
abbrev pub growth : Rules → ℕ → Queues → SizeChange
growth r size s = Grew (r.window - size) (demoted_items r s) (lent_items r (queues_after_demotions r s))

abbrev pub shrinking : Rules → ℕ → Queues → SizeChange
shrinking r size s = Shrank (size - r.window) (returned_items r s)

abbrev pub size_change : ClimbRules → ℕ → ℕ → Queues → SizeChange
size_change r target size s =
    if nat_lt size target
    then growth (rules_at r (size_towards target size)) size s
    else if nat_lt target size then shrinking (rules_at r (size_towards target size)) size s else Stayed

-- undone, the last run first

abbrev pub queues_before_change : SizeChange → Queues → Queues
queues_before_change (Grew by demoted lent) s =
    queues_before_run demoted Protected Probation (queues_before_run lent Probation Window s)
queues_before_change (Shrank by returned) s = queues_before_run returned Window Probation s
queues_before_change Stayed s = s

abbrev pub size_before : SizeChange → ℕ → ℕ
size_before (Grew by demoted lent) size = size - by
size_before (Shrank by returned) size = size + by
size_before Stayed size = size

-- the record of an access that came to this, from the state before it
abbrev pub record_after : ClimbRules → Moves → Response → AdaptiveState → WindowRecord
record_after r moves a s = record {
  outcome = a.outcome;
  access = moves;
  size = size_change r (climber_after r (is_hit a.outcome) s.climber).target s.size a.queues;
  period = period_record r s.climber;
}

abbrev pub window_record_of : ClimbRules → (ℕ → ℕ → Bool) → Item → AdaptiveState → WindowRecord
window_record_of r admits i s =
    record_after r (moves_of (plan (rules_at r s.size) admits i s.queues) s.queues)
    (response_of r admits i s) s

-- the state before an access, from its record and the state after it
abbrev pub window_undone : WindowRecord → AdaptiveState → AdaptiveState
window_undone r s = record {
  queues = undone_moves r.access (queues_before_change r.size s.queues);
  size = size_before r.size s.size;
  climber = climber_before r.period (is_hit r.outcome) s.climber;
}

-- each part fits in its turn, and what undoing it leaves is a window by these rules
pub record WindowFits (rules : ClimbRules) (r : WindowRecord) (s : AdaptiveState) : Type 0 where
  pub access : FitsMoves r.access (queues_before_change r.size s.queues)
  pub climber : FitsClimber r.period (is_hit r.outcome) s.climber
  pub before : IsAdaptive rules (window_undone r s)
