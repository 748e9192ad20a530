use Rattle.std.proofs.Common.{◌≡◌, ◌≤◌, take, count_by}
use Rattle.engine_base.specs.Stats.{is_hit}
use Rattle.library_examples.proofs.interval_hits.count_hits.Given as goal

abbrev pub invariant-loop-outcome : goal.invariant-loop-outcome
invariant-loop-outcome l = (l.hits ≡ count_by is_hit (take l.outcome-index l.outcomes)) × (l.hits ≤ l.outcome-index)
