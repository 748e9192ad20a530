use Rattle.std.proofs.Common.{◌≡◌, ◌++◌, take}
use Rattle.std.specs.List.{flat_map}
use Rattle.policy_comparison.specs.ComparedIntervals.{compared_row}
use Rattle.policy_comparison.proofs.compared_intervals.push_compared_intervals.Given as goal

abbrev pub invariant-loop-row : goal.invariant-loop-row
invariant-loop-row l = l.text.items ≡ l.initial.text.items ++ flat_map (compared_row l.first l.second) (take l.row-index l.rows)
