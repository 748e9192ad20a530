use Rattle.std.proofs.Common.{◌≡◌, ℕ, List, Some, map, ◌++◌, vec_items}
use Rattle.std.specs.Vec.Iter.{into_iter_items}
use Rattle.policy_actors.specs.Actors.{jobs_of}
use Rattle.policies.specs.Reports.{report_on}
use Rattle.policy_actors.proofs.run.join_all.Given as goal

abbrev pub invariant-loop-handle : goal.invariant-loop-handle
invariant-loop-handle g l = (all : List ℕ) → g.S.FedTrace.known ≡ Some all
    → vec_items l.reports ++ map (λ j. report_on j all) (jobs_of (into_iter_items l.handle-iterator)) ≡ map (λ j. report_on j all) (jobs_of (vec_items l.fn.handles))
