use Rattle.std.proofs.Common.{◌≡◌, take, vec_items}
use Rattle.policy_actors.specs.Actors.{jobs_of}
use Rattle.policy_actors.proofs.run.fn.run_actors_from.scope.Given as goal

abbrev pub invariant-loop-i : goal.invariant-loop-i
invariant-loop-i g l = (jobs_of (vec_items l.handles) ≡ take l.i l.jobs) × (l.ends.sent ≡ 0)
