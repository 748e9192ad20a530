use Rattle.std.proofs.Common.{◌≡◌, ◌≤◌, ◌+◌, ◌++◌, Some, map, length, vec_capacity}
use Rattle.std.specs.Vec.Iter.{into_iter_items}
use Rattle.workers.specs.WorkerStates.{AreNumbered}
use Rattle.workers.proofs.run.assign_passes.Given as goal

abbrev pub invariant-loop-pass : goal.invariant-loop-pass
invariant-loop-pass l = record {
  passes : map (λ d. d.pass) l.states.items ++ map (λ p. Some p) (into_iter_items l.pass-iterator) ≡ map (λ p. Some p) l.fn.passes.items;
  counts : AreNumbered 0 l.states.items;
  total : length l.states.items + length (into_iter_items l.pass-iterator) ≡ length l.fn.passes.items;
  room : length l.fn.passes.items ≤ vec_capacity l.states;
}
