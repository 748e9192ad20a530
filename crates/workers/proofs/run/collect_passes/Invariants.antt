use Rattle.std.proofs.Common.{◌≡◌, ◌≤◌, ◌+◌, ◌++◌, Some, map, length, vec_capacity}
use Rattle.std.specs.Option.{IsSome, option_or}
use Rattle.std.specs.Vec.Iter.{into_iter_items}
use Rattle.turn_book.specs.Turns.{Every}
use Rattle.workers.specs.Runs.{first_cause}
use Rattle.workers.proofs.run.collect_passes.Given as goal

abbrev pub invariant-loop-state : goal.invariant-loop-state
invariant-loop-state l = record {
  holds : Every (λ d. IsSome d.pass) (into_iter_items l.state-iterator);
  passes : map (λ p. Some p) l.passes.items ++ map (λ d. d.pass) (into_iter_items l.state-iterator) ≡ map (λ d. d.pass) l.fn.states.items;
  cause : option_or l.cause (first_cause (map (λ d. d.refusal) (into_iter_items l.state-iterator))) ≡ first_cause (map (λ d. d.refusal) l.fn.states.items);
  room : length l.passes.items + length (into_iter_items l.state-iterator) ≤ vec_capacity l.passes;
}
