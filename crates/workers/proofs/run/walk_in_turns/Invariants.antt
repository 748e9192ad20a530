use Rattle.std.proofs.Common.{◌≡◌, ◌++◌}
use Rattle.engine_base.specs.History.{Entries}
use Rattle.shell_model.specs.Walks.{IsWalk}
use Rattle.shell_model.specs.WorkerEntries.{Made}
use Rattle.workers.specs.Draws.{IsWithin}
use Rattle.shell_model.specs.NextActs.{IsRestOfWalk, IsAskedNext}
use Rattle.workers.proofs.run.walk_in_turns.Given as goal

abbrev pub invariant-loop : goal.invariant-loop
invariant-loop g l = record {
  can : (goal.iterator-loop g).can_next l.iterator';
  finite : (goal.iterator-loop g).is_finite l.iterator';
  same : l.pass.book ≡ l.fn.pass.book;
  worker : l.pass.worker ≡ l.fn.worker;
  within : IsWithin l.book.opening.limit l.pass;
  made : Made (λ es. (rest : Entries) → IsRestOfWalk l.next rest → IsWalk l.fn.worker l.fn.stripes l.fn.call (es ++ rest)) l.fn.pass.own l.pass.own;
  asks : IsAskedNext l.fn.worker l.fn.stripes l.next;
}
