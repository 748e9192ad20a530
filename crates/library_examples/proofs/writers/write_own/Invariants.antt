use Rattle.std.proofs.Common.{◌≡◌}
use Rattle.library_examples.specs.LogLines.{Wrote}
use Rattle.turn_book.specs.Passes.{id_of}
use Rattle.library_examples.proofs.writers.write_own.Given as goal

abbrev pub invariant-loop-number : goal.invariant-loop-number
invariant-loop-number g l = Wrote (id_of l.book) l.number l.worker l.pass l.list × (l.pass.draws ≡ l.number)
