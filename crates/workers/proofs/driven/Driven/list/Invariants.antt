use Rattle.std.proofs.Common.{◌≡◌, ◌++◌, drop}
use Rattle.shell_model.specs.WorkerEntries.{entries_of}
use Rattle.workers.proofs.driven.Driven.list.Given as goal

abbrev pub invariant-loop-n : goal.invariant-loop-n
invariant-loop-n l =
    l.list.items ++ entries_of l.worker (drop l.n l.self.session.kept)
    ≡ entries_of l.worker (drop l.self.earlier l.self.session.kept)
