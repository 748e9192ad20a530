use Rattle.std.proofs.Common.{◌≡◌, ◌++◌, List, drop}
use Rattle.engine_base.specs.History.{Entries}
use Rattle.shell_model.specs.Walks.{Call, AreWalks}
use Rattle.shell_model.specs.WorkerEntries.{Made}
use Rattle.workers.specs.Draws.{IsWithin}
use Rattle.workers.proofs.run.work_in_turns.Given as goal

abbrev pub invariant-loop-n : goal.invariant-loop-n
invariant-loop-n g l = record {
  same : l.pass.book ≡ l.fn.pass.book;
  worker : l.pass.worker ≡ l.fn.worker;
  within : IsWithin l.book.opening.limit l.pass;
  walks : (before : List Call) × AreWalks l.fn.worker l.fn.stripes before l.pass.own;
  made : Made (λ es. (rest : Entries) → AreWalks l.fn.worker l.fn.stripes (drop l.n l.calls) rest → AreWalks l.fn.worker l.fn.stripes l.calls (es ++ rest)) l.fn.pass.own l.pass.own;
}
