use Rattle.std.proofs.Common.{◌≤◌}
use Rattle.std.specs.Io.KnownBytes.{Keeps}
use Rattle.streams.proofs.flush.Given as goal
use Rattle.streams.specs.Tally.{Spends}

abbrev pub invariant-flushes : goal.invariant-flushes
invariant-flushes g l = record {
  counted : l.budget ≤ l.initial.budget;
  kept : Keeps (g.W.CountedWrite.contents l.initial.writer) (g.W.CountedWrite.contents l.writer);
  spent : Spends l.initial.budget l.budget (g.W.CountedWrite.tally l.initial.writer) (g.W.CountedWrite.tally l.writer);
}

abbrev pub decreases-flushes : goal.decreases-flushes
decreases-flushes g l = l.budget
