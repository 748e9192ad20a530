use Rattle.std.proofs.Common.{◌≤◌, ◌-◌, ◌+◌, length, take}
use Rattle.std.specs.Io.KnownBytes.{Appends}
use Rattle.streams.proofs.write_some.Given as goal
use Rattle.streams.specs.Tally.{Spends}

abbrev pub invariant-writes : goal.invariant-writes
invariant-writes g l = record {
  within : l.sent ≤ length l.bytes;
  sent : Appends (g.W.CountedWrite.contents l.initial.writer) (g.W.CountedWrite.contents l.writer) (take l.sent l.bytes);
  counted : l.budget ≤ l.initial.budget;
  spent : Spends l.initial.budget l.budget (g.W.CountedWrite.tally l.initial.writer) (g.W.CountedWrite.tally l.writer);
}

abbrev pub decreases-writes : goal.decreases-writes
decreases-writes g l = (length l.bytes - l.sent) + l.budget
