use Rattle.std.proofs.Common.{◌≡◌, ◌+◌, length}
use Rattle.std.specs.Io.KnownBytes.{Consumes}
use Rattle.streams.specs.Feeds.{HasNoFeed}
use Rattle.streams.specs.Tally.{Spends}
use Rattle.debug_commands.proofs.dialogue.read_line.Given as goal

abbrev pub invariant-bytes : goal.invariant-bytes
invariant-bytes g l = record {
  read : Consumes (g.R.CountedRead.remaining l.initial.input) (g.R.CountedRead.remaining l.input) l.text.items;
  feeds : HasNoFeed l.text.items;
  room : l.room + length l.text.items ≡ l.initial.room;
  spent : Spends l.initial.budget l.budget (g.R.CountedRead.tally l.initial.input) (g.R.CountedRead.tally l.input);
}

abbrev pub decreases-bytes : goal.decreases-bytes
decreases-bytes g l = l.room
