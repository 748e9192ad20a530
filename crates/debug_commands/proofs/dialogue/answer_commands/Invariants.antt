use Rattle.std.proofs.Common.{◌≡◌}
use Rattle.streams.specs.Tally.{Spends}
use Rattle.streams.specs.declared.retry_budget.TheConstants.{INTERRUPTIONS}
use Rattle.debug_commands.proofs.Ahead.{IsAhead}
use Rattle.debug_commands.proofs.dialogue.answer_commands.Given as goal

abbrev pub invariant-lines : goal.invariant-lines
invariant-lines g l = record {
  source : g.T.Timeline.source l.timeline ≡ g.T.Timeline.source l.initial.timeline;
  usable : g.T.Timeline.IsUsable l.timeline;
  same : g.T.Timeline.timeline l.timeline ≡ g.T.Timeline.timeline l.initial.timeline;
  ahead : IsAhead (g.T.Timeline.timeline l.initial.timeline) (g.T.Timeline.position l.initial.timeline)
      (record { at = g.T.Timeline.position l.timeline; breaks = l.breaks.items }) l.room
      (g.R.CountedRead.remaining l.initial.input) (g.R.CountedRead.remaining l.input) (g.W.CountedWrite.contents l.initial.out) (g.W.CountedWrite.contents l.out);
  reads : Spends INTERRUPTIONS l.reads (g.R.CountedRead.tally l.initial.input) (g.R.CountedRead.tally l.input);
  writes : Spends INTERRUPTIONS l.writes (g.W.CountedWrite.tally l.initial.out) (g.W.CountedWrite.tally l.out);
}

abbrev pub decreases-lines : goal.decreases-lines
decreases-lines g l = l.room
