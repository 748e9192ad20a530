use Rattle.std.proofs.Common.{◌≡◌, ◌-◌}
use Rattle.debug_commands.specs.Answers.{stop_after}
use Rattle.debug_commands.proofs.dialogue.next_stop.Given as goal

abbrev pub invariant-steps : goal.invariant-steps
invariant-steps g l = record {
  source : g.T.Timeline.source l.timeline ≡ g.T.Timeline.source l.initial.timeline;
  usable : g.T.Timeline.IsUsable l.timeline;
  same : g.T.Timeline.timeline l.timeline ≡ g.T.Timeline.timeline l.initial.timeline;
  stop : stop_after (g.T.Timeline.timeline l.initial.timeline).facts l.breaks (g.T.Timeline.position l.timeline)
      ((g.T.Timeline.timeline l.initial.timeline).end - g.T.Timeline.position l.timeline)
      ≡ stop_after (g.T.Timeline.timeline l.initial.timeline).facts l.breaks (g.T.Timeline.position l.initial.timeline)
      ((g.T.Timeline.timeline l.initial.timeline).end - g.T.Timeline.position l.initial.timeline);
}

abbrev pub decreases-steps : goal.decreases-steps
decreases-steps g l = (g.T.Timeline.timeline l.initial.timeline).end - g.T.Timeline.position l.timeline
