use Rattle.std.proofs.Common.{◌≡◌, ◌≤◌}
use Rattle.segments.specs.Runs.{queues_after_run}
use Rattle.segments.proofs.segments.Segments.send_times.Given as goal

abbrev pub invariant-loop-turn : goal.invariant-loop-turn
invariant-loop-turn l =
    (l.self.lists ≡ queues_after_run l._turn l.fn.from l.fn.to l.fn.self.lists) × (l.fn.self.spare ≤ l.self.spare)
