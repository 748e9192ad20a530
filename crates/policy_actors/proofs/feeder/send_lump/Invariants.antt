use Rattle.std.proofs.Common.{◌≡◌, ◌+◌}
use Rattle.policy_actors.proofs.feeder.send_lump.Given as goal

abbrev pub invariant-loop-number : goal.invariant-loop-number
invariant-loop-number g l = l.ends.sent ≡ l.fn.ends.sent + l._number
