use Rattle.std.proofs.Common.{◌≡◌, ◌+◌, ◌<◌, ◌≤◌, length, get_or}
use Rattle.policy_actors.proofs.mail.send_each.Given as goal

-- those before this end were sent one batch more than those from it on
abbrev pub invariant-loop-end : goal.invariant-loop-end
invariant-loop-end g l = (length l.ends.items ≡ length l.fn.ends.items)
    × ((k : _) (d : _) → k < length l.ends.items → (k < l.end → (get_or l.ends.items k d).sent ≡ l.number + 1)
    × (l.end ≤ k → (get_or l.ends.items k d).sent ≡ l.number))
