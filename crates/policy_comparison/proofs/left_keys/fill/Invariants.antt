use Rattle.std.proofs.Common.{◌≡◌, ℕ, length, get_or}
use Rattle.policy_comparison.proofs.left_keys.fill.Given as goal

abbrev pub invariant-loop-place : goal.invariant-loop-place
invariant-loop-place l = (length l.numbers.items ≡ l._place) × ((r : ℕ) → get_or l.numbers.items r 0 ≡ get_or l.initial.numbers.items r 0)
