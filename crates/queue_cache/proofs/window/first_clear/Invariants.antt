use Rattle.std.proofs.Common.{◌≡◌, ℕ, ◌-◌, ◌*◌, ◌<◌, ◌≤◌, true, length}
use Rattle.engine_base.specs.Bits.{bit_of}
use Rattle.queue_cache.proofs.window.first_clear.Given as goal

abbrev pub invariant-words : goal.invariant-words
invariant-words l = (l.from ≤ l.at) × ((i : ℕ) → l.from ≤ i → i < l.at → bit_of l.words i ≡ true)

abbrev pub decreases-words : goal.decreases-words
decreases-words l = 64 * length l.words - l.at
