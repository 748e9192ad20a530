use Rattle.std.proofs.Common.{◌≡◌, ◌-◌, length}
use Rattle.trace_read.specs.DigitRuns.{IsDigitRuns}
use Rattle.trace_read.proofs.digit_runs.DigitRuns.next.Given as goal

abbrev pub invariant-words : goal.invariant-words
invariant-words l = IsDigitRuns l.self × (l.self.start ≡ l.fn.self.start) × (l.self.bytes.now ≡ l.fn.self.bytes.now)

abbrev pub decreases-words : goal.decreases-words
decreases-words l = length l.self.bytes.now - l.self.to
