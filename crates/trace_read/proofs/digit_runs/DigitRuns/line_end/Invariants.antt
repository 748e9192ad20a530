use Rattle.std.proofs.Common.{◌≡◌, ◌≤◌, ◌+◌, ◌-◌, length}
use Rattle.trace_read.specs.DigitRuns.{IsDigitRuns, NoFeedBetween}
use Rattle.trace_read.specs.declared.digit_runs.TheConstants.{BEHIND}
use Rattle.trace_read.proofs.digit_runs.DigitRuns.line_end.Given as goal

pub record Looking (A B C D E F : Type 0) : Type 0 where
  pub runs : A
  pub same : B
  pub behind : C
  pub order : D
  pub within : E
  pub none : F

abbrev pub invariant-runs : goal.invariant-runs
invariant-runs l = Looking (IsDigitRuns l.runs) (l.runs.bytes.now ≡ l.self.bytes.now) (l.runs.start ≡ l.end + 1) (l.fn.run.end ≤ l.end)
    (l.end + BEHIND ≤ length l.self.bytes.now) (NoFeedBetween l.self.bytes.now l.fn.run.start l.end)

abbrev pub decreases-runs : goal.decreases-runs
decreases-runs l = length l.self.bytes.now - l.end
