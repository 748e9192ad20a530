use Rattle.std.proofs.Common.{◌≡◌, ◌-◌, length}
use Rattle.trace_read.specs.DigitRuns.{IsDigitRuns}
use Rattle.trace_read.specs.ScanState.{IsTakenUpTo}
use Rattle.trace_read.proofs.scan.Scan.take_lines.Given as goal

pub record Taking (A B C : Type 0) : Type 0 where
  pub taken : A
  pub runs : B
  pub same : C

abbrev pub invariant-lines : goal.invariant-lines
invariant-lines l = Taking (IsTakenUpTo l.fn.self l.bytes 0 l.runs.start l.self) (IsDigitRuns l.runs) (l.runs.bytes.now ≡ l.bytes)

abbrev pub decreases-lines : goal.decreases-lines
decreases-lines l = length l.bytes - l.runs.start
