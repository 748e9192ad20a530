use Rattle.std.proofs.Common.{◌≡◌, ◌-◌, length}
use Rattle.trace_read.specs.DigitRuns.{IsDigitRuns}
use Rattle.trace_read.specs.ScanState.{IsTakenUpTo}
use Rattle.trace_read.proofs.scan.Scan.take_usual_lines.Given as goal

pub record Taking (A B C : Type 0) : Type 0 where
  pub taken : A
  pub runs : B
  pub same : C

abbrev pub invariant-lines : goal.invariant-lines
invariant-lines l = Taking
    (IsTakenUpTo l.fn.self l.bytes l.fn.runs.start l.ahead.start (record { alloc = l.self.alloc; format = l.self.format; max_accesses = l.self.max_accesses; keys = l.keys; handed_on = l.self.handed_on; line = l.line; partial_line = l.self.partial_line }))
    (IsDigitRuns l.ahead) (l.ahead.bytes.now ≡ l.bytes)

abbrev pub decreases-lines : goal.decreases-lines
decreases-lines l = length l.bytes - l.ahead.start
