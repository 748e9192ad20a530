use Rattle.std.proofs.Common.{◌-◌, ◌<◌, length}
use Rattle.trace_read.specs.ScanState.{IsTakenUpTo}
use Rattle.trace_read.proofs.Taken.{at_line}
use Rattle.trace_read.proofs.scan.Scan.take_star_lines.Given as goal

abbrev pub invariant-fours : goal.invariant-fours
invariant-fours l = (l.start < l.end) × IsTakenUpTo l.fn.self l.bytes l.start l.end (at_line l.self l.line)

abbrev pub decreases-fours : goal.decreases-fours
decreases-fours l = length l.bytes - l.end

abbrev pub invariant-stars : goal.invariant-stars
invariant-stars l = (l.start < l.end) × IsTakenUpTo l.fn.self l.bytes l.start l.end (at_line l.self l.line)

abbrev pub decreases-stars : goal.decreases-stars
decreases-stars l = length l.bytes - l.end
