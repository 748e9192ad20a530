use Rattle.std.proofs.Common.{◌++◌, take}
use Rattle.std.specs.List.{flat_map}
use Rattle.report.specs.IntervalText.{interval_header, interval_line}
use Rattle.report.specs.RowWriter.{HasWritten}
use Rattle.report.proofs.interval_rows.intervals_text.Given as goal

abbrev pub invariant-loop-interval : goal.invariant-loop-interval
invariant-loop-interval l = HasWritten (interval_header ++ flat_map interval_line (take l.interval-index l.intervals)) l.writer
