use Rattle.std.proofs.Common.{◌≤◌, ◌+◌, arith, length, subst, sym}
use Rattle.trace_read.proofs.Steps.{errs}
use Rattle.trace_read.proofs.Taken.{line_refused, line_taken, refused_then, taken_then}
use Rattle.trace_read.specs.DigitRuns.{IsLineEnd}
use Rattle.trace_read.specs.ScanState.{IsTakenUpTo}
use Rattle.trace_read.proofs.scan.Scan.take_lines.Goals as goal

pub lines-preserved : goal.lines-preserved
lines-preserved c =
    let i = c.lines.invariant in
    let start = c.in-Some.first.start in
    let bytes = c.args.bytes.now in
    let line = c.in-Some-line_end.line in
    let scan = c.next_other.new.self in
    let read = c.in_ok-add_line.ensures in
    let l = subst (λ b. IsLineEnd b start line) c.in-Some.ensures.next.same c.in-Some-line_end.ensures.line in
    let before = taken_then c.args.self.now c.lines.self scan bytes 0 c.lines.runs.start start i.taken c.in-Some.ensures.some in
    let keys = c.add_line.new.keys in
    let few : scan.handed_on + length keys.items ≤ scan.max_accesses = omega (arith, read.within, keys.ok.0) in
    let next = line_taken scan bytes start line.end before.scan before.partial_line l.order (omega (arith, l.within)) l.none l.feed keys few read.ok in
    record {
      taken = subst (λ n. IsTakenUpTo c.args.self.now bytes 0 n (record scan { keys = keys; line = scan.line + 1 })) (sym l.behind)
          (taken_then _ _ _ bytes 0 start (line.end + 1) before next);
      runs = l.runs;
      same = l.same;
    }

pub returns-in_err-add_line-clause-err : goal.returns-in_err-add_line-clause-err
returns-in_err-add_line-clause-err c =
    let i = c.lines.invariant in
    let start = c.in-Some.first.start in
    let bytes = c.args.bytes.now in
    let line = c.in-Some-line_end.line in
    let scan = c.next_other.new.self in
    let l = subst (λ b. IsLineEnd b start line) c.in-Some.ensures.next.same c.in-Some-line_end.ensures.line in
    let before = taken_then c.args.self.now c.lines.self scan bytes 0 c.lines.runs.start start i.taken c.in-Some.ensures.some in
    errs c.from_residual.result _ _ c.from_residual.ensures.1 (refused_then c.args.self.now scan bytes 0 start _ before
    (line_refused scan bytes start line.end before.scan before.partial_line l.order (omega (arith, l.within)) l.none l.feed _ c.in_err-add_line.ensures.err))
