use Rattle.std.proofs.Common.{◌∙◌, ◌≤◌, ◌+◌, ◌-◌, ◌++◌, ap, arith, drop, length, subst, sym, take}
use Rattle.trace_read.proofs.Runs.{run_fits}
use Rattle.trace_read.proofs.Taken.{line_taken, run_read, taken_then}
use Rattle.trace_read.specs.Lines.{line_of}
use Rattle.trace_read.specs.ScanState.{Scan, IsTakenUpTo}
use Rattle.trace_read.proofs.scan.Scan.take_usual_lines.Goals as goal

pub lines-preserved : goal.lines-preserved
lines-preserved c =
    let i = c.lines.invariant in
    let e = c.in-Some.ensures in
    let begin = c.in-Some.first in
    let first = c.args.self.now in
    let scan = c.lines.self in
    let bytes = c.args.bytes.now in
    let usual = c.in-Some-usual_line.ensures in
    let run = c.in-Some-usual_line.next.run in
    let end = c.in-Some-usual_line.next.end.end in
    let l = usual.end in
    let keys = c.push_reserved_run.new.keys in
    let now : Scan = record scan { keys = c.lines.keys; line = c.lines.line } in
    let here = subst (λ n. IsTakenUpTo first bytes c.args.runs.now.start n now) (sym e.start.0) i.taken in
    let few : scan.handed_on + length c.lines.keys.items + run.count ≤ scan.max_accesses = omega (arith, usual.few, c.lines.keys.ok.0, i.taken.handed_on, i.taken.limit, c.requires.lines.scan.few) in
    let more : scan.handed_on + length keys.items ≤ scan.max_accesses = omega (arith, usual.few, i.taken.handed_on, i.taken.limit, c.requires.lines.scan.few, c.push_reserved_run.ensures.len, keys.ok.0) in
    let f = run_fits scan.max_accesses c.lines.line (scan.handed_on + length c.lines.keys.items) run.start run.count usual.fits few in
    let read = run_read scan.format scan.max_accesses c.lines.line scan.handed_on run.start run.count c.lines.keys.items (take (end - begin.start) (drop begin.start bytes)) keys.items
    (ap (λ f. line_of f (take (end - begin.start) (drop begin.start bytes))) (i.taken.format ∙ c.requires.format) ∙ usual.is)
    f.0 (c.push_reserved_run.ensures.items ∙ ap (λ ks. c.lines.keys.items ++ ks) (sym f.1)) in
    let taken = line_taken now bytes begin.start end i.taken.scan i.taken.partial_line l.order (omega (arith, l.within)) l.none l.feed keys more read in
    record {
      taken = subst (λ n. IsTakenUpTo first bytes c.args.runs.now.start n (record now { keys = keys; line = c.lines.line + 1 })) (sym l.behind)
          (taken_then first now _ bytes c.args.runs.now.start begin.start (end + 1) here taken);
      runs = l.runs;
      same = l.same;
    }
