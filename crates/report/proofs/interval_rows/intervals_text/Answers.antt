use Rattle.std.proofs.Common.{◌≡◌, ◌++◌, arith, IfOk, subst, take, take_all}
use Rattle.std.proofs.lemmas.Grind.{common_steps}
use Rattle.std.specs.List.{flat_map}
use Rattle.report.specs.IntervalText.{interval_header, interval_line, intervals_text}
use Rattle.report.proofs.interval_rows.intervals_text.Goals as goal

pub loop-interval-preserved : goal.loop-interval-preserved
loop-interval-preserved c =
    let w = c.in_ok-write_row.ensures _ c.loop-interval.invariant in
    let bytes = w.bytes in
    record { setup = w.setup; fields = w.fields; wrote = w.wrote; bytes = grind (arith, common_steps, bytes) }

pub returns : goal.returns
unfolding intervals_text
returns c =
    let all : take c.loop-interval.interval-index c.args.intervals.now ≡ c.args.intervals.now = take_all _ _ (omega (arith, c.loop-interval-test.false)) in
    subst (λ l. IfOk c.written_text.result (λ v. v.items ≡ interval_header ++ flat_map interval_line l)) all (c.written_text.ensures _ c.loop-interval.invariant)
