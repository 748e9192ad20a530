use Rattle.std.proofs.Common.{◌∙◌, ◌<◌, ap, arith, length}
use Rattle.std.specs.List.{flat_map}
use Rattle.std.proofs.lemmas.List.{take_all}
use Rattle.sweeps.specs.Intervals.{intervals_on}
use Rattle.sweeps.specs.JobRuns.{JobRun, HasRun}
use Rattle.sweeps.proofs.Each.{flat-more, has-at, same-length}
use Rattle.sweeps.proofs.job_runs.JobRuns.rows.Goals as goal

pub loop-i-init : goal.loop-i-init
loop-i-init c = λ task trace have. c.new-rows.ensures.items

pub add_rows-requires : goal.add_rows-requires
add_rows-requires c =
    let all = c.requires.1 in
    let lt : c.loop-i.i < length c.args.self.now.runs.items = omega (arith, c.loop-i-test.true, c.args.self.now.runs.ok.0) in (
      c.requires.0.every,
      record {
        trace = all.trace;
        taken = has-at (λ (run : JobRun). run.job) HasRun c.requires.0 all.trace (length all.trace) c.args.self.now.runs.items all.taken c.loop-i.i c.index.result.now lt c.index.ensures;
      },
    )

pub loop-i-preserved : goal.loop-i-preserved
loop-i-preserved c = λ task trace have.
    let runs = c.args.self.now.runs.items in
    let job_of = λ (run : JobRun). run.job in
    let lt : c.loop-i.i < length runs = omega (arith, c.loop-i-test.true, c.args.self.now.runs.ok.0) in
    flat-more job_of HasRun task trace (length trace) runs have c.loop-i.i c.index.result.now lt c.index.ensures (λ j. intervals_on j task.every trace) c.loop-i.rows.items _
    (c.loop-i.invariant task trace have)
    (c.in_ok-add_rows.ensures task.every trace (has-at job_of HasRun task trace (length trace) runs have c.loop-i.i c.index.result.now lt c.index.ensures))

pub returns : goal.returns
returns c = λ task trace have.
    let long = same-length (λ (run : JobRun). run.job) HasRun task trace (length trace) c.args.self.now.runs.items have in
    c.loop-i.invariant task trace have
    ∙ ap (flat_map (λ j. intervals_on j task.every trace)) (take_all c.loop-i.i task.jobs (omega (arith, long, c.loop-i-test.false, c.args.self.now.runs.ok.0)))
