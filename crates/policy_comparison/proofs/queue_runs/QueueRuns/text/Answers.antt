use Rattle.std.proofs.Common.{◌∙◌, ◌++◌, ◌<◌, ℕ, List, ap, append_assoc, append-nil, arith, length, refl, sym, take}
use Rattle.std.specs.List.{flat_map}
use Rattle.std.proofs.lemmas.List.{take_all}
use Rattle.policy_comparison.specs.QueueRows.{Job, queue_rows_on, queues_header}
use Rattle.policy_comparison.specs.QueueRun.{QueueRun, HasQueueRows}
use Rattle.sweeps.proofs.Each.{flat-more, has-at, same-length}
use Rattle.policy_comparison.proofs.queue_runs.QueueRuns.text.Goals as goal

pub loop-i-init : goal.loop-i-init
loop-i-init c = λ task trace have. c.in_ok-text.ensures ∙ sym (append-nil queues_header)

pub push_rows-requires : goal.push_rows-requires
push_rows-requires c =
    let (task, all) = c.requires in
    let lt : c.loop-i.i < length c.args.self.now.runs.items = omega (arith, c.loop-i-test.true, c.args.self.now.runs.ok.0) in (
      task.every,
      record {
        trace = all.trace;
        taken = has-at (λ (run : QueueRun). run.job) HasQueueRows task all.trace (length all.trace) c.args.self.now.runs.items all.taken c.loop-i.i c.index.result.now lt c.index.ensures;
      },
    )

pub loop-i-preserved : goal.loop-i-preserved
loop-i-preserved c = λ task trace have.
    let runs = c.args.self.now.runs.items in
    let job_of = λ (run : QueueRun). run.job in
    let rows = λ (j : Job). queue_rows_on task.every j trace in
    let done : List ℕ = flat_map rows (take c.loop-i.i task.jobs) in
    let row : List ℕ = rows c.index.result.now.job in
    let lt : c.loop-i.i < length runs = omega (arith, c.loop-i-test.true, c.args.self.now.runs.ok.0) in
    c.in_ok-push_rows.ensures task.every trace (has-at job_of HasQueueRows task trace (length trace) runs have c.loop-i.i c.index.result.now lt c.index.ensures)
    ∙ ap (λ (l : List ℕ). l ++ row) (c.loop-i.invariant task trace have)
    ∙ append_assoc queues_header done row
    ∙ ap (λ (l : List ℕ). queues_header ++ l)
    (flat-more job_of HasQueueRows task trace (length trace) runs have c.loop-i.i c.index.result.now lt c.index.ensures rows done (done ++ row) refl refl)

pub returns : goal.returns
returns c = λ task trace have.
    let long = same-length (λ (run : QueueRun). run.job) HasQueueRows task trace (length trace) c.args.self.now.runs.items have in
    c.loop-i.invariant task trace have
    ∙ ap (λ l. queues_header ++ flat_map (λ j. queue_rows_on task.every j trace) l)
    (take_all c.loop-i.i task.jobs (omega (arith, long, c.loop-i-test.false, c.args.self.now.runs.ok.0)))
