use Rattle.std.proofs.Common.{◌≡◌, ◌∙◌, sym}
use Rattle.std.proofs.lemmas.Option.{IfSome_then}
use Rattle.std.proofs.lemmas.Result.{IfOk-weaker}
use Rattle.sweeps.specs.Taking.{Task}
use Rattle.long_traces.proofs.Following.{can-keep, over-each}
use Rattle.long_traces.proofs.jobs.runs_over.Goals.{After-taken_by}
use Rattle.long_traces.proofs.jobs.runs_over.Goals as goal

pub taken_by-requires-clause-kept : goal.taken_by-requires-clause-kept
taken_by-requires-clause-kept g c κs within = λ some.
    can-keep c.args.limits.accesses c.args.jobs.now c.requires.jobs (sym c.some_know_trace-is_kept.ensures ∙ some)

pub taken_by-requires-clause-begins : goal.taken_by-requires-clause-begins
taken_by-requires-clause-begins g c κs within = (
  record { jobs = c.args.jobs.now; every = c.args.every },
  λ opened taker made trace over. made trace (over-each opened.now trace c.args.jobs.now _ c.some_know_trace-is_kept.ensures over),
)

pub returns-clause-some : goal.returns-clause-some
returns-clause-some g c =
    let task : Task = record { jobs = c.args.jobs.now; every = c.args.every } in
    IfOk-weaker c.taken_by.result _ _ (λ runs all. all task (λ opened taker made trace over.
    made trace (over-each opened.now trace c.args.jobs.now _ c.some_know_trace-is_kept.ensures over))) c.taken_by.ensures.some

pub returns-clause-taken : goal.returns-clause-taken
returns-clause-taken g c =
    let task : Task = record { jobs = c.args.jobs.now; every = c.args.every } in
    IfOk-weaker c.taken_by.result _ _ (λ runs all. IfSome_then (g.R.CountedRead.remaining c.args.reader.now) all (λ b has. has task (λ opened taker made trace over.
    made trace (over-each opened.now trace c.args.jobs.now _ c.some_know_trace-is_kept.ensures over)))) c.taken_by.ensures.taken
