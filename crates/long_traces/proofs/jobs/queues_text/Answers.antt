use Rattle.std.proofs.Common.{◌≡◌, ◌∙◌, sym}
use Rattle.std.proofs.lemmas.Option.{IfSome_then}
use Rattle.sweeps.specs.Taking.{Task}
use Rattle.trace_read.specs.TraceText.{keys_in}
use Rattle.long_traces.proofs.Following.{can-keep, over-each}
use Rattle.long_traces.proofs.jobs.queues_text.Goals as goal

pub taken_by-requires-clause-kept : goal.taken_by-requires-clause-kept
taken_by-requires-clause-kept g c κs within = λ some.
    can-keep c.args.limits.accesses c.args.jobs.now c.requires.jobs (sym c.some_know_trace-is_kept.ensures ∙ some)

pub taken_by-requires-clause-begins : goal.taken_by-requires-clause-begins
taken_by-requires-clause-begins g c κs within = (
  record { jobs = c.args.jobs.now; every = c.args.every },
  λ opened taker made trace over. made trace (over-each opened.now trace c.args.jobs.now _ c.some_know_trace-is_kept.ensures over),
)

pub text-requires : goal.text-requires
text-requires g c =
    let task : Task = record { jobs = c.args.jobs.now; every = c.args.every } in (
      task,
      c.in_ok-runs.ensures.some task (λ opened taker made trace over.
          made trace (over-each opened.now trace c.args.jobs.now _ c.some_know_trace-is_kept.ensures over)),
    )

pub returns-clause-text : goal.returns-clause-text
returns-clause-text g c = IfSome_then (g.R.CountedRead.remaining c.args.reader.now) c.in_ok-runs.ensures.taken (λ b has.
    let task : Task = record { jobs = c.args.jobs.now; every = c.args.every } in
    c.in_ok-text.ensures task (keys_in c.args.format b) (has task (λ opened taker made trace over.
    made trace (over-each opened.now trace c.args.jobs.now _ c.some_know_trace-is_kept.ensures over))))
