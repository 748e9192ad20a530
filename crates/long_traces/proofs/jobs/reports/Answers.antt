use Rattle.std.proofs.Common.{◌≤◌, arith, length}
use Rattle.std.proofs.lemmas.Bool.{le-leb}
use Rattle.std.proofs.lemmas.Option.{IfSome_then}
use Rattle.policies.specs.declared.job_checks.TheConstants.{MAX_ACTORS}
use Rattle.sweeps.specs.Taking.{Task}
use Rattle.trace_read.specs.TraceText.{keys_in}
use Rattle.long_traces.proofs.Following.{all-follow, none-faulty}
use Rattle.long_traces.proofs.jobs.reports.Goals as goal

pub returns-then-jobs-gt-MAX_ACTORS-clause-reports : goal.returns-then-jobs-gt-MAX_ACTORS-clause-reports
returns-then-jobs-gt-MAX_ACTORS-clause-reports g c = IfSome_then (g.R.CountedRead.remaining c.args.reader.now) c.in_ok-runs.ensures.taken (λ b has.
    let task : Task = record { jobs = c.args.jobs.now; every = 18446744073709551615 } in c.in_ok-reports.ensures task (keys_in c.args.format b) has)

pub run_reading_within-requires-clause-due : goal.run_reading_within-requires-clause-due
run_reading_within-requires-clause-due g c κs within =
    let few : length c.args.jobs.now ≤ MAX_ACTORS = omega arith in
    rw (le-leb (length c.args.jobs.now) MAX_ACTORS few) (none-faulty c.args.limits.accesses 0 c.args.jobs.now c.requires.jobs)

pub run_reading_within-requires-clause-follow : goal.run_reading_within-requires-clause-follow
run_reading_within-requires-clause-follow g c κs within = all-follow c.args.limits.accesses c.args.jobs.now c.requires.jobs
