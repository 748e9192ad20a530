use Rattle.trace_read.specs.TraceText.{keys_of_file}
use Rattle.policy_actors.proofs.run.run_reading_within.Given as goal

abbrev pub ghosts-run_actors_from : goal.ghosts-run_actors_from
ghosts-run_actors_from g a = record { known = keys_of_file a.source.format (g.R.CountedRead.remaining a.source.reader.now); size = a.size; most = a.source.limits.accesses }
