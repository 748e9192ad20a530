use Rattle.std.proofs.Common.{refl, rules, arith}
use Rattle.policy_actors.proofs.Following.{all_follow}
use Rattle.policy_actors.proofs.run.run_actors.Goals as goal

pub returns-clause-reports : goal.returns-clause-reports
returns-clause-reports g c = let reports = c.run_actors_from-reports.ensures.reports c.args.trace.now refl in search rules

pub run_actors_from-reports-requires-clause-follow : goal.run_actors_from-reports-requires-clause-follow
run_actors_from-reports-requires-clause-follow g c κs within = all_follow _ c.args.jobs.now (omega arith)
