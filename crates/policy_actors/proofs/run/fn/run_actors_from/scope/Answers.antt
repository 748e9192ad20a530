use Rattle.std.proofs.lemmas.Grind.{common_steps}
use Rattle.std.proofs.Common.{◌∙◌, sym, rules, arith}
use Rattle.std.proofs.lemmas.List.{take_more}
use Rattle.policies.proofs.Accepted.{accepted}
use Rattle.policy_actors.proofs.Handles.{one_more}
use Rattle.policy_actors.proofs.run.fn.run_actors_from.scope.Goals as goal

pub loop-i-preserved : goal.loop-i-preserved
loop-i-preserved g c = (
  one_more _ _ _ _ _ c.in-Ok-push_handle.ensures.started c.spawn_with-started.ensures.ok c.in-Ok-push_handle.ensures.pushed c.loop-i.invariant.0
      ∙ sym (take_more c.captures.jobs.now c.loop-i.i _ c.loop-i-test.true),
  search rules,
)

pub spawn_with-started-requires-clause-runs : goal.spawn_with-started-requires-clause-runs
spawn_with-started-requires-clause-runs g c κs within = ((c.in-Ok.ensures.taken, accepted 0 c.captures.jobs.now c.loop-i.i _ c.requires.3 c.loop-i-test.true, c.requires.7, c.requires.8 c.loop-i.i _ c.loop-i-test.true), search rules)

pub returns : goal.returns
returns g c = grind (arith, common_steps)
