use Rattle.policy_actors.specs.CacheRuns.{IsAfter}
use Rattle.policy_actors.proofs.actor.run_actor.Given as goal

abbrev pub invariant-loop : goal.invariant-loop
invariant-loop g l = IsAfter g.S.FedTrace.known g.S.FedTrace.most l.fn.job g.S.FedTrace.size l.inbox.taken l.run
