use Rattle.std.proofs.Common.{ℕ, sym, subst}
use Rattle.policy_actors.specs.CacheRuns.{IsAfter}
use Rattle.policy_actors.proofs.CacheRuns.{begun, ready, moved, ended}
use Rattle.policy_actors.proofs.actor.run_actor.Goals as goal

pub take-requires-in-loop : goal.take-requires-in-loop
take-requires-in-loop g c = rw c.as_slice.ensures (ready g.S.FedTrace.known g.S.FedTrace.most c.args.job g.S.FedTrace.size c.loop.inbox.taken c.in_ok-batch.batch c.in_ok-batch.ensures.batch c.requires.few c.requires.follows c.loop.run c.loop.invariant)

pub returns-then-batch : goal.returns-then-batch
returns-then-batch g c = let known = g.S.FedTrace.known in let j = c.args.job in let size = g.S.FedTrace.size in
    let k = c.loop.inbox.taken in let b = c.in_ok-batch.batch in let is = c.in_ok-batch.ensures.batch in
    let after = moved known g.S.FedTrace.most j size k b is c.loop.run c.take-in-loop.new.self c.loop.invariant (rw c.as_slice.ensures at c.take-in-loop.ensures.taken) in
    λ all e. c.finish-report.ensures.report all (ended known g.S.FedTrace.most j size k b is c.take-in-loop.new.self after c.if-batch.true all e)

pub loop-preserved : goal.loop-preserved
loop-preserved g c = let known = g.S.FedTrace.known in let j = c.args.job in let size = g.S.FedTrace.size in
    let k = c.loop.inbox.taken in let b = c.in_ok-batch.batch in let is = c.in_ok-batch.ensures.batch in
    subst (λ (n : ℕ). IsAfter known g.S.FedTrace.most j size n c.take-in-loop.new.self) (sym c.in_ok-batch.ensures.taken)
    (moved known g.S.FedTrace.most j size k b is c.loop.run c.take-in-loop.new.self c.loop.invariant (rw c.as_slice.ensures at c.take-in-loop.ensures.taken))

pub loop-init : goal.loop-init
loop-init g c = let known = g.S.FedTrace.known in let size = g.S.FedTrace.size in
    subst (λ (n : ℕ). IsAfter known g.S.FedTrace.most c.args.job size n c.open-run.result) (sym c.requires.start)
    (begun known g.S.FedTrace.most c.args.job size c.open-run.result c.open-run.ensures.taken)
