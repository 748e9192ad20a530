use Rattle.std.proofs.Common.{arith, ap, ◌∙◌, sym, subst, Err}
use Rattle.engine_base.specs.Limited.{lifted}
use Rattle.policies.specs.declared.any_policy.AnyPolicy.TheVariants.{Queues}
use Rattle.queue_cache.specs.QueueCache.{QueueState}
use Rattle.policies.specs.Accesses.{IsStopped}
use Rattle.policies.proofs.Stretches.{HasMade, has-made-all, next-made, next-accepted, stops-next}
use Rattle.policies.proofs.access_loops.access_all_by.Goals as goal

pub unreachable-requires : goal.unreachable-requires
unreachable-requires g c =
    next-accepted c.args.keys.now c.loop-i.i (Queues c.args.cache.now) (Queues c.prefetch_at.new.self) c.loop-i-test.true
    (subst (λ (d : QueueState). HasMade c.args.keys.now c.loop-i.i (Queues c.args.cache.now) (Queues d)) (sym c.prefetch_at.ensures) c.loop-i.invariant.1)
    c.any_accepts.ensures c.requires.next (ap (lifted Queues) (c.access_by.ensures.not_now.0 (c.in-Err-NotNow.is ∙ ap Err c.in-Err-NotNow.field-0-is)))

pub returns-clause-all : goal.returns-clause-all
returns-clause-all g c =
    has-made-all c.args.keys.now c.loop-i.i (Queues c.args.cache.now) (Queues c.loop-i.cache) (omega arith) c.loop-i.invariant.1

pub loop-i-preserved : goal.loop-i-preserved
loop-i-preserved g c = (
  c.access_by.ensures.setup ∙ ap (λ (d : QueueState). d.setup) c.prefetch_at.ensures ∙ c.loop-i.invariant.0,
  next-made c.args.keys.now c.loop-i.i (Queues c.args.cache.now) (Queues c.prefetch_at.new.self) c.loop-i-test.true
      (subst (λ (d : QueueState). HasMade c.args.keys.now c.loop-i.i (Queues c.args.cache.now) (Queues d)) (sym c.prefetch_at.ensures) c.loop-i.invariant.1)
      c.any_step_law.ensures _ _ (ap (lifted Queues) c.in-Ok.ensures.accepted),
)

pub returns-in-Err-OutOfMemory-clause-memory : goal.returns-in-Err-OutOfMemory-clause-memory
returns-in-Err-OutOfMemory-clause-memory g c =
    subst (λ (d : QueueState). IsStopped c.args.keys.now (Queues c.args.cache.now) (Queues d)) (sym c.in-Err-OutOfMemory.ensures.err)
    (stops-next c.args.keys.now c.loop-i.i (Queues c.args.cache.now) (Queues c.prefetch_at.new.self) c.loop-i-test.true
    (subst (λ (d : QueueState). HasMade c.args.keys.now c.loop-i.i (Queues c.args.cache.now) (Queues d)) (sym c.prefetch_at.ensures) c.loop-i.invariant.1)
    (c.access_by.ensures.memory (c.in-Err-OutOfMemory.is ∙ ap Err c.in-Err-OutOfMemory.field-0-is)))
