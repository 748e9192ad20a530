use Rattle.std.proofs.Common.{ap, ◌∙◌, sym, subst, arith, Err}
use Rattle.queue_cache.specs.AdaptiveCache.{AdaptiveCacheState}
use Rattle.engine_base.specs.Limited.{lifted}
use Rattle.policies.specs.declared.any_policy.AnyPolicy.TheVariants.{Adaptive}
use Rattle.policies.specs.Accesses.{IsStopped}
use Rattle.policies.proofs.Stretches.{HasMade, has-made-all, next-made, next-accepted, stops-next}
use Rattle.policies.proofs.access_loops.access_all_adaptive.Goals as goal

pub unreachable-requires : goal.unreachable-requires
unreachable-requires c =
    next-accepted c.args.keys.now c.loop-i.i (Adaptive c.args.cache.now) (Adaptive c.prefetch_at.new.self) c.loop-i-test.true
    (subst (λ (d : AdaptiveCacheState). HasMade c.args.keys.now c.loop-i.i (Adaptive c.args.cache.now) (Adaptive d)) (sym c.prefetch_at.ensures) c.loop-i.invariant)
    c.any_accepts.ensures c.requires (ap (lifted Adaptive) (c.access.ensures.not_now.0 (c.in-Err-NotNow.is ∙ ap Err c.in-Err-NotNow.field-0-is)))

pub loop-i-preserved : goal.loop-i-preserved
loop-i-preserved c =
    next-made c.args.keys.now c.loop-i.i (Adaptive c.args.cache.now) (Adaptive c.prefetch_at.new.self) c.loop-i-test.true
    (subst (λ (d : AdaptiveCacheState). HasMade c.args.keys.now c.loop-i.i (Adaptive c.args.cache.now) (Adaptive d)) (sym c.prefetch_at.ensures) c.loop-i.invariant)
    c.any_step_law.ensures _ _ (ap (lifted Adaptive) c.in-Ok.ensures.accepted)

pub returns-clause-all : goal.returns-clause-all
returns-clause-all c = has-made-all c.args.keys.now c.loop-i.i (Adaptive c.args.cache.now) (Adaptive c.loop-i.cache) (omega arith) c.loop-i.invariant

pub returns-in-Err-OutOfMemory-clause-memory : goal.returns-in-Err-OutOfMemory-clause-memory
returns-in-Err-OutOfMemory-clause-memory c =
    subst (λ (d : AdaptiveCacheState). IsStopped c.args.keys.now (Adaptive c.args.cache.now) (Adaptive d)) (sym c.in-Err-OutOfMemory.ensures.err)
    (stops-next c.args.keys.now c.loop-i.i (Adaptive c.args.cache.now) (Adaptive c.prefetch_at.new.self) c.loop-i-test.true
    (subst (λ (d : AdaptiveCacheState). HasMade c.args.keys.now c.loop-i.i (Adaptive c.args.cache.now) (Adaptive d)) (sym c.prefetch_at.ensures) c.loop-i.invariant)
    (c.access.ensures.memory (c.in-Err-OutOfMemory.is ∙ ap Err c.in-Err-OutOfMemory.field-0-is)))
