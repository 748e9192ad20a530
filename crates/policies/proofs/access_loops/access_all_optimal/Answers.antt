use Rattle.std.proofs.Common.{ap, ◌∙◌, arith, Err}
use Rattle.engine_base.specs.Limited.{lifted}
use Rattle.policies.specs.declared.any_policy.AnyPolicy.TheVariants.{Optimal}
use Rattle.policies.proofs.Stretches.{has-made-all, next-made, next-accepted}
use Rattle.policies.proofs.access_loops.access_all_optimal.Goals as goal

pub unreachable-requires : goal.unreachable-requires
unreachable-requires c =
    next-accepted c.args.keys.now c.loop-i.i (Optimal c.args.cache.now) (Optimal c.loop-i.cache) c.loop-i-test.true
    c.loop-i.invariant
    c.any_accepts.ensures c.requires (ap (lifted Optimal) (c.apply.ensures.not_now.0 (c.in-Err-NotNow.is ∙ ap Err c.in-Err-NotNow.field-0-is)))

pub loop-i-preserved : goal.loop-i-preserved
loop-i-preserved c =
    next-made c.args.keys.now c.loop-i.i (Optimal c.args.cache.now) (Optimal c.loop-i.cache) c.loop-i-test.true
    c.loop-i.invariant
    c.any_step_law.ensures _ _ (ap (lifted Optimal) c.in-Ok.ensures.accepted)

pub returns-clause-all : goal.returns-clause-all
returns-clause-all c = has-made-all c.args.keys.now c.loop-i.i (Optimal c.args.cache.now) (Optimal c.loop-i.cache) (omega arith) c.loop-i.invariant

pub returns-in-Err-OutOfMemory-clause-memory : goal.returns-in-Err-OutOfMemory-clause-memory
returns-in-Err-OutOfMemory-clause-memory c =
    absurd (c.apply.ensures.memory (c.in-Err-OutOfMemory.is ∙ ap Err c.in-Err-OutOfMemory.field-0-is))
