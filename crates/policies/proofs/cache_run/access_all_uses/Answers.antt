use Rattle.std.proofs.lemmas.Bool.Decides.{nat_tests}
use Rattle.std.proofs.Common.{ℕ, ap, ◌∙◌, sym, subst, arith, Err}
use Rattle.policies.specs.AnyStep.{any_act}
use Rattle.policies.specs.Accesses.{IsStopped}
use Rattle.policies.specs.AnyStep.{MayAllocate}
use Rattle.policies.proofs.Stretches.{has-made-all, next-made, next-accepted, stops-next}
use Rattle.policies.proofs.cache_run.access_all_uses.Goals as goal

pub unreachable-requires : goal.unreachable-requires
unreachable-requires c =
    next-accepted c.args.uses.now c.loop-i.i c.args.cache.now c.loop-i.cache (omega (arith, c.len-i-end.ensures.len, c.loop-i-test.true)) c.loop-i.invariant
    c.any_accepts.ensures c.requires
    (ap (λ (k : ℕ). any_act c.loop-i.cache k) (sym c.key.ensures) ∙ c.access.ensures.not_now.0 (c.in-Err-NotNow.is ∙ ap Err c.in-Err-NotNow.field-0-is))

pub loop-i-preserved : goal.loop-i-preserved
loop-i-preserved c = grind (arith, nat_tests, next-made)

pub returns-clause-all : goal.returns-clause-all
returns-clause-all c = has-made-all c.args.uses.now c.loop-i.i c.args.cache.now c.loop-i.cache (omega (arith, c.len-i-end.ensures.len)) c.loop-i.invariant

pub returns-in-Err-OutOfMemory-clause-memory : goal.returns-in-Err-OutOfMemory-clause-memory
returns-in-Err-OutOfMemory-clause-memory c =
    subst (IsStopped c.args.uses.now c.args.cache.now) (sym c.in-Err-OutOfMemory.ensures.err)
    (stops-next c.args.uses.now c.loop-i.i c.args.cache.now c.loop-i.cache (omega (arith, c.len-i-end.ensures.len, c.loop-i-test.true)) c.loop-i.invariant
    (subst (MayAllocate c.loop-i.cache) c.key.ensures (c.access.ensures.memory (c.in-Err-OutOfMemory.is ∙ ap Err c.in-Err-OutOfMemory.field-0-is))))
