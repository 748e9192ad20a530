use Rattle.std.proofs.Common.{◌≡◌, ◌∙◌, ◌+◌, ℕ, length, subst, arith, refl}
use Rattle.policy_comparison.specs.QueueRun.{HasQueueRows}
use Rattle.policy_comparison.proofs.LeftKeys.{next-key}
use Rattle.policy_comparison.proofs.queue_run.QueueRunRun.make.Goals as goal

pub loop-i-init : goal.loop-i-init
loop-i-init c = (
  refl,
  λ every trace n next has. let none : n ≡ n + 0 = omega arith in subst (λ (m : ℕ). HasQueueRows every trace m c.args.self.now) none has,
)

pub access-requires-clause-ready : goal.access-requires-clause-ready
access-requires-clause-ready c =
    let (every, can) = c.requires in
    record {
      every = every;
      trace = can.trace;
      place = can.place + c.loop-i.i;
      next = next-key can.trace c.args.keys.now can.place c.loop-i.i can.next (omega (arith, c.loop-i-test.true));
      few = can.few;
      has = c.loop-i.invariant.1 every can.trace can.place can.next can.taken;
    }

pub loop-i-preserved : goal.loop-i-preserved
loop-i-preserved c = (
  c.access.ensures.job ∙ c.loop-i.invariant.0,
  λ every trace n next has.
      let step : n + c.loop-i.i + 1 ≡ n + (c.loop-i.i + 1) = omega arith in
      subst (λ (m : ℕ). HasQueueRows every trace m c.access.new.self) step
      (c.in_ok-access.ensures.rows every trace (n + c.loop-i.i) (next-key trace c.args.keys.now n c.loop-i.i next (omega (arith, c.loop-i-test.true)))
      (c.loop-i.invariant.1 every trace n next has)),
)

pub returns-clause-made : goal.returns-clause-made
returns-clause-made c = λ every trace n next has.
    let all : c.loop-i.i ≡ length c.args.keys.now = omega (arith, c.loop-i-test.false) in
    subst (λ (m : ℕ). HasQueueRows every trace (n + m) c.loop-i.self) all (c.loop-i.invariant.1 every trace n next has)
