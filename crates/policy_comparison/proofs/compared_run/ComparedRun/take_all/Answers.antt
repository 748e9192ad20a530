use Rattle.std.proofs.Common.{◌≡◌, ◌+◌, ℕ, List, length, subst, arith, ◌∙◌}
use Rattle.policies.specs.AnyPolicy.{Job, outcomes_on}
use Rattle.sweeps.specs.Taking.{AreNext}
use Rattle.policy_comparison.specs.CacheAccess.{StandsAt}
use Rattle.policy_comparison.specs.Comparison.{hits_beside}
use Rattle.policy_comparison.specs.ComparedRows.{HasCounted}
use Rattle.policy_comparison.specs.ComparedRun.{HasCompared}
use Rattle.policy_comparison.proofs.Compared.{beside-at, beside-long}
use Rattle.policy_comparison.proofs.compared_run.ComparedRun.take_all.Given.{Over}
use Rattle.policy_comparison.proofs.compared_run.ComparedRun.take_all.Goals.{After-hits_at-first}
use Rattle.policy_comparison.proofs.compared_run.ComparedRun.take_all.Goals as goal

pub advance-requires : goal.advance-requires
advance-requires g c =
    let n = c.requires in
    (n.1, n.2, record { trace = n.3.trace; place = n.3.place; next = n.3.next; few = n.3.few; taken = n.3.taken.pair })

pub loop-i-init : goal.loop-i-init
loop-i-init g c = λ every first second trace n next has.
    let none : n ≡ n + 0 = omega arith in (
      c.in_ok-advance.ensures first second trace n next has.pair,
      subst (λ (m : ℕ). HasCounted every (hits_beside (outcomes_on first trace) (outcomes_on second trace)) m c.args.self.now.counted) none has.counted,
    )

pub hits_at-first-requires : goal.hits_at-first-requires
hits_at-first-requires g c =
    let n = c.requires in
    let flags = (c.loop-i.invariant n.0 n.1 n.2 n.3.trace n.3.place n.3.next n.3.taken).0 in
    (omega (arith, flags.one.long, c.loop-i-test.true), omega (arith, flags.other.long, c.loop-i-test.true))

-- what the caches did at the access stands among their hits
stands : (g : Over) (c : After-hits_at-first g) (every : ℕ) (first second : Job) (trace : List ℕ) (n : ℕ) → AreNext trace n c.args.keys.now
    → HasCompared every first second trace n c.args.self.now
    → StandsAt (hits_beside (outcomes_on first trace) (outcomes_on second trace)) (n + c.loop-i.i) (c.hits_at-first.result.0, c.hits_at-first.result.1)
stands g c every first second trace n next has =
    let flags = (c.loop-i.invariant every first second trace n next has).0 in
    let hits = c.hits_at-first.ensures in
    beside-at first second trace (n + c.loop-i.i) _ _ (omega (arith, next.within, c.loop-i-test.true))
    (hits.0 ∙ flags.one.hits c.loop-i.i c.loop-i-test.true) (hits.1 ∙ flags.other.hits c.loop-i.i c.loop-i-test.true)

pub count-requires : goal.count-requires
count-requires g c =
    let n = c.requires in
    record {
      every = n.0;
      hits = hits_beside (outcomes_on n.1 n.3.trace) (outcomes_on n.2 n.3.trace);
      place = n.3.place + c.loop-i.i;
      next = stands g ((goal.at.count-requires g c).After-hits_at-first) n.0 n.1 n.2 n.3.trace n.3.place n.3.next n.3.taken;
      few = omega (arith, n.3.few, beside-long n.1 n.2 n.3.trace);
      counted = (c.loop-i.invariant n.0 n.1 n.2 n.3.trace n.3.place n.3.next n.3.taken).1;
    }

pub loop-i-preserved : goal.loop-i-preserved
loop-i-preserved g c = λ every first second trace n next has.
    let step : n + c.loop-i.i + 1 ≡ n + (c.loop-i.i + 1) = omega arith in
    let hits = hits_beside (outcomes_on first trace) (outcomes_on second trace) in
    let before = c.loop-i.invariant every first second trace n next has in (
      before.0,
      subst (λ (m : ℕ). HasCounted every hits m c.count.new.self) step
          (c.in_ok-count.ensures every hits (n + c.loop-i.i) (stands g ((goal.at.loop-i-preserved g c).After-hits_at-first) every first second trace n next has) before.1),
    )

pub returns : goal.returns
returns g c = λ every first second trace n next has.
    let all : c.loop-i.i ≡ length c.args.keys.now = omega (arith, c.loop-i-test.false) in
    let made = c.loop-i.invariant every first second trace n next has in
    record {
      pair = record { one = made.0.one.run; other = made.0.other.run };
      counted = subst (λ (m : ℕ). HasCounted every (hits_beside (outcomes_on first trace) (outcomes_on second trace)) (n + m) c.loop-i.self.counted) all made.1;
    }
