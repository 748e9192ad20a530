use Rattle.std.proofs.Common.{◌≡◌, ◌∙◌, ◌+◌, ℕ, List, None, Some, IfNone, IfSome, length, ap, subst, sym, arith, rules}
use Rattle.policies.specs.AnyPolicy.{Job, outcomes_on}
use Rattle.policy_comparison.specs.Pair.{HavePaired}
use Rattle.policy_comparison.specs.Part.{AgreeBelow, IsPart}
use Rattle.policy_comparison.specs.PartRun.{HasParted, PartRun}
use Rattle.policy_comparison.proofs.Walked.{agree-next, agrees}
use Rattle.policy_comparison.proofs.part_run.PartRun.take_all.Goals as goal

-- where it is not found yet, the caches made the first accesses
before : (first second : Job) (trace : List ℕ) (n : ℕ) (run : PartRun) → run.found ≡ None → HasParted first second trace n run
    → (run.place ≡ n) × HavePaired first second trace n run.pair × AgreeBelow (n + 1) (outcomes_on first trace) (outcomes_on second trace)
before first second trace n run none has =
    subst (λ o. IfNone o ((run.place ≡ n) × HavePaired first second trace n run.pair × AgreeBelow (n + 1) (outcomes_on first trace) (outcomes_on second trace))) none has.none

pub advance-requires : goal.advance-requires
advance-requires g c =
    let n = c.requires in
    let none : c.args.self.now.found ≡ None = search rules in
    let at = before n.0 n.1 n.2.trace n.2.place c.args.self.now none n.2.taken in
    (n.0, n.1, record { trace = n.2.trace; place = n.2.place; next = n.2.next; few = n.2.few; taken = at.1 })

pub loop-i-init : goal.loop-i-init
loop-i-init g c =
    let none : c.args.self.now.found ≡ None = search rules in (
      none,
      (λ first second trace n next has.
          let at = before first second trace n c.args.self.now none has in
          let step : n + 1 ≡ n + 0 + 1 = omega arith in (
            c.in_ok-advance.ensures first second trace n next at.1,
            at.0,
            subst (λ (m : ℕ). AgreeBelow m (outcomes_on first trace) (outcomes_on second trace)) step at.2,
          )),
    )

pub loop-i-preserved : goal.loop-i-preserved
loop-i-preserved g c = (
  c.loop-i.invariant.0,
  (λ first second trace n next has.
      let i = c.loop-i.i in
      let at = c.loop-i.invariant.1 first second trace n next has in
      let hits = c.hits_at-first.ensures in
      let step : n + i + 1 + 1 ≡ n + (i + 1) + 1 = omega arith in (
        at.0,
        at.1,
        subst (λ (m : ℕ). AgreeBelow m (outcomes_on first trace) (outcomes_on second trace)) step
            (agree-next (outcomes_on first trace) (outcomes_on second trace) (n + i)
            (sym (hits.0 ∙ at.0.one.hits i c.loop-i-test.true) ∙ agrees _ _ c.if-first-second.false ∙ hits.1 ∙ at.0.other.hits i c.loop-i-test.true) at.2),
      )),
)

pub returns : goal.returns
returns g c = λ first second trace n next has.
    let size = length c.args.keys.now in
    let all : c.loop-i.i ≡ size = omega (arith, c.loop-i-test.false) in
    let at = c.loop-i.invariant.1 first second trace n next has in
    let agree = subst (λ (m : ℕ). AgreeBelow (n + m + 1) (outcomes_on first trace) (outcomes_on second trace)) all at.2 in
    let none = sym c.loop-i.invariant.0 in
    record {
      within = next.within;
      some = subst (λ o. IfSome o (λ p. IsPart (outcomes_on first trace) (outcomes_on second trace) (Some p))) none tt;
      none = subst (λ o. IfNone o ((c.loop-i.self.place + size ≡ n + size) × HavePaired first second trace (n + size) c.loop-i.self.pair × AgreeBelow (n + size + 1) (outcomes_on first trace) (outcomes_on second trace))) none
          (ap (λ (m : ℕ). m + size) at.1, record { one = at.0.one.run; other = at.0.other.run }, agree);
    }
