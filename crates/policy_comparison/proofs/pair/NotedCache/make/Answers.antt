use Rattle.std.proofs.Common.{◌≡◌, ◌∙◌, ◌+◌, ℕ, List, Bool, length, ap, subst, sym, arith}
use Rattle.std.specs.Vec.{with_items}
use Rattle.std.proofs.Math.ListN.{length-set}
use Rattle.std.proofs.lemmas.List.{with_items_is}
use Rattle.policies.specs.AnyPolicy.{outcomes_on}
use Rattle.policy_comparison.specs.Pair.{HasRun}
use Rattle.policy_comparison.proofs.Walked.{IsNoted, key-at, noted-more}
use Rattle.policy_comparison.proofs.pair.NotedCache.make.Goals as goal

pub hit_at-requires-clause-ready : goal.hit_at-requires-clause-ready
hit_at-requires-clause-ready g c =
    let can = c.requires.1 in
    record {
      job = c.requires.0;
      trace = can.trace;
      place = can.place + c.loop-i.i;
      next = key-at can.trace c.args.keys.now can.place c.loop-i.i can.next c.loop-i-test.true;
      few = can.few;
      stands = (c.loop-i.invariant.1 c.requires.0 can.trace can.place can.next can.taken).0;
    }

pub loop-i-preserved : goal.loop-i-preserved
loop-i-preserved g c =
    let i = c.loop-i.i in (
      length-set c.loop-i.noted _ _ ∙ c.loop-i.invariant.0,
      (λ job trace n next run.
          let before = c.loop-i.invariant.1 job trace n next run in
          let stands = key-at trace c.args.keys.now n i next c.loop-i-test.true in
          let step : n + i + 1 ≡ n + (i + 1) = omega arith in (
            subst (λ (m : ℕ). HasRun job trace m c.hit_at.new.cache) step (c.in_ok-hit.ensures.stands job trace (n + i) stands before.0),
            noted-more c.loop-i.noted (outcomes_on job trace) n i c.in_ok-hit.hit (omega (arith, c.loop-i.invariant.0, c.loop-i-test.true))
                (c.in_ok-hit.ensures.hit job trace (n + i) stands before.0) before.1,
          )),
    )

pub returns : goal.returns
returns g c =
    let hits = c.resize.new.self in
    let flags : List Bool = c.loop-i.noted in
    let long = c.loop-i.invariant.0 in
    let same : (with_items hits flags).items ≡ flags = with_items_is hits flags (omega (arith, long, c.in_ok-resize.ensures.len)) in
    let all : c.loop-i.i ≡ length c.args.keys.now = omega (arith, c.loop-i-test.false) in
    record {
      noted = λ job trace n next run.
          let made = c.loop-i.invariant.1 job trace n next run in
          record {
            run = subst (λ (m : ℕ). HasRun job trace (n + m) c.loop-i.cache) all made.0;
            long = omega (arith, ap length same, long);
            hits = subst (λ (l : List Bool). IsNoted l (outcomes_on job trace) n (length c.args.keys.now)) (sym same)
                (subst (IsNoted flags (outcomes_on job trace) n) all made.1);
          };
    }
