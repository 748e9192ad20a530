use Rattle.std.proofs.lemmas.Bool.Decides.{nat_tests}
use Rattle.std.proofs.Common.{◌≡◌, ◌+◌, ◌<◌, suc, length, get_or, ap, arith}
use Rattle.std.proofs.lemmas.List.{get_or_read, take_all}
use Rattle.queue_cache.proofs.Histories.{may-count}
use Rattle.queue_cache.proofs.Reading.{IsSummed, sum-small, more-summed, curve-summed}
use Rattle.queue_cache.proofs.curve.Curve.of_trace.Goals as goal
use Rattle.queue_cache.proofs.Prefix.{no-hits, within-more}

pub into_counts-hits-requires : goal.into_counts-hits-requires
into_counts-hits-requires c = let inv = c.loop-place.invariant in may-count c.keys-keys.result.now c.loop-place.place c.loop-place.histogram inv.few inv.counted

pub loop-c-init : goal.loop-c-init
loop-c-init c =
    let inv = c.loop-place.invariant in
    let hits = c.into_counts-hits.result.items in
    let summed : IsSummed c.args.trace.now hits 0 0 = (grind (arith, nat_tests, take_all c.loop-place.place c.keys-keys.result.now (omega arith), no-hits c.args.trace.now)) in
    grind (arith, nat_tests)

pub overflow_add-sum : goal.overflow_add-sum
overflow_add-sum c =
    let inv = c.loop-c.invariant in
    let hits = c.loop-c.hits.items in
    let in_it : c.loop-c.c < length hits = omega (arith, inv.end, inv.summed.long) in
    omega (arith, get_or_read hits _ _ in_it c.index.ensures 0, within-more, sum-small c.args.trace.now (suc c.loop-c.c), ap length inv.same, inv.few)

pub loop-c-preserved : goal.loop-c-preserved
loop-c-preserved c =
    let inv = c.loop-c.invariant in
    let hits = c.loop-c.hits.items in
    let in_it : c.loop-c.c < length hits = omega (arith, inv.end, inv.summed.long) in
    let read : c.index.result.now ≡ get_or hits c.loop-c.c 0 = get_or_read hits _ _ in_it c.index.ensures 0 in
    let next : c.loop-c.c + 1 ≡ suc c.loop-c.c = omega arith in
    record {
      same = inv.same;
      few = inv.few;
      end = inv.end;
      summed = rw next (more-summed c.args.trace.now hits c.loop-c.sum c.loop-c.c (c.loop-c.sum + c.index.result.now) in_it inv.summed (ap (λ x. c.loop-c.sum + x) read));
    }

pub returns : goal.returns
returns c =
    let inv = c.loop-c.invariant in
    curve-summed c.args.trace.now c.loop-c.hits.items (length c.keys-keys.result.now) c.loop-c.sum c.loop-c.c (ap length inv.same) (omega (arith, inv.end, inv.summed.long)) inv.summed

pub invariant_of-result : goal.invariant_of-result
invariant_of-result c =
    let inv = c.loop-c.invariant in
    record {
      keys = c.args.trace.now;
      gives = curve-summed c.args.trace.now c.loop-c.hits.items (length c.keys-keys.result.now) c.loop-c.sum c.loop-c.c (ap length inv.same) (omega (arith, inv.end, inv.summed.long)) inv.summed;
      few = omega (arith, ap length inv.same, inv.few);
    }
