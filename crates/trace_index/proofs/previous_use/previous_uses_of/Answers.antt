use Rattle.std.proofs.Common.{◌≡◌, refl, get_or, ◌∙◌, arith}
use Rattle.trace_index.specs.Uses.{last_below, number_of}
use Rattle.trace_index.proofs.Passes.{last-onward, set-place, set-long}
use Rattle.trace_index.proofs.previous_use.previous_uses_of.Goals as goal

pub loop-place-preserved : goal.loop-place-preserved
loop-place-preserved c =
    let t = c.args.keys.now in
    let place = c.loop-place.place in
    let inv = c.loop-place.invariant in
    record {
      long = set-long c.loop-place.before.items _ _ _ inv.long;
      last = λ k. last-onward t place k (get_or t place 0) _ _ refl (c.in_ok-earlier.ensures.updates k) (inv.last k);
      right = λ i below. set-place (λ i v. v ≡ number_of (last_below t i (get_or t i 0))) c.loop-place.before.items place c.in_ok-earlier.earlier (omega (arith, inv.long, c.loop-place-test.true))
          (c.in_ok-earlier.ensures.old ∙ inv.last (get_or t place 0)) i
          (λ ne. inv.right i (omega (arith, below, ne)));
    }
