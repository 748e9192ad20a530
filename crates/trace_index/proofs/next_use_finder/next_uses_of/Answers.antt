use Rattle.std.proofs.lemmas.Grind.{common_steps}
use Rattle.std.proofs.Common.{◌≡◌, ◌-◌, ◌<◌, get_or, ◌∙◌, arith, refl, suc}
use Rattle.trace_index.specs.PackedKeys.{unpacked}
use Rattle.trace_index.specs.Uses.{next, next_from, number_of}
use Rattle.trace_index.proofs.Passes.{next-back, set-place, set-long}
use Rattle.trace_index.proofs.next_use_finder.next_uses_of.Goals as goal

pub loop-back-preserved : goal.loop-back-preserved
loop-back-preserved c =
    let t = unpacked c.args.keys.now in
    let len = c.len-len.result in
    let back = c.loop-back.back in
    let inv = c.loop-back.invariant in
    let lt : back < len = c.loop-back-test.true in
    let key = c.get.result in
    let found : c.in_ok-next.next ≡ number_of (next_from t (len - back) key) = c.in_ok-next.ensures.old ∙ inv.following key in
    record {
      len = inv.len;
      few = inv.few;
      long = set-long c.loop-back.after.items _ _ len inv.long;
      following = λ k. next-back t len back k key _ _ inv.len lt c.get.ensures (c.in_ok-next.ensures.updates k) (inv.following k);
      right = λ i from to. set-place (λ i v. v ≡ number_of (next t i (get_or t i 0))) c.loop-back.after.items (len - 1 - back) c.in_ok-next.next (omega (arith, inv.long, lt))
          (let after : len - back ≡ suc (len - 1 - back) = omega arith in found ∙ rw (after, c.get.ensures) refl) i
          (λ ne. inv.right i (omega (arith, from, to, ne)) to);
    }

pub loop-back-init : goal.loop-back-init
loop-back-init c = grind (arith, common_steps)
