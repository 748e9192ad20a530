use Rattle.std.proofs.Common.{◌≡◌, ◌∙◌, ◌+◌, ◌-◌, ◌≤◌, ◌<◌, suc, List, ℕ, length, map, ap, sym, subst, arith}
use Rattle.std.specs.Prelude.{slice_index}
use Rattle.segments.specs.declared.named_queue.QueueKey.{QueueKey}
use Rattle.clairvoyant.specs.Clairvoyant.{ClairvoyantState}
use Rattle.clairvoyant.specs.Keys.{IsAscendingKeys}
use Rattle.clairvoyant.specs.NextAccesses.{next_accesses, renumbered, with_next}
use Rattle.clairvoyant.proofs.Belady.{residents-ascending}
use Rattle.clairvoyant.proofs.NextAccesses.{back, keys-kept}
use Rattle.clairvoyant.proofs.clairvoyant.Clairvoyant.next_accesses.Goals as goal

pub renumber-requires-clause-keys : goal.renumber-requires-clause-keys
renumber-requires-clause-keys c =
    ap (map (λ (e : QueueKey). e.key)) c.loop-place.invariant.next ∙ keys-kept c.self.inside.core.uses c.loop-place.place c.args.keys.now

pub renumber-requires-clause-ascending : goal.renumber-requires-clause-ascending
renumber-requires-clause-ascending c =
    let s = c.self.inside in
    subst IsAscendingKeys (sym (c.requires ∙ ap (λ (d : ClairvoyantState). d.residents) (sym c.self.view_is)))
    (residents-ascending s.core.capacity s.core.uses s.stats.accesses)

pub loop-place-preserved : goal.loop-place-preserved
loop-place-preserved c =
    let t : List ℕ = c.self.inside.core.uses in
    let keys : List ℕ = c.args.keys.now in
    let place : ℕ = c.loop-place.place in
    let p : ℕ = place - 1 in
    let past : 1 ≤ place = omega (arith, c.loop-place-test.true) in
    let below : p < length t = omega (arith, past, c.loop-place.invariant.within) in
    let one : p + 1 ≡ suc p = omega arith in
    let here : place ≡ suc p = omega (arith, past) in
    record {
      next = c.renumber.ensures ∙ ap (renumbered c.key.result (p + 1)) c.loop-place.invariant.next
          ∙ ap (λ k. renumbered k (p + 1) (map (with_next t place) keys)) c.key.ensures
          ∙ ap (λ n. renumbered (slice_index t p) n (map (with_next t place) keys)) one
          ∙ ap (λ n. renumbered (slice_index t p) (suc p) (map (with_next t n) keys)) here
          ∙ back t p keys below;
      least = omega (arith, c.loop-place-test.true);
      within = omega (arith, c.loop-place.invariant.within);
    }
