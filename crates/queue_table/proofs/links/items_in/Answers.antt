use Rattle.std.proofs.lemmas.Grind.{elements}
use Rattle.std.proofs.Common.{map, ◌≡◌, ◌≤◌, ◌+◌, ◌-◌, ◌∙◌, ◌++◌, ◌∷◌, [], get_or, ap, sym, arith}
use Rattle.queue_table.specs.Ring.{slot_item, entries, newers, order_of}
use Rattle.queue_table.proofs.Ends.{newer-in, walk-on}
use Rattle.queue_table.proofs.links.items_in.Goals as goal

pub item_of-requires : goal.item_of-requires
item_of-requires g c =
    let s = (map g.S.RingSlot.shown c.args.slots.now) in
    let some : 1 ≤ c.args.len = omega arith in
    rw (← c.newer_than-at.ensures) (newer-in s (order_of s) (c.requires.ring some) c.loop-step.at (c.loop-step.invariant.within some))

pub loop-step-preserved : goal.loop-step-preserved
loop-step-preserved g c =
    let s = (map g.S.RingSlot.shown c.args.slots.now) in
    let some : 1 ≤ c.args.len = omega arith in
    let f = c.newer_than-at.ensures in
    let h = c.item_of.ensures in
    let e : c.push.new.self.items ≡ c.loop-step.list.items ++ slot_item (entries s) (get_or (newers s) c.loop-step.at 0) ∷ [] = c.in_ok-push.ensures.items ∙ ap (λ i. c.loop-step.list.items ++ i ∷ []) (sym h ∙ ap (λ k. slot_item (entries s) k) (sym f)) in
    record {
      within = λ _. rw (← f) (newer-in s (order_of s) (c.requires.ring some) c.loop-step.at (c.loop-step.invariant.within some));
      whole = rw (← f) (walk-on (newers s) (entries s) c.loop-step.at (c.args.len - c.loop-step.step) (c.args.len - (c.loop-step.step + 1)) c.loop-step.list.items c.push.new.self.items (omega arith) e ∙ c.loop-step.invariant.whole);
    }

pub loop-step-init : goal.loop-step-init
loop-step-init g c = grind (arith, elements)
