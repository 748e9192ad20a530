use Rattle.std.proofs.lemmas.Bool.Decides.{nat_tests}
use Rattle.std.proofs.Common.{map, ◌∙◌, ◌+◌, ◌-◌, refl, arith}
use Rattle.queue_table.specs.Ring.{FIRST, entries, slot_item, count}
use Rattle.queue_table.specs.QueueTable.{from_first}
use Rattle.queue_table.proofs.Holding.{count-from_first, from_first-next}
use Rattle.queue_table.proofs.growth.fill.Goals as goal

pub loop-at-init : goal.loop-at-init
loop-at-init g c = record { indexed = c.requires.empty (slot_item (entries (map g.S.RingSlot.shown c.args.slots.now))); bits = refl }

pub insert-requires-clause-absent : goal.insert-requires-clause-absent
insert-requires-clause-absent g c =
    grind (arith, nat_tests, count-from_first (c.loop-at.at - FIRST) c.loop-at.at (omega arith))

pub loop-at-preserved : goal.loop-at-preserved
loop-at-preserved g c =
    let v = c.loop-at.invariant in
    let e = c.insert.ensures in
    record {
      indexed = e.indexed (slot_item (entries (map g.S.RingSlot.shown c.args.slots.now))) (slot_item (entries (map g.S.RingSlot.shown c.args.slots.now))) (λ k. count k (from_first (c.loop-at.at - FIRST))) (λ k. count k (from_first (c.loop-at.at + 1 - FIRST))) v.indexed record {
        absent = count-from_first (c.loop-at.at - FIRST) c.loop-at.at (omega arith);
        its = c.item_of.ensures;
        others = λ j _. refl;
        counted = from_first-next c.loop-at.at (c.loop-at.at - FIRST) (c.loop-at.at + 1 - FIRST) (omega arith) refl refl;
      };
      bits = e.bits ∙ v.bits;
    }
