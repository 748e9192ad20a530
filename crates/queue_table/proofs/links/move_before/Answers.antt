use Rattle.std.proofs.lemmas.Bool.Decides.{nat_tests}
use Rattle.std.proofs.Common.{map, arith}
use Rattle.std.proofs.lemmas.List.{length-map}
use Rattle.queue_table.specs.Ring.{newers, olders, ring_of}
use Rattle.queue_table.proofs.Turning.{IsTurned, IsMoved, turned, moved}
use Rattle.queue_table.proofs.Holding.{slots-length}
use Rattle.queue_table.proofs.SlotWrites.{links-then}
use Rattle.queue_table.proofs.links.move_before.Given as given
use Rattle.queue_table.proofs.links.move_before.Goals as goal
use Rattle.queue_table.proofs.links.move_before.Goals.{Start, After-link}

turned-there : (g : given.Over) (c : goal.Start g) → IsTurned (newers (map g.S.RingSlot.shown c.args.slots.now)) (olders (map g.S.RingSlot.shown c.args.slots.now)) (ring_of (newers (map g.S.RingSlot.shown c.args.slots.now))) c.args.at c.args.before
turned-there g c = let n = slots-length (map g.S.RingSlot.shown c.args.slots.now) in turned _ _ _ c.args.at c.args.before c.requires.ring c.requires.at.0 (omega (arith, n)) (omega (arith, n)) c.requires.apart

moved-there : (g : given.Over) (c : goal.After-link g) → IsTurned (newers (map g.S.RingSlot.shown c.args.slots.now)) (olders (map g.S.RingSlot.shown c.args.slots.now)) (ring_of (newers (map g.S.RingSlot.shown c.args.slots.now))) c.args.at c.args.before
    → IsMoved (newers (map g.S.RingSlot.shown c.args.slots.now)) (olders (map g.S.RingSlot.shown c.args.slots.now)) (newers (map g.S.RingSlot.shown c.link.new.slots)) (olders (map g.S.RingSlot.shown c.link.new.slots)) c.args.at c.args.before
moved-there g c t = moved _ _ (newers (map g.S.RingSlot.shown c.unlink.new.slots)) (olders (map g.S.RingSlot.shown c.unlink.new.slots)) _ _ c.args.at c.args.before t c.unlink.ensures.newers c.unlink.ensures.olders c.link.ensures.newers c.link.ensures.olders

pub unlink-requires-clause-older : goal.unlink-requires-clause-older
unlink-requires-clause-older g c = let n = slots-length (map g.S.RingSlot.shown c.args.slots.now) in let o = (turned-there g (goal.at.unlink-requires-clause-older g c).Start).older_in in omega (arith, n, o)

pub unlink-requires-clause-newer : goal.unlink-requires-clause-newer
unlink-requires-clause-newer g c = let n = slots-length (map g.S.RingSlot.shown c.args.slots.now) in let o = (turned-there g (goal.at.unlink-requires-clause-newer g c).Start).newer_in in omega (arith, n, o)

pub link-requires-clause-older : goal.link-requires-clause-older
link-requires-clause-older g c =
    grind (arith, nat_tests, slots-length (map g.S.RingSlot.shown c.args.slots.now), length-map c.unlink.new.slots g.S.RingSlot.shown, length-map c.args.slots.now g.S.RingSlot.shown, turned-there g (goal.at.link-requires-clause-older g c).Start)

pub returns-clause-ring : goal.returns-clause-ring
returns-clause-ring g c = let at = goal.at.returns-clause-ring g c in (moved-there g at.After-link (turned-there g at.Start)).ring

pub returns-clause-order : goal.returns-clause-order
returns-clause-order g c = let at = goal.at.returns-clause-order g c in (moved-there g at.After-link (turned-there g at.Start)).order

pub returns-clause-only : goal.returns-clause-only
returns-clause-only g c = links-then _ _ _ c.unlink.ensures.only c.link.ensures.only
