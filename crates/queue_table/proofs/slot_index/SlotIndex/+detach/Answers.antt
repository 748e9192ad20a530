use Rattle.std.proofs.lemmas.Bool.Decides.{nat_tests}
use Rattle.std.proofs.Common.{◌∙◌, ap, sym, arith}
use Rattle.std.proofs.lemmas.List.{get_or_default}
use Rattle.queue_table.specs.Trees.{branch}
use Rattle.queue_table.proofs.Trees.{members}
use Rattle.queue_table.proofs.Indexing.{has-top, top-room, way-below}
use Rattle.queue_table.proofs.Lifting.{lift-bare}
use Rattle.queue_table.proofs.Placing.{detach-end, detach-on}
use Rattle.queue_table.proofs.slot_index.SlotIndex.+detach.Goals as goal

pub lift-requires : goal.lift-requires
lift-requires t c = grind (arith, nat_tests, get_or_default, has-top, members)

pub is_bare-requires-clause-within : goal.is_bare-requires-clause-within
is_bare-requires-clause-within t c = grind (arith, nat_tests, get_or_default, top-room, has-top, members)

pub returns-then-is_bare-clause-detached : goal.returns-then-is_bare-clause-detached
returns-then-is_bare-clause-detached t c u item_of w there =
    let n = c.index-next.ensures ∙ get_or_default _ _ _ 0 w.within in
    let some = (members _ _ c.args.place u c.args.at w.tree there.stands).0 in
    detach-end _ _ _ c.args.place c.args.at c.args.depth c.args.item u w there.stands (sym n ∙ c.if-next-at.true)
    (lift-bare _ _ c.args.place c.args.at u w (sym n ∙ c.if-next-at.true) some (c.is_bare.ensures c.if-is_bare.true))

pub returns-else-is_bare-clause-detached : goal.returns-else-is_bare-clause-detached
returns-else-is_bare-clause-detached t c u item_of w there = grind (arith, nat_tests, get_or_default, detach-end)

pub detach-requires : goal.detach-requires
detach-requires t c =
    let n = c.index-next.ensures ∙ get_or_default _ _ _ 0 c.requires.has.whole.within in
    let b = c.branch_of-below.ensures ∙ ap (branch _ _) c.turns_right.ensures in
    let h = way-below c.args.self.now c.args.place c.args.at _ _ c.args.item c.args.depth c.requires n c.if-next-at.false b in
    (omega (arith, h.has.few, c.decreases), h)

pub returns-clause-detached : goal.returns-clause-detached
returns-clause-detached t c u item_of w there =
    let n = c.index-next.ensures ∙ get_or_default _ _ _ 0 w.within in
    let b = c.branch_of-below.ensures ∙ ap (branch _ _) c.turns_right.ensures in
    detach-on _ _ _ c.args.place c.args.at c.args.depth _ _ c.args.item item_of u w there n c.if-next-at.false b (λ v x y. c.detach.ensures.detached v item_of x y)
