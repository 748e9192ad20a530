use Rattle.std.proofs.lemmas.Grind.{common_steps}
use Rattle.std.proofs.Common.{◌∙◌, ap, arith}
use Rattle.std.proofs.lemmas.List.{get_or_default}
use Rattle.queue_table.specs.Trees.{branch}
use Rattle.queue_table.proofs.Indexing.{has-below}
use Rattle.queue_table.proofs.Placing.{graft-end, graft-on}
use Rattle.queue_table.proofs.slot_index.SlotIndex.+graft.Goals as goal

pub returns-then-next-eq0-clause-grafted : goal.returns-then-next-eq0-clause-grafted
returns-then-next-eq0-clause-grafted t c u w f = grind (arith, common_steps, get_or_default, graft-end)

pub graft-requires : goal.graft-requires
graft-requires t c =
    let n = c.index-next.ensures ∙ get_or_default _ _ _ 0 c.requires.tree.whole.within in
    let b = c.branch_of-below.ensures ∙ ap (branch _ _) c.turns_right.ensures in
    let h = has-below c.args.self.now c.args.place c.args.depth _ _ _ n b c.requires.tree c.if-next-eq0.false in
    (omega (arith, h.few, c.decreases), (c.requires.at, (c.requires.room, h)))

pub returns-clause-grafted : goal.returns-clause-grafted
returns-clause-grafted t c u w f =
    let n = c.index-next.ensures ∙ get_or_default _ _ _ 0 c.requires.tree.whole.within in
    let b = c.branch_of-below.ensures ∙ ap (branch _ _) c.turns_right.ensures in
    graft-on _ _ _ c.args.place c.args.at c.args.depth _ _ c.args.item u w f n c.if-next-eq0.false b c.graft.ensures.grafted
