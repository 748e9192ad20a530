use Rattle.std.proofs.Common.{◌^◌, ◌<◌, ◌∙◌, true, length, ap, sym, arith}
use Rattle.std.proofs.lemmas.List.{get_or_default}
use Rattle.queue_table.specs.Trees.{branch}
use Rattle.queue_table.proofs.Indexing.{has-below, root-has, root-whole, free, added}
use Rattle.queue_table.proofs.Placing.{graft-end, graft-on}
use Rattle.queue_table.proofs.slot_index.SlotIndex.insert.Goals as goal

pub returns-then-next-eq0-clause-indexed : goal.returns-then-next-eq0-clause-indexed
returns-then-next-eq0-clause-indexed c item_of item_of2 used used2 x j =
    let b = c.bucket_of-bucket in
    let w = root-whole _ _ _ item_of used x b.result b.ensures.within in
    let n = c.index-next.ensures ∙ get_or_default _ _ _ 0 w.within in
    let room : branch (2 ^ c.args.self.now.bits) c.args.at true < length c.args.self.now.links.items = (let s = x.size in let a = c.requires.at.1 in omega (arith, s, a)) in
    added _ _ _ item_of used x c.args.at c.args.item item_of2 used2 j b.result b.ensures.bucket b.ensures.within _
    (graft-end _ _ b.result c.args.at 0 c.args.item (x.trees b.result) c.requires.at.0 room w (free _ _ _ item_of used x c.args.at b.result j.absent b.ensures.within) (sym n ∙ c.if-next-eq0.true))

pub graft-requires-clause-tree : goal.graft-requires-clause-tree
graft-requires-clause-tree c =
    let a = c.requires.absent in
    let b = c.bucket_of-bucket in
    let h = root-has c.args.self.now a.item_of a.used a.indexed b.result b.ensures.within in
    let n = c.index-next.ensures ∙ get_or_default _ _ _ 0 h.whole.within in
    has-below c.args.self.now b.result 0 _ _ _ n (c.branch_of-below.ensures ∙ ap (branch _ _) c.turns_right.ensures) h c.if-next-eq0.false

pub returns-clause-indexed : goal.returns-clause-indexed
returns-clause-indexed c item_of item_of2 used used2 x j =
    let b = c.bucket_of-bucket in
    let w = root-whole _ _ _ item_of used x b.result b.ensures.within in
    let n = c.index-next.ensures ∙ get_or_default _ _ _ 0 w.within in
    rw (c.graft.ensures.bits, c.graft.ensures.multiplier) (added _ _ _ item_of used x c.args.at c.args.item item_of2 used2 j b.result b.ensures.bucket b.ensures.within _
    (graft-on _ _ _ b.result c.args.at 0 _ _ c.args.item (x.trees b.result) w (free _ _ _ item_of used x c.args.at b.result j.absent b.ensures.within) n c.if-next-eq0.false
    (c.branch_of-below.ensures ∙ ap (branch _ _) c.turns_right.ensures) c.graft.ensures.grafted))
