use Rattle.std.proofs.lemmas.Bool.Decides.{nat_tests}
use Rattle.std.proofs.Common.{◌∙◌, ap, refl, arith, true}
use Rattle.std.proofs.lemmas.List.{get_or_default}
use Rattle.queue_table.specs.Trees.{branch}
use Rattle.queue_table.proofs.Indexing.{step, within-below, found-none, found-here, found-on}
use Rattle.queue_table.proofs.slot_index.SlotIndex.+find_below.Goals as goal

pub item-requires : goal.item-requires
item-requires g t c =
    let n = c.index-at.ensures ∙ get_or_default _ _ _ 0 c.requires.has.whole.within in
    let s = step _ _ c.args.place c.index-at.result.now (branch _ c.index-at.result.now true) true c.requires.has.shown c.requires.has.whole n c.if-at-eq0.false refl in
    c.requires.within _ s.here

pub returns-then-at-eq0 : goal.returns-then-at-eq0
returns-then-at-eq0 g t c u w s = grind (arith, nat_tests, get_or_default, found-none)

pub returns-then-is_same : goal.returns-then-is_same
returns-then-is_same g t c u w s = grind (arith, nat_tests, get_or_default, found-here)

pub find_below-requires : goal.find_below-requires
find_below-requires g t c κs within =
    let n = c.index-at.ensures ∙ get_or_default _ _ _ 0 c.requires.has.whole.within in
    let b = c.branch_of-below.ensures ∙ ap (branch _ _) c.turns_right.ensures in
    let h = within-below _ c.args.place c.args.depth _ _ _ n b _ c.requires c.if-at-eq0.false in
    (omega (arith, h.has.few, c.decreases), (within, h))

pub returns : goal.returns
returns g t c u w s =
    let n = c.index-at.ensures ∙ get_or_default _ _ _ 0 c.requires.has.whole.within in
    let b = c.branch_of-below.ensures ∙ ap (branch _ _) c.turns_right.ensures in
    found-on _ _ c.args.place c.args.depth _ _ _ _ _ u w s n c.if-at-eq0.false (λ e. c.is_same.ensures.other c.if-is_same.false (c.item.ensures ∙ e)) b c.find_below.ensures
