use Rattle.std.proofs.Common.{◌∙◌, ap, sym, refl, true}
use Rattle.std.proofs.lemmas.List.{get_or_default}
use Rattle.queue_table.specs.Trees.{branch}
use Rattle.queue_table.proofs.Indexing.{step, within-below, found-none, found-here, found-on, root-within, root-whole, found-root}
use Rattle.queue_table.proofs.slot_index.SlotIndex.find.Goals as goal

pub item-requires : goal.item-requires
item-requires g c =
    let b = c.bucket_of-bucket in
    let h = root-within c.args.self.now _ c.requires b.result b.ensures.within in
    let n = c.index-at.ensures ∙ get_or_default _ _ _ 0 h.has.whole.within in
    let s = step _ _ b.result c.index-at.result.now (branch _ c.index-at.result.now true) true h.has.shown h.has.whole n c.if-at-eq0.false refl in
    h.within _ s.here

pub returns-then-at-eq0 : goal.returns-then-at-eq0
returns-then-at-eq0 g c used x =
    let b = c.bucket_of-bucket in
    let w = root-whole _ _ _ _ used x b.result b.ensures.within in
    let n = c.index-at.ensures ∙ get_or_default _ _ _ 0 w.within in
    found-root _ _ _ _ used x b.result _ _ b.ensures.bucket b.ensures.within (found-none _ _ b.result _ _ (x.trees b.result) w (sym n ∙ c.if-at-eq0.true))

pub returns-then-is_same : goal.returns-then-is_same
returns-then-is_same g c used x =
    let b = c.bucket_of-bucket in
    let w = root-whole _ _ _ _ used x b.result b.ensures.within in
    let n = c.index-at.ensures ∙ get_or_default _ _ _ 0 w.within in
    found-root _ _ _ _ used x b.result _ _ b.ensures.bucket b.ensures.within
    (found-here _ _ b.result _ _ _ (x.trees b.result) w n c.if-at-eq0.false (sym c.item.ensures ∙ c.is_same.ensures.same c.if-is_same.true))

pub find_below-requires : goal.find_below-requires
find_below-requires g c =
    let b = c.bucket_of-bucket in
    let h = root-within c.args.self.now _ c.requires b.result b.ensures.within in
    let n = c.index-at.ensures ∙ get_or_default _ _ _ 0 h.has.whole.within in
    within-below _ b.result 0 _ _ _ n (c.branch_of-below.ensures ∙ ap (branch _ _) c.turns_right.ensures) _ h c.if-at-eq0.false

pub returns : goal.returns
returns g c used x =
    let b = c.bucket_of-bucket in
    let w = root-whole _ _ _ _ used x b.result b.ensures.within in
    let n = c.index-at.ensures ∙ get_or_default _ _ _ 0 w.within in
    found-root _ _ _ _ used x b.result _ _ b.ensures.bucket b.ensures.within
    (found-on _ _ b.result 0 _ _ _ _ _ (x.trees b.result) w (x.sorted b.result b.ensures.within) n c.if-at-eq0.false (λ e. c.is_same.ensures.other c.if-is_same.false (c.item.ensures ∙ e))
    (c.branch_of-below.ensures ∙ ap (branch _ _) c.turns_right.ensures) c.find_below.ensures)
