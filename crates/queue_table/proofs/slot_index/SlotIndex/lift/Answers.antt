use Rattle.std.proofs.Common.{◌+◌, ◌^◌, ◌∙◌, ◌<◌, length, set, length-set, ap, arith, false}
use Rattle.std.proofs.lemmas.List.{get_or_default}
use Rattle.queue_table.specs.Trees.{branch}
use Rattle.queue_table.proofs.Indexing.{top-room}
use Rattle.queue_table.proofs.Lifting.{lowest-real, lift-one, lift-more, moved, first-gone, cleared-replaces}
use Rattle.queue_table.proofs.slot_index.SlotIndex.lift.Goals as goal
use Rattle.queue_table.proofs.slot_index.SlotIndex.lift.Goals.{After-branch_of-from, After-branch_of-to}

-- the links have the branches of the slot, and those of the lowest one
from-room : (c : goal.After-branch_of-from) → c.branch_of-from.result + 1 < length c.pluck-lowest.new.self.links.items
from-room c =
    let h = c.requires.tree in
    let r = top-room c.args.self.now c.args.place c.args.at h c.requires.first c.requires.some in
    let s = (c.pluck-lowest.ensures.plucked h.shown h.whole).size in
    rw (c.branch_of-from.ensures, c.pluck-lowest.ensures.bits) (omega (arith, r, s))

to-room : (c : goal.After-branch_of-to) → c.branch_of-to.result + 1 < length c.pluck-lowest.new.self.links.items
to-room c =
    let h = c.requires.tree in
    let p = c.pluck-lowest.ensures in
    let r = (lowest-real _ _ c.args.place c.args.at c.pluck-lowest.result h.shown h.whole c.requires.first c.requires.some (p.lowest h.shown h.whole)).1 in
    let s = (p.plucked h.shown h.whole).size in
    rw (c.branch_of-to.ensures, p.bits) (omega (arith, r, s))

pub returns-then-lowest-at-clause-lifted : goal.returns-then-lowest-at-clause-lifted
returns-then-lowest-at-clause-lifted c u w =
    let p = c.pluck-lowest.ensures in
    lift-one _ _ _ c.args.place c.args.at c.pluck-lowest.result u w c.requires.first c.requires.some c.if-lowest-at.true (p.lowest u w) (p.plucked u w)

pub index-requires : goal.index-requires
index-requires c = let r = from-room (goal.at.index-requires c).After-branch_of-from in omega (arith, r)

pub index_mut-requires : goal.index_mut-requires
index_mut-requires c = let r = to-room (goal.at.index_mut-requires c).After-branch_of-to in omega (arith, r)

pub index-requires-2 : goal.index-requires-2
index-requires-2 c = let r = from-room (goal.at.index-requires-2 c).After-branch_of-from in omega (arith, r)

pub index_mut-requires-2 : goal.index_mut-requires-2
index_mut-requires-2 c = let r = to-room (goal.at.index_mut-requires-2 c).After-branch_of-to in omega (arith, r)

pub returns-clause-lifted : goal.returns-clause-lifted
returns-clause-lifted c u w =
    let p = c.pluck-lowest.ensures in
    let links = c.pluck-lowest.new.self.links.items in
    let to = c.branch_of-to.result in
    let from = c.branch_of-from.result in
    let within = from-room (goal.at.returns-clause-lifted c).After-branch_of-from in
    let s = length-set links to c.index.result.now in
    let x = c.index.ensures ∙ get_or_default links from c.index.result.now 0 (omega (arith, within)) in
    let y = c.index-2.ensures ∙ get_or_default (set links to c.index.result.now) (from + 1) c.index-2.result.now 0 (omega (arith, within, s)) in
    let m = moved c.args.place links to from c.pluck-lowest.result _ _ _ _ (c.branch_of-to.ensures ∙ ap (λ n. branch (2 ^ n) c.pluck-lowest.result false) p.bits) (c.branch_of-from.ensures ∙ ap (λ n. branch (2 ^ n) c.args.at false) p.bits) x y in
    let f = first-gone _ _ c.args.place c.args.at u w c.requires.first c.requires.some in
    let e = c.branch_of-from.ensures ∙ ap (λ n. branch (2 ^ n) c.args.at false) p.bits in
    cleared-replaces _ _ c.args.at from e _ c.args.place u _ w f.0 f.1
    (rw m (lift-more _ _ _ c.args.place c.args.at c.pluck-lowest.result u w c.requires.first c.requires.some c.if-lowest-at.false (p.lowest u w) (p.plucked u w)))

pub index_mut-requires-4 : goal.index_mut-requires-4
index_mut-requires-4 c = let r = from-room (goal.at.index_mut-requires-4 c).After-branch_of-from in omega (arith, r)

pub index_mut-requires-5 : goal.index_mut-requires-5
index_mut-requires-5 c = let r = from-room (goal.at.index_mut-requires-5 c).After-branch_of-from in omega (arith, r)
