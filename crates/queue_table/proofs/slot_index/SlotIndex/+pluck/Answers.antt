use Rattle.std.proofs.lemmas.Grind.{common_steps}
use Rattle.std.proofs.Common.{ℕ, ◌≡◌, ◌+◌, ◌^◌, ◌∙◌, ◌<◌, length, arith, true, false}
use Rattle.std.proofs.lemmas.List.{get_or_default}
use Rattle.queue_table.specs.Trees.{branch}
use Rattle.queue_table.proofs.Indexing.{step, has-below, has-top, smaller}
use Rattle.queue_table.proofs.Placing.{pluck-end, pluck-left, pluck-right}
use Rattle.queue_table.proofs.slot_index.SlotIndex.+pluck.Goals as goal
use Rattle.queue_table.proofs.slot_index.SlotIndex.+pluck.Goals.{After-branch_of-left}

-- the links have the branches of the slot
left-room : (t : ℕ) (c : goal.After-branch_of-left t) → c.branch_of-left.result + 1 < length c.args.self.now.links.items
left-room t c =
    let h = c.requires.tree in
    let n = c.index-at.ensures ∙ get_or_default _ _ _ 0 h.whole.within in
    let b = c.branch_of-left.ensures in
    let r = (step _ _ c.args.place _ _ false h.shown h.whole n (λ z. let s = c.requires.some in omega (arith, n, z, s)) b).room in
    omega (arith, r, b)

pub index-requires : goal.index-requires
index-requires t c = let r = left-room t (goal.at.index-requires t c).After-branch_of-left in omega (arith, r)

pub pluck-requires : goal.pluck-requires
pluck-requires t c =
    let h = c.requires.tree in
    let n = c.index-at.ensures ∙ get_or_default _ _ _ 0 h.whole.within in
    let z : c.index-at.result.now ≡ 0 → ⊥ = (λ q. let s = c.requires.some in omega (arith, n, q, s)) in
    let b = c.branch_of-left.ensures in
    let m = smaller _ _ c.args.place _ _ false h.shown h.whole n z b in
    let below = has-below c.args.self.now c.args.place 0 _ _ false n b h z in
    let v = c.index.ensures ∙ get_or_default _ _ _ 0 below.whole.within in
    (omega (arith, m, c.decreases), (has-top _ _ _ below, (let i = c.if-index-ne0.true in omega (arith, v, i))))

pub returns-then-index-ne0-clause-plucked : goal.returns-then-index-ne0-clause-plucked
returns-then-index-ne0-clause-plucked t c u w =
    let n = c.index-at.ensures ∙ get_or_default _ _ _ 0 w.within in
    (pluck-left _ _ c.args.place _ _ n (omega (arith, n, c.requires.some)) c.branch_of-left.ensures _ c.pluck.result _ u w c.index.ensures c.if-index-ne0.true c.pluck.ensures.plucked c.pluck.ensures.lowest).0

pub returns-then-index-ne0-clause-lowest : goal.returns-then-index-ne0-clause-lowest
returns-then-index-ne0-clause-lowest t c u w =
    let n = c.index-at.ensures ∙ get_or_default _ _ _ 0 w.within in
    (pluck-left _ _ c.args.place _ _ n (omega (arith, n, c.requires.some)) c.branch_of-left.ensures _ c.pluck.result _ u w c.index.ensures c.if-index-ne0.true c.pluck.ensures.plucked c.pluck.ensures.lowest).1

pub index-requires-2 : goal.index-requires-2
index-requires-2 t c = let r = left-room t (goal.at.index-requires-2 t c).After-branch_of-left in omega (arith, r)

pub pluck-requires-then-index-ne0-2 : goal.pluck-requires-then-index-ne0-2
pluck-requires-then-index-ne0-2 t c =
    let h = c.requires.tree in
    let n = c.index-at.ensures ∙ get_or_default _ _ _ 0 h.whole.within in
    let z : c.index-at.result.now ≡ 0 → ⊥ = (λ q. let s = c.requires.some in omega (arith, n, q, s)) in
    let b : c.branch_of-left.result + 1 ≡ branch (2 ^ c.args.self.now.bits) c.index-at.result.now true = omega (arith, c.branch_of-left.ensures) in
    let m = smaller _ _ c.args.place _ _ true h.shown h.whole n z b in
    let below = has-below c.args.self.now c.args.place 0 _ _ true n b h z in
    let v = c.index-2.ensures ∙ get_or_default _ _ _ 0 below.whole.within in
    (omega (arith, m, c.decreases), (has-top _ _ _ below, (let i = c.if-index-ne0-2.true in omega (arith, v, i))))

pub returns-then-index-ne0-2-clause-plucked : goal.returns-then-index-ne0-2-clause-plucked
returns-then-index-ne0-2-clause-plucked t c u w =
    let n = c.index-at.ensures ∙ get_or_default _ _ _ 0 w.within in
    let p = c.pluck-then-index-ne0-2 in
    (pluck-right _ _ c.args.place _ _ n (omega (arith, n, c.requires.some)) c.branch_of-left.ensures _ p.result _ _ u w c.index.ensures c.if-index-ne0.false c.index-2.ensures c.if-index-ne0-2.true p.ensures.plucked p.ensures.lowest).0

pub returns-then-index-ne0-2-clause-lowest : goal.returns-then-index-ne0-2-clause-lowest
returns-then-index-ne0-2-clause-lowest t c u w =
    let n = c.index-at.ensures ∙ get_or_default _ _ _ 0 w.within in
    let p = c.pluck-then-index-ne0-2 in
    (pluck-right _ _ c.args.place _ _ n (omega (arith, n, c.requires.some)) c.branch_of-left.ensures _ p.result _ _ u w c.index.ensures c.if-index-ne0.false c.index-2.ensures c.if-index-ne0-2.true p.ensures.plucked p.ensures.lowest).1

pub returns-clause-plucked : goal.returns-clause-plucked
returns-clause-plucked t c u w = grind (arith, common_steps, get_or_default, pluck-end)

pub returns-clause-lowest : goal.returns-clause-lowest
returns-clause-lowest t c u w =
    let n = c.index-at.ensures ∙ get_or_default _ _ _ 0 w.within in
    (pluck-end _ _ c.args.place _ _ n (omega (arith, n, c.requires.some)) c.branch_of-left.ensures _ _ u w c.index.ensures c.if-index-ne0.false c.index-2.ensures c.if-index-ne0-2.false).1
