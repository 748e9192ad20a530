use Rattle.std.proofs.Common.{eqb, cond, refl, sym, ◌∙◌, rules}
use Rattle.std.proofs.lemmas.List.{get_or_default}
use Rattle.queue_table.proofs.Trees.{members}
use Rattle.queue_table.proofs.Indexing.{has-top, top-room, root-has, root-whole, stands, removed}
use Rattle.queue_table.proofs.Lifting.{lift-bare}
use Rattle.queue_table.proofs.Placing.{detach-end}
use Rattle.queue_table.proofs.slot_index.SlotIndex.remove.Goals as goal

pub detach-requires : goal.detach-requires
detach-requires c =
    let q = c.requires in
    let b = c.bucket_of-bucket in
    record {
      has = root-has c.args.self.now q.item_of q.used q.indexed b.result b.ensures.within;
      item_of = q.item_of;
      there = stands _ _ _ q.item_of q.used q.indexed c.args.at c.args.item (λ k. cond (eqb k c.args.at) 0 (q.used k)) record { there = q.there; its = q.its; counted = λ k. refl } b.result b.ensures.bucket b.ensures.within;
    }

pub returns-clause-indexed : goal.returns-clause-indexed
returns-clause-indexed c item_of used used2 x j =
    let b = c.bucket_of-bucket in
    rw (c.detach.ensures.bits, c.detach.ensures.multiplier) (removed _ _ _ item_of used x c.args.at c.args.item used2 j b.result b.ensures.bucket b.ensures.within _
    (c.detach.ensures.detached (x.trees b.result) item_of (root-whole _ _ _ item_of used x b.result b.ensures.within) (stands _ _ _ item_of used x c.args.at c.args.item used2 j b.result b.ensures.bucket b.ensures.within))
    c.detach.ensures.bare)

pub is_bare-requires-clause-within : goal.is_bare-requires-clause-within
is_bare-requires-clause-within c =
    let q = c.requires in
    let b = c.bucket_of-bucket in
    let h = root-has c.args.self.now q.item_of q.used q.indexed b.result b.ensures.within in
    let there = stands _ _ _ q.item_of q.used q.indexed c.args.at c.args.item (λ k. cond (eqb k c.args.at) 0 (q.used k)) record { there = q.there; its = q.its; counted = λ k. refl } b.result b.ensures.bucket b.ensures.within in
    let n = c.index.ensures ∙ get_or_default _ _ _ 0 h.whole.within in
    top-room c.args.self.now b.result c.args.at (has-top _ _ _ h) (sym n ∙ c.if-index-at.true) (members _ _ b.result h.shown c.args.at h.whole.tree there.stands).0

pub returns-then-is_bare-clause-indexed : goal.returns-then-is_bare-clause-indexed
returns-then-is_bare-clause-indexed c item_of used used2 x j =
    let b = c.bucket_of-bucket in
    let w = root-whole _ _ _ item_of used x b.result b.ensures.within in
    let there = stands _ _ _ item_of used x c.args.at c.args.item used2 j b.result b.ensures.bucket b.ensures.within in
    let n = c.index.ensures ∙ get_or_default _ _ _ 0 w.within in
    let first = sym n ∙ c.if-index-at.true in
    let bare = c.is_bare.ensures c.if-is_bare.true in
    removed _ _ _ item_of used x c.args.at c.args.item used2 j b.result b.ensures.bucket b.ensures.within _
    (detach-end _ _ _ b.result c.args.at 0 c.args.item (x.trees b.result) w there.stands first
    (lift-bare _ _ b.result c.args.at (x.trees b.result) w first (members _ _ b.result (x.trees b.result) c.args.at w.tree there.stands).0 bare))
    (search (rules, bare))
