use Rattle.std.proofs.Common.{map, ◌≡◌, ◌∙◌, ◌++◌, ◌∷◌, [], length, take, drop, ap, arith, length-append}
use Rattle.std.proofs.lemmas.List.{take_at, map-append, length-map}
use Rattle.queue_table.specs.Entries.{entry}
use Rattle.queue_table.specs.Ring.{Slot, newers, olders, entries, tags, order_of}
use Rattle.queue_table.proofs.Holding.{slots-length}
use Rattle.queue_table.proofs.SlotWrites.{no_slot}
use Rattle.queue_table.proofs.Tables.{ring-linked, older-first, olders-more}
use Rattle.queue_table.proofs.growth.add_slot.Given as given
use Rattle.queue_table.proofs.growth.add_slot.Goals as goal
use Rattle.queue_table.proofs.growth.add_slot.Goals.{After-deref_mut, After-link}

pushed : (g : given.Over) (c : After-deref_mut g) → map g.S.RingSlot.shown c.deref_mut.result.now ≡ map g.S.RingSlot.shown c.args.slots.now.items ++ no_slot ∷ []
pushed g c =
    ap (map g.S.RingSlot.shown) (c.deref_mut.ensures.value ∙ c.in_ok-push.ensures.items) ∙ (map-append g.S.RingSlot.shown c.args.slots.now.items (c.bare.result ∷ []) ∙ ap (λ x. map g.S.RingSlot.shown c.args.slots.now.items ++ x ∷ []) c.bare.ensures)

whole : (g : given.Over) (c : After-link g) → take c.push.new.self.len (c.link.new.slots ++ drop (length c.link.new.slots) c.push.new.self.items) ≡ c.link.new.slots
whole g c = take_at _ _ _ (omega arith)

pub link-requires-clause-older : goal.link-requires-clause-older
link-requires-clause-older g c =
    let e = pushed g (goal.at.link-requires-clause-older g c).After-deref_mut in
    let o = olders-more (map g.S.RingSlot.shown c.args.slots.now.items) (map g.S.RingSlot.shown c.deref_mut.result.now) e in
    let f = older-first (newers (map g.S.RingSlot.shown c.args.slots.now.items)) (olders (map g.S.RingSlot.shown c.args.slots.now.items)) (order_of (map g.S.RingSlot.shown c.args.slots.now.items)) c.requires.ring in
    let l = slots-length (map g.S.RingSlot.shown c.args.slots.now.items) in
    rw o (omega (arith, f, l, ap length e, length-append {A = Slot}))

pub returns-clause-ring : goal.returns-clause-ring
returns-clause-ring g c =
    let at = goal.at.returns-clause-ring g c in
    rw (whole g at.After-link) (ring-linked (map g.S.RingSlot.shown c.args.slots.now.items) (map g.S.RingSlot.shown c.deref_mut.result.now) (map g.S.RingSlot.shown c.link.new.slots) c.len-at.result (pushed g at.After-deref_mut) c.requires.ring (omega (arith, length-map c.args.slots.now.items g.S.RingSlot.shown)) c.link.ensures.newers c.link.ensures.olders)

pub returns-clause-entries : goal.returns-clause-entries
returns-clause-entries g c =
    let at = goal.at.returns-clause-entries g c in
    rw (whole g at.After-link) (c.link.ensures.only.entries ∙ ap entries (pushed g at.After-deref_mut) ∙ map-append (λ (s : Slot). entry s.item s.count) (map g.S.RingSlot.shown c.args.slots.now.items) (no_slot ∷ []))

pub returns-clause-tags : goal.returns-clause-tags
returns-clause-tags g c =
    let at = goal.at.returns-clause-tags g c in
    rw (whole g at.After-link) (c.link.ensures.only.tags ∙ ap tags (pushed g at.After-deref_mut) ∙ map-append (λ (s : Slot). s.queue) (map g.S.RingSlot.shown c.args.slots.now.items) (no_slot ∷ []))

pub returns-clause-len : goal.returns-clause-len
returns-clause-len g c =
    let at = goal.at.returns-clause-len g c in
    let more = ap length (pushed g at.After-deref_mut) in
    rw (whole g at.After-link) (omega (arith, more, length-append {A = Slot}, length-map c.link.new.slots g.S.RingSlot.shown, length-map c.deref_mut.result.now g.S.RingSlot.shown))
