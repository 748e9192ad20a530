use Rattle.std.proofs.lemmas.Bool.Decides.{nat_tests}
use Rattle.std.proofs.Common.{map, ◌≡◌, ◌≤◌, List, length, refl, sym, subst, arith}
use Rattle.std.proofs.lemmas.List.{nil_from_length, length-map}
use Rattle.queue_table.specs.Index.{capacity}
use Rattle.queue_table.specs.QueueTable.{Slot, IsSame}
use Rattle.queue_table.proofs.Growing.{held-first, same-first, first_loaded, sixteen}
use Rattle.queue_table.proofs.growth.begin.Goals as goal

pub returns-clause-held : goal.returns-clause-held
returns-clause-held g c =
    let some = sixteen c.first_bits-bits.result c.first_bits-bits.ensures.range.0 in
    let room : length (map g.K.Slot.RingSlot.shown c.in_ok-slots.field-0.items) ≤ capacity c.in_ok-index.field-0.bits = rw c.in_ok-index.ensures.bits (omega (arith, c.in_ok-slots.ensures.len, some)) in
    held-first (map g.K.Slot.RingSlot.shown c.in_ok-slots.field-0.items) c.in_ok-index.field-0 c.in_ok-slots.ensures.queued (c.in_ok-index.ensures.empty _) room

pub returns-clause-load : goal.returns-clause-load
returns-clause-load g c = first_loaded _ _ c.in_ok-slots.ensures.len (omega (arith, c.in_ok-index.ensures.bits, c.first_bits-bits.ensures.range.0))

pub returns-clause-same : goal.returns-clause-same
returns-clause-same g c =
    let none : length (map g.K.Slot.RingSlot.shown c.args.slots.now.items) ≡ 0 = grind (arith, nat_tests, length-map c.args.slots.now.items g.K.Slot.RingSlot.shown) in
    subst (λ (old : List Slot). IsSame old (map g.K.Slot.RingSlot.shown c.in_ok-slots.field-0.items)) (sym (nil_from_length _ none)) (same-first (map g.K.Slot.RingSlot.shown c.in_ok-slots.field-0.items) c.in_ok-slots.ensures.queued)

-- where memory for the slots fails there are none, whatever the index is
pub returns-in_err-slots-clause-load : goal.returns-in_err-slots-clause-load
returns-in_err-slots-clause-load g c =
    let none : length (map g.K.Slot.RingSlot.shown c.args.slots.now.items) ≡ 0 = grind (arith, nat_tests, length-map c.args.slots.now.items g.K.Slot.RingSlot.shown) in
    λ some. absurd (omega (arith, some, none))

pub returns-in_err-slots-clause-same : goal.returns-in_err-slots-clause-same
returns-in_err-slots-clause-same g c = record { lists = refl; lengths = λ s. refl }

pub returns-in_err-index-clause-same : goal.returns-in_err-index-clause-same
returns-in_err-index-clause-same g c = record { lists = refl; lengths = λ s. refl }

pub returns-then-not-is_empty-clause-same : goal.returns-then-not-is_empty-clause-same
returns-then-not-is_empty-clause-same g c = record { lists = refl; lengths = λ s. refl }
