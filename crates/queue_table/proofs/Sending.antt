-- A slot sent to a place in a section.
use Rattle.std.proofs.lemmas.Bool.Decides.{nat_tests}
use Rattle.std.proofs.Common.{◌≡◌, ℕ, ◌<◌, List, length, ap, ◌∙◌, sym, subst, arith}
use Rattle.queue_table.specs.Ring.{Slot, newers, olders, IsRing, ring_of, moved_before, SECTIONS, Order, ring, order_of, sent, CanGo}
use Rattle.queue_table.proofs.Turning.{ring-is, gone, count-without}
use Rattle.queue_table.proofs.Orders.{section-ring, ring-sent, order-is, order-short, short-sent}
use Rattle.queue_table.proofs.Holding.{slots-length}

module _ (slots : List Slot) (k s b : ℕ) (low : s < SECTIONS) (c : CanGo k s b slots) where
  pub place-apart : b ≡ k → ⊥
  place-apart e = grind (arith, nat_tests, gone k (order_of slots s))

  pub place-within : b < length slots
  place-within =
      search (arith, section-ring b s (order_of slots) low, count-without k b (order_of slots s), slots-length slots)

  pub whole-ring : IsRing (newers slots) (olders slots) (ring_of (newers slots))
  whole-ring = subst (IsRing (newers slots) (olders slots)) (sym (ring-is (newers slots) (olders slots) (ring (order_of slots)) c.linked)) c.linked

  module _ (slots2 : List Slot) (x : IsRing (newers slots2) (olders slots2) (ring_of (newers slots2))) (e : ring_of (newers slots2) ≡ moved_before k b (ring_of (newers slots))) where
    ring-after : IsRing (newers slots2) (olders slots2) (ring (sent k s b (order_of slots)))
    ring-after = subst (IsRing (newers slots2) (olders slots2)) (e ∙ (ap (moved_before k b) (ring-is (newers slots) (olders slots) (ring (order_of slots)) c.linked) ∙ ring-sent k b s (order_of slots) low c.linked.once c.real c.place)) x

    pub order-after : order_of slots2 ≡ sent k s b (order_of slots)
    order-after = order-is (newers slots2) (olders slots2) (sent k s b (order_of slots)) (short-sent k s b (order_of slots) low (order-short (ring_of (newers slots)))) ring-after

    pub linked-after : IsRing (newers slots2) (olders slots2) (ring (order_of slots2))
    linked-after = subst (λ (o : Order). IsRing (newers slots2) (olders slots2) (ring o)) (sym order-after) ring-after
