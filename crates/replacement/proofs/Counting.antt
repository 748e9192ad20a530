-- How often an item stands in the queues, and how many items do, after each call.
use Rattle.std.proofs.Common.{◌≡◌, ℕ, ◌+◌, ◌≤◌, cond, List, [], ◌∷◌, refl, arith, inl, inr, length-append}
use Rattle.std.proofs.lemmas.Bool.Decides.{nat_tests}
use Rattle.std.proofs.lemmas.Bool.{cases_Bool}
use Rattle.segments.specs.declared.records.Queue.{Queue}
use Rattle.segments.specs.Items.{Item, is_same_item, occurrences, items_without}
use Rattle.segments.specs.Queues.{Queues, queues_after_push, queues_without, queues_after_move, total_items, IsDistinct}
use Rattle.segments.proofs.QueueLists.{same-true, times-append, times-without, length-without}
use Rattle.replacement.specs.Counts.{queue_occurrences}

abbrev pub once : Item → Item → ℕ
once i j = cond (is_same_item i j) 1 0

pub unless-same : (j i : Item) (l : List Item) → occurrences j (items_without i l) ≡ cond (is_same_item j i) 0 (occurrences j l)
unless-same j i [] = elim (cases_Bool (is_same_item j i)) as (λ _. occurrences j [] ≡ cond (is_same_item j i) 0 (occurrences j [])) [ inl e ↦ rw e refl | inr e ↦ rw e refl ]
unless-same j i (x ∷ l) = grind (arith, nat_tests, unless-same j i l, same-true)

pub queued-taken : (j i : Item) (q : Queues) → queue_occurrences j (queues_without i q) ≡ cond (is_same_item j i) 0 (queue_occurrences j q)
queued-taken j i q = grind (arith, nat_tests, unless-same)

pub taken-less : (j i : Item) (q : Queues) → queue_occurrences j (queues_without i q) ≤ queue_occurrences j q
taken-less j i q = omega (arith, times-without i j q.window, times-without i j q.probation, times-without i j q.protected)

pub queued-pushed : (j i : Item) (to : Queue) (q : Queues) → queue_occurrences j (queues_after_push to i q) ≡ queue_occurrences j q + once j i
queued-pushed j i v q = grind (arith, nat_tests, times-append)

pub queued-moved : (j i : Item) (to : Queue) (q : Queues) → queue_occurrences j (queues_after_move i to q) ≡ cond (is_same_item j i) 1 (queue_occurrences j q)
queued-moved j i to q = grind (arith, nat_tests, queued-pushed, queued-taken)

pub distinct-moved : (i : Item) (to : Queue) (q : Queues) → IsDistinct q → IsDistinct (queues_after_move i to q)
distinct-moved i to q d j = grind (arith, nat_tests, queued-moved)

-- the moved item was queued: nothing comes or goes
pub queued-kept : (j i : Item) (to : Queue) (q : Queues) → queue_occurrences i q ≡ 1 → queue_occurrences j (queues_after_move i to q) ≡ queue_occurrences j q
queued-kept j i to q h = grind (arith, nat_tests, queued-moved, same-true)

-- ---- how many

pub taken-total : (x : Item) (s : Queues) → total_items (queues_without x s) + queue_occurrences x s ≡ total_items s
taken-total x s = omega (arith, length-without x s.window, length-without x s.probation, length-without x s.protected)

pub pushed-total : (q : Queue) (x : Item) (s : Queues) → total_items (queues_after_push q x s) ≡ total_items s + 1
pushed-total v x s = grind (arith, nat_tests, length-append)
