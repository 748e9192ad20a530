-- CLOCK's plan is its definition.
use Rattle.std.proofs.lemmas.Bool.Decides.{nat_tests}
use Rattle.std.proofs.Common.{◌≡◌, ℕ, ◌≤◌, false, nat_lt, None, List, [], ◌∷◌, ◌++◌, length, ap, ◌∙◌, refl, arith}
use Rattle.engine_base.specs.Keys.{has_key}
use Rattle.queue_table.specs.Entries.{entry, oldest_of, occurrences, entries_without}
use Rattle.queue_table.specs.Queues.{Queues, after_send}
use Rattle.queue_table.proofs.QueueLists.{IsAbsent, queue-few, without-none}
use Rattle.policy_pages.specs.CountedKeys.{CountedKey, with_count, keys_of, total_count}
use Rattle.policy_pages.specs.Turns.{after_turns as page_turns, turn_count}
use Rattle.policy_pages.specs.Clock.{marked_key, clock_eviction, IsClock}
use Rattle.policy_pages.proofs.CountedKeys.{length-keys, total-few}
use Rattle.policy_pages.proofs.ClockKeeping.{keeps}
use Rattle.queue_table.specs.declared.records.Entry.{Entry}
use Rattle.queue_table.specs.Moves.{item_of, after_turns, turns_due, evicted, departed, leaving, after_leaving, counts}
use Rattle.queue_table.specs.Tabled.{IsTabled}
use Rattle.policy_pages.specs.QueueView.{counted_keys}
use Rattle.policy_pages.specs.Plans.{IsWithin, IsPlannedWithin}
use Rattle.policy_pages.specs.ClockPlan.{clock_of, clock_eviction_plan, clock_page}
use Rattle.policy_pages.specs.PolicyPage.{IsPlannedPage, IsSoundPage}
use Rattle.policy_pages.proofs.Plans.{resident-alone, resident-full, not-less, resident-planned, first-count, first-send, first-turns, first-out}
use Rattle.policy_pages.proofs.QueueView.{counted-length, keys-counted, counted-append, length-counted, key-counted, counted-with, turns-are}
use Rattle.policy_pages.proofs.Leavers.{absent-turns}
use Rattle.queue_table.proofs.Tabled.{oldest-gone, tabled-turns}

-- ---- the oldest leaves, and the key joins

module _ (k : ℕ) where
  abbrev new : Entry
  new = entry (item_of k) 1

  joined : (l : List Entry) → occurrences (item_of k) l ≡ 0 → counted_keys (entries_without (item_of k) l ++ new ∷ []) ≡ counted_keys l ++ marked_key k ∷ []
  joined l none = ap (λ t. counted_keys (t ++ new ∷ [])) (without-none (item_of k) l none) ∙ counted-append l (new ∷ [])

  left : (l : List Entry) (u : Queues) → IsTabled u → IsAbsent (item_of k) u → u 0 ≡ l → clock_of (after_send new 0 (departed None (oldest_of l) u)) ≡ (clock_eviction k (counted_keys l)).1
  left [] u t none h = ap (λ l. counted_keys (entries_without (item_of k) l ++ new ∷ [])) h
  left (e ∷ l) u t none h =
      let sum = ap (occurrences (item_of k)) h in
      let zero_of = none 0 (omega arith) in
      ap (λ s. clock_of (after_send new 0 s)) (oldest-gone u t 0 e l h) ∙ joined l (omega (arith, sum, zero_of))

  leaver : (l : List Entry) → evicted (oldest_of l) ≡ (clock_eviction k (counted_keys l)).0
  leaver v = grind (arith, nat_tests)

-- ---- an access

module _ (c k x : ℕ) (s : Queues) (t : IsTabled s) (first : IsWithin 1 s) (state : IsClock c (clock_of s)) where
  abbrev full : Queues
  full = after_turns (turns_due c 0 0 1 1 s) 0 0 1 s

  few : total_count (clock_of s) ≤ c
  few = grind (arith, nat_tests, length-keys (clock_of s), total-few 1 (clock_of s) state.bits)

  turned-full : counted_keys (full 0) ≡ page_turns (turn_count (clock_of s)) (clock_of s)
  turned-full = turns-are 0 c (total_count (clock_of s)) s (omega arith) t few (omega arith)

  evict : IsAbsent (item_of k) s → IsPlannedWithin 1 (clock_eviction_plan c x s) k s (λ y. clock_of) (clock_eviction k (page_turns (turn_count (clock_of s)) (clock_of s))) false
  evict none = (
    record {
      outcome = leaver k (full 0) ∙ ap (λ q. (clock_eviction k q).0) turned-full;
      state = left k (full 0) full (tabled-turns s t (turns_due c 0 0 1 1 s) 0 0 1 (omega arith)) (absent-turns (item_of k) (turns_due c 0 0 1 1 s) 0 0 1 s (omega arith) none) refl ∙ ap (λ q. (clock_eviction k q).1) turned-full;
      hits = refl;
      low = record { early = (omega arith, omega arith); late = (omega arith, omega arith); first = (omega arith, tt); second = tt; own = omega arith };
    },
    first-send 1 (new k) 0 (after_leaving (leaving 0 None) full) (omega arith) (first-out 1 0 full (first-turns 1 (turns_due c 0 0 1 1 s) 0 0 1 s (omega arith) first)),
  )

planned : IsPlannedPage clock_page
planned c k x s some t first state =
    resident-planned (List CountedKey) 1 k x 0 1 s (λ y. clock_of) (has_key k (keys_of (clock_of s))) (nat_lt (length (clock_of s)) c) (nat_lt (length (s 0)) c)
    (with_count k 1 (clock_of s)) (clock_of s ++ marked_key k ∷ []) (clock_eviction k (page_turns (turn_count (clock_of s)) (clock_of s))) (clock_eviction_plan c x s)
    (counts 1) tt (first-count 1 (item_of k) 1 s first) t (omega arith) (omega arith) first (ap (λ n. nat_lt n c) (length-counted (s 0))) (key-counted k (s 0) (t.keys 0) ∙ ap (nat_lt 0) (omega arith))
    (counted-with k 1 (s 0) (t.keys 0) (queue-few 0 s (omega arith) t.distinct (item_of k)))
    (λ none. joined k (s 0) (none 0 (omega arith))) (λ none f. evict c k x s t first state none)

pub clock-sound : IsSoundPage clock_page
clock-sound = search (arith, keeps, planned, keys-counted, resident-alone, resident-full, not-less, counted-length)
