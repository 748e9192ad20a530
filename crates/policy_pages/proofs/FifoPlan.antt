-- FIFO's plan is its definition.
use Rattle.std.proofs.Common.{◌≡◌, ℕ, false, nat_lt, None, List, [], ◌∷◌, ◌++◌, length, drop, ap, ◌∙◌, refl, arith}
use Rattle.std.proofs.lemmas.Bool.{le-ltb}
use Rattle.engine_base.specs.Keys.{has_key, keys_without}
use Rattle.queue_table.specs.Entries.{entry, oldest_of, occurrences}
use Rattle.queue_table.specs.Queues.{Queues, after_send}
use Rattle.queue_table.proofs.QueueLists.{IsAbsent}
use Rattle.policy_pages.specs.Fifo.{Outcome, fifo_eviction}
use Rattle.policy_pages.proofs.Ghost.{without-none}
use Rattle.queue_table.specs.declared.records.Entry.{Entry}
use Rattle.queue_table.specs.Moves.{item_of, standing, evicted, leaving, after_leaving, no_run, stays, goes}
use Rattle.queue_table.specs.Tabled.{IsTabled, keys_of}
use Rattle.queue_table.proofs.Tabled.{has-occurs, tabled-leaving}
use Rattle.policy_pages.specs.Plans.{IsWithin, leaver_plan, IsPlannedWithin}
use Rattle.policy_pages.specs.Leavers.{one_leaver}
use Rattle.policy_pages.specs.FifoPlan.{fifo_of, fifo_page}
use Rattle.policy_pages.specs.PolicyPage.{IsPlannedPage, IsSoundPage}
use Rattle.policy_pages.proofs.Plans.{resident-alone, resident-full, not-less, miss-low, first-send, first-out, resident-planned}
use Rattle.policy_pages.proofs.FifoKeeping.{keeps}
use Rattle.policy_pages.proofs.QueueKeys.{length-keys, keys-sent, left-keys, without-drop}

-- the oldest leaves, and the key joins
eviction-is : (k : ℕ) (l : List Entry) → ◌≡◌ {A = Outcome × List ℕ} (evicted (oldest_of l), drop 1 (keys_of l) ++ k ∷ []) (fifo_eviction k (keys_of l))
eviction-is k [] = refl
eviction-is k (e ∷ l) = refl

module _ (c k x : ℕ) (s : Queues) (t : IsTabled s) (first : IsWithin 1 s) where
  gone : IsAbsent (item_of k) s → has_key k (fifo_of s) ≡ false
  gone none = has-occurs k (s 0) (t.keys 0) ∙ le-ltb 0 (occurrences (item_of k) (s 0)) (let z = none 0 (omega arith) in omega (arith, z))

  joined : IsAbsent (item_of k) s → fifo_of (after_send (entry (item_of k) 0) 0 s) ≡ fifo_of s ++ k ∷ []
  joined none = keys-sent k 0 0 s t.keys 0 ∙ ap (λ l. l ++ k ∷ []) (without-none k (fifo_of s) (gone none))

  evict : IsAbsent (item_of k) s → IsPlannedWithin 1 (leaver_plan no_run no_run (leaving 0 None) (goes 0 0) x) k s (λ y. fifo_of) (fifo_eviction k (fifo_of s)) false
  evict none =
      let u : Queues = after_leaving (leaving 0 None) s in (
        record {
          outcome = ap (λ r. r.0) (eviction-is k (s 0));
          state = keys-sent k 0 0 u (tabled-leaving s t (leaving 0 None) (omega arith, tt)).keys 0
              ∙ ap (λ l. l ++ k ∷ []) (ap (keys_without k) (left-keys s 0 t None 0) ∙ without-drop k (fifo_of s) (gone none)) ∙ ap (λ r. r.1) (eviction-is k (s 0));
          hits = refl;
          low = miss-low (one_leaver (leaving 0 None)) (goes 0 0) x ((omega arith, tt), tt) (omega arith);
        },
        first-send 1 (entry (item_of k) 0) 0 u (omega arith) (first-out 1 0 s first),
      )

planned : IsPlannedPage fifo_page
planned c k x s some t first state =
    resident-planned (List ℕ) 1 k x 0 0 s (λ y. fifo_of) (has_key k (fifo_of s)) (nat_lt (length (fifo_of s)) c) (nat_lt (length (s 0)) c)
    (fifo_of s) (fifo_of s ++ k ∷ []) (fifo_eviction k (fifo_of s)) (leaver_plan no_run no_run (leaving 0 None) (goes 0 0) x)
    stays tt first t (omega arith) (omega arith) first (ap (λ n. nat_lt n c) (length-keys (s 0))) (has-occurs k (s 0) (t.keys 0) ∙ ap (nat_lt 0) (omega arith))
    refl (joined c k x s t first) (λ none f. evict c k x s t first none)

pub fifo-sound : IsSoundPage fifo_page
fifo-sound = record {
  keeps = keeps;
  starts = (λ q w. refl, refl);
  planned = planned;
  residents = λ x s. refl;
  hits = λ c k x s. resident-alone (standing (item_of k) s) _ _ _ x _ refl;
  leaves = λ c k x s t first state. resident-full _ (standing (item_of k) s) _ _ _ x _ (λ e. not-less _ _ c (length-keys (s 0)) e);
}
