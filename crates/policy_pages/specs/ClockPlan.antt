-- CLOCK (`Clock`) as a plan of moves. A bit is a count of 0 or 1.
use Rattle.std.specs.Prelude.{ℕ, nat_lt, None, List, [], ◌∷◌, codes, length}
use Rattle.queue_table.specs.Queues.{Queues}
use Rattle.segments.specs.NamedQueue.{NamedQueueData}
use Rattle.policy_pages.specs.CountedKeys.{CountedKey, keys_of}
use Rattle.policy_pages.specs.Clock.{clock_act, IsClock}
use Rattle.queue_table.specs.Moves.{item_of, standing, run, no_run, turns_due, leaving, counts, goes, Plan}
use Rattle.policy_pages.specs.QueueView.{counted_keys, counted_queue}
use Rattle.policy_pages.specs.Plans.{IsWithin, leaver_plan, resident_plan}
use Rattle.policy_pages.specs.PolicyPage.{PolicyPage}

abbrev pub QUEUE : ℕ
QUEUE = 0

abbrev pub clock_of : Queues → List CountedKey
clock_of s = counted_keys (s QUEUE)

-- A key comes to a full cache of capacity c. Each turn clears a bit, so there are at most c.
abbrev pub clock_eviction_plan : ℕ → ℕ → Queues → Plan
clock_eviction_plan c x s =
    leaver_plan (run QUEUE QUEUE 1 (turns_due c QUEUE QUEUE 1 1 s)) no_run (leaving QUEUE None) (goes QUEUE 1) x

-- an access to k, where x is the policy's own number, which stays
abbrev pub clock_plan : ℕ → ℕ → ℕ → Queues → Plan
clock_plan c k x s =
    resident_plan (standing (item_of k) s) (nat_lt (length (s QUEUE)) c) (counts 1) (goes QUEUE 1) x
    (clock_eviction_plan c x s)

-- the queue with the reference bits
abbrev pub clock_queues : List CountedKey → List NamedQueueData
clock_queues queue = counted_queue (codes "queue") queue ∷ []

-- the policy, which uses one queue
abbrev pub clock_page : PolicyPage
clock_page = record {
  State = List CountedKey;
  start = [];
  act = clock_act;
  residents = keys_of;
  IsState = IsClock;
  named_queues = clock_queues;
  view = λ x. clock_of;
  IsShown = λ x. IsWithin 1;
  plan = clock_plan;
  resident_queues = λ x. (QUEUE, None);
}
