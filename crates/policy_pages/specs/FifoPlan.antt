-- FIFO (`Fifo`) as a plan of moves.
use Rattle.std.specs.Prelude.{ℕ, nat_lt, None, List, [], ◌∷◌, codes, length}
use Rattle.queue_table.specs.Queues.{Queues}
use Rattle.segments.specs.NamedQueue.{NamedQueueData, plain_queue}
use Rattle.policy_pages.specs.Fifo.{fifo_act}
use Rattle.policy_pages.specs.Residents.{AreResidents}
use Rattle.queue_table.specs.Moves.{item_of, standing, no_run, leaving, stays, goes, Plan}
use Rattle.queue_table.specs.Tabled.{keys_of}
use Rattle.policy_pages.specs.Plans.{IsWithin, leaver_plan, resident_plan}
use Rattle.policy_pages.specs.PolicyPage.{PolicyPage}

abbrev pub QUEUE : ℕ
QUEUE = 0

abbrev pub fifo_of : Queues → List ℕ
fifo_of s = keys_of (s QUEUE)

-- an access to k at capacity c, where x is the policy's own number, which stays
abbrev pub fifo_plan : ℕ → ℕ → ℕ → Queues → Plan
fifo_plan c k x s =
    resident_plan (standing (item_of k) s) (nat_lt (length (s QUEUE)) c) stays (goes QUEUE 0) x
    (leaver_plan no_run no_run (leaving QUEUE None) (goes QUEUE 0) x)

abbrev pub fifo_queues : List ℕ → List NamedQueueData
fifo_queues queue = plain_queue (codes "queue") queue ∷ []

-- the policy, which uses one queue
abbrev pub fifo_page : PolicyPage
fifo_page = record {
  State = List ℕ;
  start = [];
  act = fifo_act;
  residents = λ queue. queue;
  IsState = AreResidents;
  named_queues = fifo_queues;
  view = λ x. fifo_of;
  IsShown = λ x. IsWithin 1;
  plan = fifo_plan;
  resident_queues = λ x. (QUEUE, None);
}
