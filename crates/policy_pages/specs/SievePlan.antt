-- SIEVE (`Sieve`) as a plan of moves. The queue is cut at the hand: the policy's own number, 0 or 1, is that of the
-- queue of the keys ahead of the hand; those that it has passed stand in the other one.
use Rattle.std.specs.Prelude.{ℕ, ◌+◌, ◌-◌, ◌≤◌, nat_lt, if◌then◌else◌, Some, None, List, [], ◌∷◌, codes, length}
use Rattle.queue_table.specs.Queues.{Queues}
use Rattle.segments.specs.NamedQueue.{NamedQueueData}
use Rattle.policy_pages.specs.Queues.{is_empty}
use Rattle.policy_pages.specs.Sieve.{SieveState, empty_sieve, sieve_residents, sieve_act, IsSieve}
pub use Rattle.queue_table.specs.declared.moves.Run.{Run}
use Rattle.queue_table.specs.Moves.{item_of, standing, run, turns_due, after_run, leaving, after_leaving, counts, goes}
use Rattle.queue_table.specs.Moves.{Plan}
use Rattle.policy_pages.specs.QueueView.{counted_keys, counted_queue}
use Rattle.policy_pages.specs.Plans.{IsWithin, leaver_plan, resident_plan}
use Rattle.policy_pages.specs.PolicyPage.{PolicyPage}

-- the number of the queue of the passed keys, where those ahead stand in x
abbrev pub passed_queue : ℕ → ℕ
passed_queue x = 1 - x

abbrev pub sieve_of : ℕ → Queues → SieveState
sieve_of x s = record { passed = counted_keys (s (passed_queue x)); ahead = counted_keys (s x) }

-- where no key is ahead of the hand, it goes back to the oldest, and the queues change their roles
abbrev pub queue_ahead : ℕ → Queues → ℕ
queue_ahead x s = if is_empty (s x) then passed_queue x else x

-- the hand passes the keys ahead of it whose bits are set
abbrev pub pass_run : ℕ → ℕ → Queues → Run
pass_run c x s = run x (passed_queue x) 1 (turns_due c x (passed_queue x) 1 1 s)

-- ---- a key comes to a full cache of capacity c: each key that is passed has its bit cleared, so there are at most c

-- the hand has passed on from where it was
abbrev pub after_early : ℕ → ℕ → Queues → Queues
after_early c x s = after_run (pass_run c x s) s

abbrev pub ahead_late : ℕ → ℕ → Queues → ℕ
ahead_late c x s = queue_ahead x (after_early c x s)

-- where it went back to the oldest key, it has passed on from there
abbrev pub after_late : ℕ → ℕ → Queues → Queues
after_late c x s = after_run (pass_run c (ahead_late c x s) (after_early c x s)) (after_early c x s)

-- the key that it is at has left
abbrev pub after_leaver : ℕ → ℕ → Queues → Queues
after_leaver c x s = after_leaving (leaving (ahead_late c x s) None) (after_late c x s)

abbrev pub ahead_new : ℕ → ℕ → Queues → ℕ
ahead_new c x s = queue_ahead (ahead_late c x s) (after_leaver c x s)

abbrev pub sieve_eviction_plan : ℕ → ℕ → Queues → Plan
sieve_eviction_plan c x s =
    leaver_plan (pass_run c x s) (pass_run c (ahead_late c x s) (after_early c x s)) (leaving (ahead_late c x s) None)
    (goes (ahead_new c x s) 0) (ahead_new c x s)

-- an access to k, where x is the policy's own number
abbrev pub sieve_plan : ℕ → ℕ → ℕ → Queues → Plan
sieve_plan c k x s =
    resident_plan (standing (item_of k) s) (nat_lt (length (s 0) + length (s 1)) c) (counts 1) (goes x 0) x
    (sieve_eviction_plan c x s)

-- the queue's two parts with the visited bits
abbrev pub sieve_queues : SieveState → List NamedQueueData
sieve_queues s = counted_queue (codes "passed") s.passed ∷ counted_queue (codes "ahead") s.ahead ∷ []

-- the policy, which uses two queues, and whose number is that of one of them
abbrev pub sieve_page : PolicyPage
sieve_page = record {
  State = SieveState;
  start = empty_sieve;
  act = sieve_act;
  residents = sieve_residents;
  IsState = IsSieve;
  named_queues = sieve_queues;
  view = sieve_of;
  IsShown = λ x s. IsWithin 2 s × (x ≤ 1);
  plan = sieve_plan;
  resident_queues = λ x. (passed_queue x, Some x);
}
