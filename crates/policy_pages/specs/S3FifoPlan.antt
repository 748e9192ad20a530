-- S3-FIFO (`S3Fifo`) as the plan of an access. In a full cache keys of the small queue with a count of 2 or 3 go to main,
-- until it is over its size. Then, where main is over its size or the small queue is empty, the oldest keys of main with a
-- count go to its recent end with their count less 1, and the one that is then the oldest leaves. Else the oldest of the
-- small queue leaves for the ghost, which may forget its oldest.
use Rattle.std.specs.Prelude.{ℕ, ◌+◌, ◌-◌, ◌*◌, nat_lt, ◌==◌, ◌||◌, Bool, true, false, if◌then◌else◌}
use Rattle.std.specs.Prelude.{Option, Some, None, List, [], ◌∷◌, codes, length}
use Rattle.queue_table.specs.Queues.{Queues}
use Rattle.segments.specs.NamedQueue.{NamedQueueData, plain_queue}
use Rattle.policy_pages.specs.S3Fifo.{S3FifoState, s3_fifo_main_size, hit_count}
use Rattle.policy_pages.specs.S3Fifo.{empty_s3_fifo, s3_fifo_residents, s3_fifo_act, IsS3Fifo}
pub use Rattle.queue_table.specs.declared.moves.Run.{Run}
use Rattle.queue_table.specs.Moves.{item_of, standing, run, no_run, turns_due, after_run, leaving, counts, goes}
use Rattle.queue_table.specs.Moves.{Plan, own_plan}
use Rattle.queue_table.specs.Tabled.{keys_of}
use Rattle.policy_pages.specs.QueueView.{counted_keys, counted_queue}
use Rattle.policy_pages.specs.Leavers.{one_leaver, leavers_for_ghost}
use Rattle.policy_pages.specs.Plans.{run_plan}
use Rattle.policy_pages.specs.PolicyPage.{PolicyPage}

abbrev pub SMALL : ℕ
SMALL = 0

abbrev pub MAIN : ℕ
MAIN = 1

abbrev pub GHOST : ℕ
GHOST = 2

abbrev pub s3_fifo_of : Queues → S3FifoState
s3_fifo_of s =
    record { small = counted_keys (s SMALL); main = counted_keys (s MAIN); ghost = keys_of (s GHOST) }

-- ---- an eviction, where main is to have m keys

-- main takes the oldest keys of the small queue that were hit twice, until it is over its size
abbrev pub promotions : ℕ → Queues → Run
promotions m s =
    run SMALL MAIN 0 (turns_due (m + 1 - length (s MAIN)) SMALL MAIN 0 2 s)

-- main gives up a key, and not the small queue
abbrev pub gives_main : ℕ → Queues → Bool
gives_main m s = length (s SMALL) == 0 || nat_lt m (length (s MAIN))

-- the turns of main, each of which takes 1 from a count of at most 3
abbrev pub main_turns : Queues → Run
main_turns s = run MAIN MAIN 1 (turns_due (3 * length (s MAIN)) MAIN MAIN 1 1 s)

-- the queue that a key joins
abbrev pub joins : Bool → ℕ
joins remembered = if remembered then MAIN else SMALL

-- a miss of a full cache, once the promotions are made
abbrev pub eviction_plan : ℕ → Run → Bool → ℕ → Queues → Plan
eviction_plan m early remembered x s =
    if gives_main m s
    then run_plan early (main_turns s) (one_leaver (leaving MAIN None)) (goes (joins remembered) 0) x
    else run_plan early no_run (leavers_for_ghost SMALL GHOST m remembered s) (goes (joins remembered) 0) x

-- the promotions, and then a key leaves
abbrev pub full_plan : ℕ → Bool → ℕ → Queues → Plan
full_plan m remembered x s = eviction_plan m (promotions m s) remembered x (after_run (promotions m s) s)

-- ---- an access

-- a miss, where the small queue is to have `part` of the c keys
abbrev pub s3_fifo_miss : ℕ → ℕ → Bool → ℕ → Queues → Plan
s3_fifo_miss part c remembered x s =
    if nat_lt (length (s SMALL) + length (s MAIN)) c
    then own_plan false (goes (joins remembered) 0) x
    else full_plan (s3_fifo_main_size part c) remembered x s

-- a key of this queue is in the cache
abbrev pub is_resident : ℕ → Bool
is_resident q = q == SMALL || q == MAIN

-- where the key stands in queue p.0 with the count p.1
abbrev pub plan_at : ℕ → ℕ → ℕ → Option (ℕ × ℕ) → Queues → Plan
plan_at part c x None s = s3_fifo_miss part c false x s
plan_at part c x (Some p) s =
    if is_resident p.0
    then own_plan true (counts (hit_count p.1)) x
    else s3_fifo_miss part c (p.0 == GHOST) x s

-- an access to k at capacity c, of which the small queue is to have `part`; S3-FIFO has no number of its own
abbrev pub s3_fifo_plan : ℕ → ℕ → ℕ → ℕ → Queues → Plan
s3_fifo_plan part c k x s = plan_at part c x (standing (item_of k) s) s

-- the queues, those of the cache with the counts
abbrev pub s3_fifo_queues : S3FifoState → List NamedQueueData
s3_fifo_queues s =
    counted_queue (codes "small") s.small ∷ counted_queue (codes "main") s.main ∷ plain_queue (codes "ghost") s.ghost
    ∷ []

-- the policy, whatever its small queue is to have
abbrev pub s3_fifo_page : ℕ → PolicyPage
s3_fifo_page part = record {
  State = S3FifoState;
  start = empty_s3_fifo;
  act = s3_fifo_act part;
  residents = s3_fifo_residents;
  IsState = IsS3Fifo part;
  named_queues = s3_fifo_queues;
  view = λ x. s3_fifo_of;
  IsShown = λ x s. Unit {0};
  plan = s3_fifo_plan part;
  resident_queues = λ x. (SMALL, Some MAIN);
}
