-- CAR (`Car`) as the plan of an access. In a full cache the keys of t1 with a bit go to t2, until t1 has fewer than p
-- keys. Then the keys with a bit of the queue that gives up a key go to its recent end, and the oldest leaves for its
-- ghost: of t1 none has to go. The policy's own number is p.
use Rattle.std.specs.Prelude.{ℕ, ◌+◌, ◌-◌, ◌*◌, ◌/◌, min, max, nat_lt, ◌==◌, ◌||◌, Bool, true, false, if◌then◌else◌}
use Rattle.std.specs.Prelude.{Option, Some, None, List, [], ◌∷◌, codes, length}
use Rattle.queue_table.specs.Queues.{Queues}
use Rattle.segments.specs.NamedQueue.{NamedQueueData, plain_queue}
use Rattle.policy_pages.specs.Car.{CarState, empty_car, car_residents, car_act, IsCar}
pub use Rattle.queue_table.specs.declared.moves.Run.{Run}
use Rattle.queue_table.specs.Moves.{item_of, standing, run, turns_due, after_run, Leaving, leaving, after_leaving}
use Rattle.queue_table.specs.Moves.{Own, counts, goes, Plan, own_plan}
use Rattle.queue_table.specs.Tabled.{keys_of}
use Rattle.policy_pages.specs.QueueView.{counted_keys, counted_queue}
use Rattle.policy_pages.specs.Plans.{run_plan}
use Rattle.policy_pages.specs.PolicyPage.{PolicyPage}

abbrev pub T1 : ℕ
T1 = 0

abbrev pub T2 : ℕ
T2 = 1

abbrev pub B1 : ℕ
B1 = 2

abbrev pub B2 : ℕ
B2 = 3

abbrev pub car_of : ℕ → Queues → CarState
car_of p s =
    record { t1 = counted_keys (s T1); t2 = counted_keys (s T2); b1 = keys_of (s B1); b2 = keys_of (s B2); p = p }

-- how many keys are resident or remembered
abbrev pub total : Queues → ℕ
total s = length (s T1) + length (s T2) + length (s B1) + length (s B2)

-- ---- a key leaves

-- t2 takes the oldest keys of t1 that have a bit
abbrev pub promotions : ℕ → Queues → Run
promotions p s = run T1 T2 1 (turns_due (length (s T1) + 1 - max 1 p) T1 T2 1 1 s)

abbrev pub after_promotions : ℕ → Queues → Queues
after_promotions p s = after_run (promotions p s) s

-- the queue that gives up a key
abbrev pub giver : ℕ → Queues → ℕ
giver p s = if nat_lt (length (s T1)) (max 1 p) then T2 else T1

-- the ghost of a queue
abbrev pub ghost_of : ℕ → ℕ
ghost_of q = q + 2

-- the turns of that queue, each of which clears a bit
abbrev pub giver_turns : ℕ → ℕ → Queues → Run
giver_turns c q s = run q q 1 (turns_due c q q 1 1 s)

abbrev pub after_giver_turns : ℕ → ℕ → Queues → Queues
after_giver_turns c q s = after_run (giver_turns c q s) s

abbrev pub leaver : ℕ → Option Leaving
leaver q = leaving q (Some (ghost_of q, 0))

-- the queues once a key left, after the promotions, where q is the queue that gives it up
abbrev pub after_departure : ℕ → ℕ → Queues → Queues
after_departure c q s = after_leaving (leaver q) (after_giver_turns c q s)

abbrev pub after_replacing : ℕ → ℕ → Queues → Queues
after_replacing c p s = after_departure c (giver p (after_promotions p s)) (after_promotions p s)

-- ---- an access

-- what is forgotten for a new key, once a key left
abbrev pub forgotten : ℕ → Queues → Option Leaving
forgotten c s =
    if length (s T1) + length (s B1) == c
    then leaving B1 None
    else if total s == 2 * c then leaving B2 None else None

-- by how much p moves for a key of the ghost `own`: how often its keys go into those of the other, and 1 at least
abbrev pub step_size : ℕ → ℕ → Queues → ℕ
step_size other own s = max 1 (length (s other) / length (s own))

-- p after a key of a ghost came again, once a key left
abbrev pub target_after : ℕ → ℕ → Bool → Queues → ℕ
target_after c p in_b1 s = if in_b1 then min c (p + step_size B2 B1 s) else p - step_size B1 B2 s

-- a miss of a full cache, with what is forgotten, what becomes of the key, and p after it
abbrev pub full_plan : ℕ → ℕ → Option Leaving → Own → ℕ → Queues → Plan
full_plan c p second own x s =
    run_plan (promotions p s) (giver_turns c (giver p (after_promotions p s)) (after_promotions p s))
    record { first = leaver (giver p (after_promotions p s)); second = second } own x

-- of a key that no ghost remembers
abbrev pub new_key_plan : ℕ → ℕ → Queues → Plan
new_key_plan c p s =
    if nat_lt (length (s T1) + length (s T2)) c
    then own_plan false (goes T1 0) p
    else full_plan c p (forgotten c (after_replacing c p s)) (goes T1 0) p s

-- of a key of a ghost
abbrev pub recall_plan : ℕ → ℕ → Bool → Queues → Plan
recall_plan c p in_b1 s = full_plan c p None (goes T2 0) (target_after c p in_b1 (after_replacing c p s)) s

-- a key of this queue is in the cache
abbrev pub is_resident : ℕ → Bool
is_resident q = q == T1 || q == T2

-- where the key stands in queue at.0
abbrev pub plan_at : ℕ → ℕ → Option (ℕ × ℕ) → Queues → Plan
plan_at c p None s = new_key_plan c p s
plan_at c p (Some at) s = if is_resident at.0 then own_plan true (counts 1) p else recall_plan c p (at.0 == B1) s

-- an access to k at capacity c
abbrev pub car_plan : ℕ → ℕ → ℕ → Queues → Plan
car_plan c k p s = plan_at c p (standing (item_of k) s) s

-- the queues, the clocks with the reference bits, and p
abbrev pub car_queues : CarState → List NamedQueueData
car_queues s =
    counted_queue (codes "t1") s.t1 ∷ counted_queue (codes "t2") s.t2 ∷ plain_queue (codes "b1") s.b1
    ∷ plain_queue (codes "b2") s.b2 ∷ plain_queue (codes "target") (s.p ∷ []) ∷ []

-- the policy, whose number is its target
abbrev pub car_page : PolicyPage
car_page = record {
  State = CarState;
  start = empty_car;
  act = car_act;
  residents = car_residents;
  IsState = IsCar;
  named_queues = car_queues;
  view = car_of;
  IsShown = λ x s. Unit {0};
  plan = car_plan;
  resident_queues = λ x. (T1, Some T2);
}
