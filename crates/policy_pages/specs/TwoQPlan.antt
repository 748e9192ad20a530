-- 2Q (`TwoQ`) as the plan of an access.
use Rattle.std.specs.Prelude.{ℕ, ◌+◌, nat_lt, ◌==◌, ◌||◌, Bool, true, false, if◌then◌else◌, Option, Some, None}
use Rattle.std.specs.Prelude.{List, [], ◌∷◌, codes, length}
use Rattle.queue_table.specs.Queues.{Queues}
use Rattle.segments.specs.NamedQueue.{NamedQueueData, plain_queue}
pub use Rattle.policy_pages.specs.declared.two_q.TwoQSizes.{TwoQSizes}
use Rattle.policy_pages.specs.TwoQ.{TwoQState, empty_two_q, two_q_residents, two_q_act, IsTwoQ}
use Rattle.queue_table.specs.Moves.{item_of, standing, leaving, stays, goes, Plan, own_plan}
use Rattle.queue_table.specs.Tabled.{keys_of}
use Rattle.policy_pages.specs.Leavers.{Leavers, no_leavers, one_leaver, leavers_for_ghost}
use Rattle.policy_pages.specs.Plans.{miss_plan}
use Rattle.policy_pages.specs.PolicyPage.{PolicyPage}

abbrev pub A1IN : ℕ
A1IN = 0

abbrev pub A1OUT : ℕ
A1OUT = 1

abbrev pub AM : ℕ
AM = 2

abbrev pub two_q_of : Queues → TwoQState
two_q_of s = record { a1in = keys_of (s A1IN); a1out = keys_of (s A1OUT); am = keys_of (s AM) }

-- ---- a miss, where a1in is to have kin keys, and a1out remembers kout

-- a1in gives up a key, and not am: it is over its size, or am is empty
abbrev pub gives_a1in : ℕ → Queues → Bool
gives_a1in kin s = nat_lt kin (length (s A1IN)) || length (s AM) == 0

-- In a full cache the oldest of a1in leaves for a1out, or the oldest of am for good.
abbrev pub two_q_leavers : TwoQSizes → ℕ → Bool → Queues → Leavers
two_q_leavers z c remembered s =
    if nat_lt (length (s A1IN) + length (s AM)) c
    then no_leavers
    else if gives_a1in z.kin s
    then leavers_for_ghost A1IN A1OUT z.kout remembered s
    else one_leaver (leaving AM None)

-- the key joins am where a1out remembered it, else a1in
abbrev pub joins : Bool → ℕ
joins remembered = if remembered then AM else A1IN

abbrev pub two_q_miss : TwoQSizes → ℕ → Bool → ℕ → Queues → Plan
two_q_miss z c remembered x s = miss_plan (two_q_leavers z c remembered s) (goes (joins remembered) 0) x

-- ---- an access

-- where the key stands in queue p.0 with the count p.1
abbrev pub plan_at : TwoQSizes → ℕ → ℕ → Option (ℕ × ℕ) → Queues → Plan
plan_at z c x None s = two_q_miss z c false x s
plan_at z c x (Some p) s =
    if p.0 == AM
    then own_plan true (goes AM 0) x
    else if p.0 == A1IN then own_plan true stays x else two_q_miss z c (p.0 == A1OUT) x s

-- an access to k at capacity c with the sizes z; 2Q has no number of its own
abbrev pub two_q_plan : TwoQSizes → ℕ → ℕ → ℕ → Queues → Plan
two_q_plan z c k x s = plan_at z c x (standing (item_of k) s) s

abbrev pub two_q_queues : TwoQState → List NamedQueueData
two_q_queues s =
    plain_queue (codes "a1in") s.a1in ∷ plain_queue (codes "am") s.am ∷ plain_queue (codes "a1out") s.a1out ∷ []

-- the policy, whatever the sizes of its parts
abbrev pub two_q_page : TwoQSizes → PolicyPage
two_q_page z = record {
  State = TwoQState;
  start = empty_two_q;
  act = two_q_act z;
  residents = two_q_residents;
  IsState = IsTwoQ z;
  named_queues = two_q_queues;
  view = λ x. two_q_of;
  IsShown = λ x s. Unit {0};
  plan = two_q_plan z;
  resident_queues = λ x. (A1IN, Some AM);
}
