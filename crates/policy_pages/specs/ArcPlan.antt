-- ARC (`Arc`) as the plan of an access. The policy's own number is p, how many keys t1 is to have.
use Rattle.std.specs.Prelude.{ℕ, ◌+◌, ◌-◌, ◌*◌, ◌/◌, min, max, nat_lt, ◌==◌, ◌&&◌, ◌||◌, Bool, true, false}
use Rattle.std.specs.Prelude.{if◌then◌else◌, Option, Some, None, List, [], ◌∷◌, codes, length}
use Rattle.queue_table.specs.Queues.{Queues}
use Rattle.segments.specs.NamedQueue.{NamedQueueData, plain_queue}
use Rattle.policy_pages.specs.Arc.{ArcState, empty_arc, arc_residents, arc_act, IsArc}
use Rattle.queue_table.specs.Moves.{item_of, standing, Leaving, leaving, goes, Plan, own_plan}
use Rattle.queue_table.specs.Tabled.{keys_of}
use Rattle.policy_pages.specs.Leavers.{Leavers, no_leavers}
use Rattle.policy_pages.specs.Plans.{miss_plan}
use Rattle.policy_pages.specs.PolicyPage.{PolicyPage}

abbrev pub T1 : ℕ
T1 = 0

abbrev pub T2 : ℕ
T2 = 1

abbrev pub B1 : ℕ
B1 = 2

abbrev pub B2 : ℕ
B2 = 3

abbrev pub arc_of : ℕ → Queues → ArcState
arc_of p s = record { t1 = keys_of (s T1); t2 = keys_of (s T2); b1 = keys_of (s B1); b2 = keys_of (s B2); p = p }

-- how many keys are resident or remembered
abbrev pub total : Queues → ℕ
total s = length (s T1) + length (s T2) + length (s B1) + length (s B2)

-- by how much p moves for a key of the ghost `own`: how often its keys go into those of the other, and 1 at least
abbrev pub step_size : ℕ → ℕ → Queues → ℕ
step_size other own s = max 1 (length (s other) / length (s own))

-- ---- what leaves for the accessed key

-- t1 gives up a key, and not t2: it has over p keys, or p of them and the accessed key is in b2
abbrev pub gives_t1 : Bool → ℕ → Queues → Bool
gives_t1 in_b2 p s = nat_lt 0 (length (s T1)) && (nat_lt p (length (s T1)) || (in_b2 && length (s T1) == p))

-- the paper's REPLACE: the oldest of t1 leaves for b1, or the oldest of t2 for b2
abbrev pub replaced : Bool → ℕ → Queues → Option Leaving
replaced in_b2 p s = if gives_t1 in_b2 p s then leaving T1 (Some (B1, 0)) else leaving T2 (Some (B2, 0))

-- Where t1 and b1 have c keys (the paper's case IV A), b1 forgets its oldest; or the oldest of t1 leaves for good, where
-- t1 has them all.
abbrev pub full_l1_leavers : ℕ → ℕ → Queues → Leavers
full_l1_leavers c p s =
    if nat_lt (length (s T1)) c
    then record { first = replaced false p s; second = leaving B1 None }
    else record { first = leaving T1 None; second = None }

-- Where they have fewer (case IV B), a key leaves where the four queues have at least c, and b2 forgets its oldest where
-- they have 2 c.
abbrev pub open_l1_leavers : ℕ → ℕ → Queues → Leavers
open_l1_leavers c p s =
    if nat_lt (total s) c
    then no_leavers
    else if total s == 2 * c
    then record { first = replaced false p s; second = leaving B2 None }
    else record { first = replaced false p s; second = None }

abbrev pub new_key_leavers : ℕ → ℕ → Queues → Leavers
new_key_leavers c p s =
    if length (s T1) + length (s B1) == c then full_l1_leavers c p s else open_l1_leavers c p s

-- ---- an access

-- no queue has the key (case IV)
abbrev pub new_key_plan : ℕ → ℕ → Queues → Plan
new_key_plan c p s = miss_plan (new_key_leavers c p s) (goes T1 0) p

-- a ghost has it, and p becomes this one
abbrev pub recall_plan : Bool → ℕ → Queues → Plan
recall_plan in_b2 p s = miss_plan record { first = replaced in_b2 p s; second = None } (goes T2 0) p

-- where the key stands in queue q: in t1 or t2 (case I), in b1 (II), in b2 (III)
abbrev pub plan_in : ℕ → ℕ → ℕ → Queues → Plan
plan_in c p q s =
    if q == T1 || q == T2
    then own_plan true (goes T2 0) p
    else if q == B1
    then recall_plan false (min c (p + step_size B2 B1 s)) s
    else if q == B2 then recall_plan true (p - step_size B1 B2 s) s else new_key_plan c p s

abbrev pub plan_at : ℕ → ℕ → Option (ℕ × ℕ) → Queues → Plan
plan_at c p None s = new_key_plan c p s
plan_at c p (Some at) s = plan_in c p at.0 s

-- an access to k at capacity c, where t1 is to have p keys
abbrev pub arc_plan : ℕ → ℕ → ℕ → Queues → Plan
arc_plan c k p s = plan_at c p (standing (item_of k) s) s

abbrev pub arc_queues : ArcState → List NamedQueueData
arc_queues s =
    plain_queue (codes "t1") s.t1 ∷ plain_queue (codes "t2") s.t2 ∷ plain_queue (codes "b1") s.b1
    ∷ plain_queue (codes "b2") s.b2 ∷ plain_queue (codes "target") (s.p ∷ []) ∷ []

-- the policy, whose number is its target
abbrev pub arc_page : PolicyPage
arc_page = record {
  State = ArcState;
  start = empty_arc;
  act = arc_act;
  residents = arc_residents;
  IsState = IsArc;
  named_queues = arc_queues;
  view = arc_of;
  IsShown = λ x s. Unit {0};
  plan = arc_plan;
  resident_queues = λ x. (T1, Some T2);
}
