-- How the code carries out the table of moves: an access is planned from the queues before it. A candidate goes
-- straight from the window to its place in probation, or out.
use Rattle.std.specs.Prelude.{ℕ, nat_lt, Bool, if◌then◌else◌, Option, Some, None, length}
pub use Rattle.engine_base.specs.declared.item.Item.{Item}
pub use Rattle.engine_base.specs.declared.outcome.Outcome.{Outcome}
use Rattle.engine_base.specs.declared.outcome.Outcome.TheVariants.{Hit, Kept, Evicted, Rejected}
pub use Rattle.segments.specs.declared.records.Queue.{Queue}
use Rattle.segments.specs.declared.records.Queue.TheVariants.{Window, Probation, Protected}
use Rattle.segments.specs.Items.{oldest_of}
use Rattle.segments.specs.Queues.{Queues, queue_of, queue_holding, queues_after_move, queue_after_access, total_items}
use Rattle.replacement.specs.declared.rules.Placement.{Placement}
use Rattle.replacement.specs.declared.rules.Placement.TheVariants.{Direct, Windowed}
pub use Rattle.replacement.specs.declared.rules.Rules.{Rules}
pub use Rattle.replacement.specs.declared.record.Leaver.{Leaver}

-- an item comes to the recent end of a queue, from one or as a new item
pub record Arrival : Type 0 where
  pub item : Item
  pub from : Option Queue
  pub to : Queue

-- the oldest item of a queue goes to the recent end of another
pub record Transfer : Type 0 where
  pub item : Item
  pub from : Queue
  pub to : Queue

-- what is done in turn: an item comes to a recent end, an item leaves, an item is sent on
pub record Plan : Type 0 where
  pub first : Option Arrival
  pub leaves : Option Leaver
  pub last : Option Transfer
  pub outcome : Outcome

abbrev pub transfer : Queue → Queue → Option Item → Option Transfer
transfer from to None = None
transfer from to (Some i) = Some record { item = i; from = from; to = to }

abbrev pub leaver : Queue → Option Item → Option Leaver
leaver q None = None
leaver q (Some i) = Some record { item = i; from = q }

-- ---- a hit

abbrev pub demotion : ℕ → Queues → Option Transfer
demotion size s =
    if nat_lt size (length s.protected) then transfer Protected Probation (oldest_of s.protected) else None

-- what follows the move of an item that stood in the queue
abbrev pub settling : ℕ → Queue → Queues → Option Transfer
settling size Window s = None
settling size Probation s = demotion size s
settling size Protected s = None

abbrev pub hit_plan : ℕ → Item → Queue → Queues → Plan
hit_plan size i q s = record {
  first = Some record { item = i; from = Some q; to = queue_after_access q };
  leaves = None;
  last = settling size q (queues_after_move i (queue_after_access q) s);
  outcome = Hit;
}

-- ---- a miss

-- nothing moves
abbrev pub still_plan : Outcome → Plan
still_plan o = record { first = None; leaves = None; last = None; outcome = o }

-- an item leaves a queue
abbrev pub leaving_plan : Queue → Item → Outcome → Plan
leaving_plan q i o = record { first = None; leaves = leaver q (Some i); last = None; outcome = o }

-- a new item first comes to a queue
abbrev pub joining_first : Queue → Item → Plan → Plan
joining_first q i p = record {
  first = Some record { item = i; from = None; to = q };
  leaves = p.leaves;
  last = p.last;
  outcome = p.outcome;
}

-- a new item comes to a queue, and nothing else moves
abbrev pub joining_plan : Queue → Item → Plan
joining_plan q i = joining_first q i (still_plan Kept)

-- a new item comes in place of the victim, the oldest item of a queue, where it is admitted against that
abbrev pub replacing_plan : (ℕ → ℕ → Bool) → Queue → Item → Option Item → Plan
replacing_plan admits q i None = still_plan (Rejected i.key)
replacing_plan admits q i (Some v) =
    if admits i.key v.key
    then joining_first q i (leaving_plan q v (Evicted v.key))
    else still_plan (Rejected i.key)

-- a new item joins a queue, against the oldest there where the cache is full
abbrev pub direct_plan : Rules → (ℕ → ℕ → Bool) → Queue → Item → Queues → Plan
direct_plan r admits q i s =
    if nat_lt (total_items s) r.capacity
    then joining_plan q i
    else replacing_plan admits q i (oldest_of (queue_of q s))

-- the candidate goes on to probation, and what is given leaves
abbrev pub promotion_plan : Item → Option Leaver → Outcome → Plan
promotion_plan c leaves o =
    record { first = None; leaves = leaves; last = transfer Window Probation (Some c); outcome = o }

-- the candidate takes the place of the victim, probation's oldest item, where it is admitted against that
abbrev pub contest_plan : (ℕ → ℕ → Bool) → Item → Option Item → Plan
contest_plan admits c None = leaving_plan Window c (Rejected c.key)
contest_plan admits c (Some v) =
    if admits c.key v.key
    then promotion_plan c (leaver Probation (Some v)) (Evicted v.key)
    else leaving_plan Window c (Rejected c.key)

-- the item that has to leave the window
abbrev pub candidate_of : Rules → Queues → Option Item
candidate_of r s = if nat_lt r.window (length s.window) then oldest_of s.window else None

abbrev pub eviction_of : Rules → (ℕ → ℕ → Bool) → Option Item → Queues → Plan
eviction_of r admits None s = still_plan Kept
eviction_of r admits (Some c) s =
    if nat_lt r.capacity (total_items s)
    then contest_plan admits c (oldest_of s.probation)
    else promotion_plan c None Kept

-- one eviction
abbrev pub eviction_plan : Rules → (ℕ → ℕ → Bool) → Queues → Plan
eviction_plan r admits s = eviction_of r admits (candidate_of r s) s

abbrev pub miss_plan_by : Placement → Rules → (ℕ → ℕ → Bool) → Item → Queues → Plan
miss_plan_by (Direct q) r admits i s = direct_plan r admits q i s
miss_plan_by Windowed r admits i s =
    joining_first Window i (eviction_plan r admits (queues_after_move i Window s))

abbrev pub miss_plan : Rules → (ℕ → ℕ → Bool) → Item → Queues → Plan
miss_plan r admits i s = miss_plan_by r.placement r admits i s

-- ---- an access

abbrev pub plan_in : Rules → (ℕ → ℕ → Bool) → Item → Option Queue → Queues → Plan
plan_in r admits i None s = miss_plan r admits i s
plan_in r admits i (Some q) s = hit_plan r.protected i q s

-- the plan of an access, by where the item stands
unfoldable pub plan : Rules → (ℕ → ℕ → Bool) → Item → Queues → Plan
plan r admits i s = plan_in r admits i (queue_holding i s) s
