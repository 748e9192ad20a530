-- One access to the queues of any of these policies, by the policy's plan; its record, and how the record undoes it.
use Rattle.std.specs.Prelude.{◌≡◌, ℕ, ◌≤◌, List}
use Rattle.segments.specs.NamedQueue.{NamedQueueData}
use Rattle.queue_table.specs.Queues.{Queues, empty_queues}
use Rattle.policy_pages.specs.Residents.{Outcome}
pub use Rattle.queue_table.specs.declared.moves.Moves.{Moves}
use Rattle.queue_table.specs.Moves.{item_of, Plan, after_all, outcome_of}
use Rattle.queue_table.specs.Undoing.{record_of, before_all, FitsMoves, MovesAsk}
use Rattle.queue_table.specs.Tabled.{IsTabled}
use Rattle.queue_table.specs.Lists.{QueueLists, lists_of, queues_in}
pub use Rattle.demand_cache.specs.declared.demand_policy.DemandPolicy.{DemandPolicy}
use Rattle.demand_cache.specs.DemandPolicy.{plan_by, named_by, residents_by, IsStateOf}

-- the queues by number, and the policy's own number: ARC's target, SIEVE's queue ahead of the hand
pub record DemandQueues : Type 0 where
  pub policy : DemandPolicy
  pub capacity : ℕ
  pub own_number : ℕ
  pub lists : QueueLists

abbrev pub queues_of : DemandQueues → Queues
queues_of d = queues_in d.lists

-- the queues of an empty cache of capacity c
abbrev pub empty_cache : DemandPolicy → ℕ → DemandQueues
empty_cache p c = record { policy = p; capacity = c; own_number = 0; lists = lists_of empty_queues }

-- ---- an access

abbrev pub plan_of : ℕ → DemandQueues → Plan
plan_of k d = plan_by d.policy d.capacity k d.own_number (queues_of d)

abbrev pub queues_residents : DemandQueues → List ℕ
queues_residents d = residents_by d.policy d.own_number (queues_of d)

-- the queues under their names, as the policy's definition has them
abbrev pub queues_named : DemandQueues → List NamedQueueData
queues_named d = named_by d.policy d.own_number (queues_of d)

-- an access to k: its outcome, and the queues after it
abbrev pub queues_act : ℕ → DemandQueues → Outcome × DemandQueues
queues_act k d = (
  outcome_of (plan_of k d) (queues_of d),
  record d { own_number = (plan_of k d).own_number; lists = lists_of (after_all (plan_of k d) (item_of k) (queues_of d)) },
)

-- its record, from the queues before it
abbrev pub queues_record_of : ℕ → DemandQueues → Moves
queues_record_of k d = record_of (plan_of k d) (item_of k) d.own_number (queues_of d)

-- the queues before an access, from its record and the queues after it
abbrev pub queues_undone : Moves → DemandQueues → DemandQueues
queues_undone r d = record d { own_number = r.own_number; lists = lists_of (before_all r (queues_of d)) }

-- undoing the access takes memory
abbrev pub queues_asks : Moves → Type 0
queues_asks r = MovesAsk r

-- what holds of the queues of a cache of capacity c
pub record IsQueues (c : ℕ) (d : DemandQueues) : Type 0 where
  pub least : 1 ≤ c
  pub capacity : d.capacity ≡ c
  pub tabled : IsTabled (queues_of d)
  pub state : IsStateOf d.policy c d.own_number (queues_of d)

-- the record leads back, to queues of such a cache
pub record QueuesFits (r : Moves) (d : DemandQueues) : Type 0 where
  pub moves : FitsMoves r (queues_of d)
  pub before : IsQueues d.capacity (queues_undone r d)
