-- What the engine shows, and one access to it as a step.
use Rattle.std.specs.Prelude.{◌≡◌, ℕ, ◌≤◌, false, Option, List, []}
use Rattle.engine_base.specs.declared.limits.TheConstants.{MAX_CAPACITY}
pub use Rattle.engine_base.specs.declared.stats.Stats.{Stats}
use Rattle.engine_base.specs.Keys.{has_key}
use Rattle.engine_base.specs.Stats.{stats_of, stats_with, stats_without, IsCounted, IsTally}
use Rattle.engine_base.specs.Limited.{limited}
use Rattle.engine_base.specs.Machine.{Machine, StopsWithin, state_after_all}
use Rattle.queue_table.specs.Queues.{Item, Queues}
use Rattle.queue_table.specs.Moves.{Outcome, Plan, outcome_of, after_all}
use Rattle.queue_table.specs.Lists.{QueueLists}
use Rattle.demand_cache.specs.declared.demand_cache.DemandRecord.{DemandRecord}
use Rattle.demand_cache.specs.DemandQueues.{DemandQueues, queues_act, queues_record_of, queues_undone, queues_asks}
use Rattle.demand_cache.specs.DemandQueues.{DemandPolicy, empty_cache, queues_residents, IsQueues, QueuesFits}

-- the queues, and what was counted of the applied accesses
pub record DemandState : Type 0 where
  pub queues : DemandQueues
  pub stats : Stats

abbrev pub state_of : DemandPolicy → ℕ → ℕ → QueueLists → Stats → DemandState
state_of p c x l stats =
    record { queues = record { policy = p; capacity = c; own_number = x; lists = l }; stats = stats }

abbrev pub state_with : Stats → Outcome × DemandQueues → DemandState
state_with stats a = record { queues = a.1; stats = stats_with a.0 stats }

abbrev pub demand_access : ℕ → DemandState → Outcome × DemandState
demand_access k d = ((queues_act k d.queues).0, state_with d.stats (queues_act k d.queues))

-- the engine of a policy at capacity c as a machine over keys
abbrev pub demand_machine : DemandPolicy → ℕ → Machine
demand_machine p c = record {
  State = DemandState;
  start = record { queues = empty_cache p c; stats = stats_of [] };
  access = demand_access;
  residents = λ d. queues_residents d.queues;
  IsState = λ d. IsQueues c d.queues;
}

abbrev pub demand_count : DemandState → ℕ
demand_count d = d.stats.accesses

-- an access to k, while fewer than MAX_STEPS are applied
abbrev pub demand_act : DemandState → ℕ → Option (Outcome × DemandState)
demand_act d k = limited demand_count demand_access d k

-- The record of an access to k, from the cache before it. It is this and nothing beside, and holds no list.
abbrev pub demand_record_of : ℕ → DemandState → DemandRecord
demand_record_of k d = record { moves = queues_record_of k d.queues; outcome = (queues_act k d.queues).0 }

-- an access may be refused memory: its key is not resident
abbrev pub demand_may_ask : DemandState → ℕ → Type 0
demand_may_ask d k = has_key k (queues_residents d.queues) ≡ false

-- the state before an access, from its record and the state after it
abbrev pub demand_undone : DemandRecord → DemandState → DemandState
demand_undone r d = record { queues = queues_undone r.moves d.queues; stats = stats_without r.outcome d.stats }

abbrev pub demand_asks : DemandRecord → Type 0
demand_asks r = queues_asks r.moves

-- what holds of a cache
pub record IsDemand (d : DemandState) : Type 0 where
  pub least : 1 ≤ d.queues.capacity
  pub most : d.queues.capacity ≤ MAX_CAPACITY
  pub queues : IsQueues d.queues.capacity d.queues
  pub counts : IsTally d.stats

-- an access to i by the plan, of which the outcome o and the policy's own number y are read, and not its record
pub record IsCountedBy (p : Plan) (i : Item) (s u : Queues) (o : Outcome) (y : ℕ) : Type 0 where
  pub outcome : o ≡ outcome_of p s
  pub own_number : y ≡ p.own_number
  pub after : u ≡ after_all p i s

-- the record is that of the last access: its outcome was counted last
pub record DemandFits (r : DemandRecord) (d : DemandState) : Type 0 where
  pub queues : QueuesFits r.moves d.queues
  pub counted : IsCounted r.outcome d.stats
  pub counts : IsTally (stats_without r.outcome d.stats)

-- accesses to the keys, begun in one cache, stopped in another, where the next may ask for memory
abbrev pub DemandStops : List ℕ → DemandState → DemandState → Type 0
DemandStops keys start d = StopsWithin (λ made e. e ≡ state_after_all demand_access start made) demand_may_ask keys d
