-- A policy that keeps each missed key, as one value, and what has to be known of it: all else is the same for every policy.
use Rattle.std.specs.Prelude.{◌≡◌, ℕ, ◌≤◌, ◌⊎◌, true, false, nat_lt, Option, Some, None, List, ◌++◌, length}
use Rattle.engine_base.specs.Keys.{has_key}
use Rattle.engine_base.specs.Machine.{Machine}
use Rattle.queue_table.specs.Queues.{Queues, empty_queues}
use Rattle.policy_pages.specs.Residents.{Outcome, KeepsResidents}
use Rattle.queue_table.specs.Moves.{item_of, Plan, after_all}
use Rattle.queue_table.specs.Tabled.{IsTabled, keys_of}
use Rattle.segments.specs.NamedQueue.{NamedQueueData}
use Rattle.policy_pages.specs.Plans.{IsPlannedBy}

-- Its definition: the state of an empty cache, an access to a key in a cache of some capacity, the resident keys of a state,
-- what holds of each state, and its queues under their names. How a number of the policy's own and the queues show such a
-- state, which numbers and queues do, the plan of an access by them, and in which queues the resident keys stand, in one or
-- in two.
pub record PolicyPage : Type 1 where
  pub State : Type 0
  pub start : State
  pub act : ℕ → ℕ → State → Outcome × State
  pub residents : State → List ℕ
  pub IsState : ℕ → State → Type 0
  pub named_queues : State → List NamedQueueData
  pub view : ℕ → Queues → State
  pub IsShown : ℕ → Queues → Type 0
  pub plan : ℕ → ℕ → ℕ → Queues → Plan
  pub resident_queues : ℕ → ℕ × Option ℕ

-- its definition as a machine over keys, at capacity c
abbrev pub page_machine : PolicyPage → ℕ → Machine
page_machine g c =
    record { State = g.State; start = g.start; access = g.act c; residents = g.residents; IsState = g.IsState c }

-- the keys, and those of one more queue
abbrev pub keys_with : List ℕ → Option ℕ → Queues → List ℕ
keys_with keys None s = keys
keys_with keys (Some q) s = keys ++ keys_of (s q)

-- a plan by which no key leaves the queues
pub record LeavesNone (p : Plan) : Type 0 where
  pub first : p.first ≡ None
  pub second : p.second ≡ None

-- a plan by which keys leave the queues only where this holds
abbrev pub LeavesWhere : Type 0 → Plan → Type 0
LeavesWhere full p = LeavesNone p ⊎ full

-- An access by the plan is the definition's, and leads to queues that show a state.
abbrev pub IsPlannedPage : PolicyPage → Type 0
IsPlannedPage g = (c k x : ℕ) (s : Queues) → 1 ≤ c → IsTabled s → g.IsShown x s → g.IsState c (g.view x s)
    → IsPlannedBy (g.plan c k x s) k s g.view (g.act c k (g.view x s)) (has_key k (g.residents (g.view x s)))
    × g.IsShown (g.plan c k x s).own_number (after_all (g.plan c k x s) (item_of k) s)

pub record IsSoundPage (g : PolicyPage) : Type 0 where
  -- the definition keeps each missed key: its residents fit, each once, and in a full cache one key leaves for it
  pub keeps : (c : ℕ) → 1 ≤ c → KeepsResidents c g.start (g.act c) g.residents (g.IsState c)
  -- empty queues show an empty cache
  pub starts : g.IsShown 0 empty_queues × (g.view 0 empty_queues ≡ g.start)
  pub planned : IsPlannedPage g
  -- the residents, queue by queue, oldest first
  pub residents : (x : ℕ) (s : Queues)
      → g.residents (g.view x s) ≡ keys_with (keys_of (s (g.resident_queues x).0)) (g.resident_queues x).1 s
  -- by a hit no key leaves the queues, and by a miss only where the cache is full
  pub hits : (c k x : ℕ) (s : Queues) → (g.plan c k x s).hits ≡ true → LeavesNone (g.plan c k x s)
  pub leaves : (c k x : ℕ) (s : Queues) → IsTabled s → g.IsShown x s → g.IsState c (g.view x s)
      → LeavesWhere (nat_lt (length (g.residents (g.view x s))) c ≡ false) (g.plan c k x s)
