-- What is known of these policies together.
use Rattle.std.specs.Prelude.{◌≡◌, ℕ, ◌≤◌, true, List}
use Rattle.engine_base.specs.Stats.{is_eviction}
use Rattle.engine_base.specs.declared.outcome.Outcome.TheVariants.{Hit}
use Rattle.engine_base.specs.Machine.{outcomes, KeepsKeys, CountsResidents}
use Rattle.policy_pages.specs.Residents.{IsAccess}
use Rattle.policy_pages.specs.PolicyPage.{IsSoundPage, page_machine}
use Rattle.demand_cache.specs.DemandQueues.{DemandPolicy, DemandQueues, IsQueues, queues_act, queues_record_of, queues_asks}
use Rattle.demand_cache.specs.DemandQueues.{queues_residents}
use Rattle.demand_cache.specs.DemandPolicy.{page_of, outcomes_of_page}
use Rattle.demand_cache.specs.DemandCache.{demand_machine}

-- Of each policy, as one value: its definition keeps each missed key, and the plan of an access, which the code carries out,
-- is the definition's access.
abbrev pub PagesAreSound : Type 0
PagesAreSound = (p : DemandPolicy) → IsSoundPage (page_of p)

-- So the residents of the definition are its misses minus its evictions.
abbrev pub PagesCount : Type 0
PagesCount = (p : DemandPolicy) (c : ℕ) → 1 ≤ c → CountsResidents (page_machine (page_of p) c)

-- Of each policy: residents fit, each once; an access is a hit exactly where its key is resident, and no other key comes in.
abbrev pub DemandKeeps : Type 0
DemandKeeps = (p : DemandPolicy) (c : ℕ) → 1 ≤ c → KeepsKeys c (demand_machine p c)

-- A miss brings its key in, and of a full cache one key leaves; none is rejected.
abbrev pub MissesAreAdmitted : Type 0
MissesAreAdmitted = (c k : ℕ) (d : DemandQueues) → IsQueues c d
    → IsAccess c k (queues_residents d) (queues_act k d).0 (queues_residents (queues_act k d).1)

-- Undoing a hit takes no memory.
abbrev pub HitsAskNothing : Type 0
HitsAskNothing = (k : ℕ) (d : DemandQueues) → (queues_act k d).0 ≡ Hit → queues_asks (queues_record_of k d) → ⊥

-- Undoing an access takes memory only where a key left in it.
abbrev pub AsksWhereOneLeft : Type 0
AsksWhereOneLeft = (c k : ℕ) (d : DemandQueues) → IsQueues c d → queues_asks (queues_record_of k d)
    → is_eviction (queues_act k d).0 ≡ true

-- The outcomes are those of the policy's definition.
abbrev pub RunsByPage : Type 0
RunsByPage = (p : DemandPolicy) (c : ℕ) (keys : List ℕ) → 1 ≤ c
    → outcomes (demand_machine p c) keys ≡ outcomes_of_page p c keys
