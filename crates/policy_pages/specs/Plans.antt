-- Plans of policies that keep each missed key, and what it is that a plan is the access of a policy's definition.
use Rattle.std.specs.Prelude.{◌≡◌, ℕ, ◌≤◌, Bool, [], true, false, if◌then◌else◌, Option, Some, None}
use Rattle.queue_table.specs.Queues.{Queues}
pub use Rattle.queue_table.specs.declared.moves.Run.{Run}
use Rattle.queue_table.specs.Moves.{Outcome, item_of, no_run, Leaving, Own, Plan, own_plan}
use Rattle.queue_table.specs.Moves.{after_all, outcome_of, IsLowPlan}
use Rattle.policy_pages.specs.Leavers.{Leavers}

-- an access to a key by where it stands, and by whether there is room for one more
abbrev pub resident_plan : Option (ℕ × ℕ) → Bool → Own → Own → ℕ → Plan → Plan
resident_plan (Some at) room hit join x full = own_plan true hit x
resident_plan None room hit join x full = if room then own_plan false join x else full

-- a miss after two runs
abbrev pub run_plan : Run → Run → Leavers → Own → ℕ → Plan
run_plan early late l own x =
    record { hits = false; early = early; late = late; first = l.first; second = l.second; own = own; own_number = x }

abbrev pub miss_plan : Leavers → Own → ℕ → Plan
miss_plan l own x = run_plan no_run no_run l own x

-- a miss after two runs at which one key leaves
abbrev pub leaver_plan : Run → Run → Option Leaving → Own → ℕ → Plan
leaver_plan early late first own x =
    record { hits = false; early = early; late = late; first = first; second = None; own = own; own_number = x }

-- The plan p of an access to k over the queues s makes the access `act` of a definition, a hit or not. The view shows a
-- state of the definition by the policy's own number and the queues.
pub record IsPlannedBy {S : Type 0} (p : Plan) (k : ℕ) (s : Queues) (view : ℕ → Queues → S) (act : Outcome × S)
    (hit : Bool) : Type 0 where
  pub outcome : outcome_of p s ≡ act.0
  pub state : view p.own_number (after_all p (item_of k) s) ≡ act.1
  pub hits : p.hits ≡ hit
  pub low : IsLowPlan p

-- the queues from n on are empty
abbrev pub IsWithin : ℕ → Queues → Type 0
IsWithin n s = (q : ℕ) → n ≤ q → s q ≡ []

-- and the queues from n on stay empty
abbrev pub IsPlannedWithin : {S : Type 0} → ℕ → Plan → ℕ → Queues → (ℕ → Queues → S) → Outcome × S → Bool → Type 0
IsPlannedWithin n p k s view act hit = IsPlannedBy p k s view act hit × IsWithin n (after_all p (item_of k) s)
