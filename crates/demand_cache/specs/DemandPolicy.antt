-- The policies that keep each missed key: the one table of them.
use Rattle.std.specs.Prelude.{ℕ, List}
use Rattle.segments.specs.NamedQueue.{NamedQueueData}
use Rattle.queue_table.specs.Queues.{Queues}
use Rattle.queue_table.specs.Moves.{Plan}
use Rattle.engine_base.specs.Machine.{outcomes_of_all}
use Rattle.policy_pages.specs.Residents.{Outcome}
use Rattle.policy_pages.specs.PolicyPage.{PolicyPage}
use Rattle.policy_pages.specs.FifoPlan.{fifo_page}
use Rattle.policy_pages.specs.ClockPlan.{clock_page}
use Rattle.policy_pages.specs.SievePlan.{sieve_page}
use Rattle.policy_pages.specs.S3FifoPlan.{s3_fifo_page}
use Rattle.policy_pages.specs.TwoQPlan.{two_q_page}
use Rattle.policy_pages.specs.ArcPlan.{arc_page}
use Rattle.policy_pages.specs.CarPlan.{car_page}
pub use Rattle.demand_cache.specs.declared.demand_policy.DemandPolicy.{DemandPolicy}
use Rattle.demand_cache.specs.declared.demand_policy.DemandPolicy.TheVariants.{Fifo, Clock, Sieve, S3Fifo, TwoQ, Arc, Car}

-- ---- each policy

-- as one value
abbrev pub page_of : DemandPolicy → PolicyPage
page_of Fifo = fifo_page
page_of Clock = clock_page
page_of Sieve = sieve_page
page_of (S3Fifo part) = s3_fifo_page part
page_of (TwoQ z) = two_q_page z
page_of Arc = arc_page
page_of Car = car_page

-- ---- all policies

-- the plan of an access to k at capacity c, where x is the policy's own number
abbrev pub plan_by : DemandPolicy → ℕ → ℕ → ℕ → Queues → Plan
plan_by p = (page_of p).plan

-- the keys that are cached, queue by queue, oldest first
abbrev pub residents_by : DemandPolicy → ℕ → Queues → List ℕ
residents_by p x s = (page_of p).residents ((page_of p).view x s)

-- the queues under their names
abbrev pub named_by : DemandPolicy → ℕ → Queues → List NamedQueueData
named_by p x s = (page_of p).named_queues ((page_of p).view x s)

-- a state of a cache of capacity c, by the policy's definition
abbrev pub IsStateOf : DemandPolicy → ℕ → ℕ → Queues → Type 0
IsStateOf p c x s = (page_of p).IsShown x s × (page_of p).IsState c ((page_of p).view x s)

-- the outcomes of accesses to the keys from an empty cache on, by the policy's definition
abbrev pub outcomes_of_page : DemandPolicy → ℕ → List ℕ → List Outcome
outcomes_of_page p c keys = outcomes_of_all ((page_of p).act c) (page_of p).start keys
