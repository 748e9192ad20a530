-- The plan of an access to a renamed key, over renamed queues, is that of the access: by each policy it is made of where the
-- key stands, of lengths and of counts.
use Rattle.std.proofs.Common.{◌≡◌, ℕ, Option, Some, None, List, [], ◌∷◌, map, refl}
use Rattle.std.proofs.lemmas.List.{length-map}
use Rattle.queue_table.specs.Queues.{Queues}
use Rattle.queue_table.specs.declared.records.Entry.{Entry}
use Rattle.queue_table.specs.Moves.{item_of, standing}
use Rattle.policy_pages.specs.Queues.{is_empty}
use Rattle.policy_pages.specs.FifoPlan.{fifo_plan}
use Rattle.policy_pages.specs.ClockPlan.{clock_plan}
use Rattle.policy_pages.specs.SievePlan.{sieve_plan}
use Rattle.policy_pages.specs.S3FifoPlan as s3_fifo
use Rattle.policy_pages.specs.declared.two_q.TwoQSizes.{TwoQSizes}
use Rattle.policy_pages.specs.TwoQPlan as two_q
use Rattle.policy_pages.specs.ArcPlan as arc
use Rattle.policy_pages.specs.CarPlan as car
use Rattle.demand_cache.specs.declared.demand_policy.DemandPolicy.TheVariants.{Fifo, Clock, Sieve, S3Fifo, TwoQ, Arc, Car}
use Rattle.demand_cache.specs.declared.demand_policy.DemandPolicy.{DemandPolicy}
use Rattle.demand_cache.specs.DemandPolicy.{plan_by}
use Rattle.demand_cache.proofs.RenamedMachines.{IsInjective}
use Rattle.demand_cache.proofs.RenamedQueues.{renamed_entry, renamed_queues, standing-renamed, turns-renamed, turns-at, due-renamed, oldest-renamed, departed-renamed, departed-at}

empty-renamed : (f : ℕ → ℕ) (l : List Entry) → is_empty (map (renamed_entry f) l) ≡ is_empty l
empty-renamed f [] = refl
empty-renamed f (e ∷ l) = refl

ruleset parts = (length-map, due-renamed, turns-at, turns-renamed, oldest-renamed, departed-at, departed-renamed, empty-renamed)

module _ (f : ℕ → ℕ) (i : IsInjective f) (c k x : ℕ) (s : Queues) where
  fifo-renamed : fifo_plan c (f k) x (renamed_queues f s) ≡ fifo_plan c k x s
  fifo-renamed = simp (standing-renamed f i k s, parts)

  clock-renamed : clock_plan c (f k) x (renamed_queues f s) ≡ clock_plan c k x s
  clock-renamed = simp (standing-renamed f i k s, parts, i)

  sieve-renamed : sieve_plan c (f k) x (renamed_queues f s) ≡ sieve_plan c k x s
  sieve-renamed = simp (standing-renamed f i k s, parts, i)

  s3-fifo-at : (part : ℕ) (o : Option (ℕ × ℕ)) → s3_fifo.plan_at part c x o (renamed_queues f s) ≡ s3_fifo.plan_at part c x o s
  s3-fifo-at part None = simp (parts, i)
  s3-fifo-at part (Some at) = simp (parts, i)

  s3-fifo-renamed : (part : ℕ) → s3_fifo.s3_fifo_plan part c (f k) x (renamed_queues f s) ≡ s3_fifo.s3_fifo_plan part c k x s
  s3-fifo-renamed part = rw (standing-renamed f i k s) (s3-fifo-at part (standing (item_of k) s))

  two-q-at : (z : TwoQSizes) (o : Option (ℕ × ℕ)) → two_q.plan_at z c x o (renamed_queues f s) ≡ two_q.plan_at z c x o s
  two-q-at z None = simp parts
  two-q-at z (Some at) = simp parts

  two-q-renamed : (z : TwoQSizes) → two_q.two_q_plan z c (f k) x (renamed_queues f s) ≡ two_q.two_q_plan z c k x s
  two-q-renamed z = rw (standing-renamed f i k s) (two-q-at z (standing (item_of k) s))

  arc-at : (o : Option (ℕ × ℕ)) → arc.plan_at c x o (renamed_queues f s) ≡ arc.plan_at c x o s
  arc-at None = simp parts
  arc-at (Some at) = simp parts

  arc-renamed : arc.arc_plan c (f k) x (renamed_queues f s) ≡ arc.arc_plan c k x s
  arc-renamed = rw (standing-renamed f i k s) (arc-at (standing (item_of k) s))

  car-at : (o : Option (ℕ × ℕ)) → car.plan_at c x o (renamed_queues f s) ≡ car.plan_at c x o s
  car-at None = simp (parts, i)
  car-at (Some at) = simp (parts, i)

  car-renamed : car.car_plan c (f k) x (renamed_queues f s) ≡ car.car_plan c k x s
  car-renamed = rw (standing-renamed f i k s) (car-at (standing (item_of k) s))

  pub plan-renamed : (p : DemandPolicy) → plan_by p c (f k) x (renamed_queues f s) ≡ plan_by p c k x s
  plan-renamed Fifo = fifo-renamed
  plan-renamed Clock = clock-renamed
  plan-renamed Sieve = sieve-renamed
  plan-renamed (S3Fifo part) = s3-fifo-renamed part
  plan-renamed (TwoQ z) = two-q-renamed z
  plan-renamed Arc = arc-renamed
  plan-renamed Car = car-renamed
