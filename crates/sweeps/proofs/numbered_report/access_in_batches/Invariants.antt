use Rattle.std.proofs.Common.{◌≡◌, ℕ, List, take}
use Rattle.engine_base.specs.declared.limits.TheConstants.{MAX_BATCH}
use Rattle.engine_base.specs.Machine.{state_after_all}
use Rattle.demand_cache.specs.DemandCache.{DemandState, demand_access}
use Rattle.sweeps.proofs.Cut.{IsCut}
use Rattle.sweeps.proofs.numbered_report.access_in_batches.Given as goal

-- so many of the numbers were accessed, in whole batches
pub record Accessed (numbers rest : List ℕ) (number : ℕ) (start cache : DemandState) : Type 0 where
  pub done : ℕ
  pub cut : IsCut MAX_BATCH numbers number rest done
  pub made : cache ≡ state_after_all demand_access start (take done numbers)

abbrev pub invariant-loop-number : goal.invariant-loop-number
invariant-loop-number g l = Accessed l.numbers l.rest l.number l.initial.cache l.cache
