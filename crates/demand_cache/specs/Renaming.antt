-- Policies that keep each missed key ignore what keys are called.
use Rattle.std.specs.Prelude.{ℕ}
use Rattle.demand_cache.specs.declared.demand_policy.DemandPolicy.{DemandPolicy}
use Rattle.demand_cache.specs.DemandCache.{demand_machine}
use Rattle.demand_cache.specs.Names.{IgnoresNames}

-- Each does, at each capacity.
abbrev pub DemandIgnoresNames : Type 0
DemandIgnoresNames = (p : DemandPolicy) (c : ℕ) → IgnoresNames (demand_machine p c)
