use Rattle.std.proofs.Common.{◌≡◌, ◌≤◌, ◌-◌, length, take}
use Rattle.engine_base.specs.Machine.{state_after_all}
use Rattle.demand_cache.specs.DemandCache.{demand_access}
use Rattle.demand_cache.proofs.narrow_cache.DemandCache+NarrowKey.access_narrow.Given as goal

abbrev pub invariant-loop-made : goal.invariant-loop-made
invariant-loop-made l = record {
  within : l.made ≤ length l.keys;
  made : l.self ≡ state_after_all demand_access l.initial.self (take l.made l.keys);
}

abbrev pub decreases-loop-made : goal.decreases-loop-made
decreases-loop-made l = length l.keys - l.made
