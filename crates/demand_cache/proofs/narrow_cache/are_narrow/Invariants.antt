use Rattle.std.proofs.Common.{◌≡◌, ◌<◌, ◌^◌, length, map, take, All}
use Rattle.demand_cache.specs.NarrowKeys.{IsNarrow}
use Rattle.demand_cache.proofs.narrow_cache.are_narrow.Given as goal

abbrev pub invariant-loop-i : goal.invariant-loop-i
invariant-loop-i l = record {
  len : length l.names ≡ length l.initial.names;
  keys : l.bits < 2 ^ 32 → map (λ k. k.key) (take l.i l.names) ≡ take l.i l.keys;
  all : All IsNarrow (take l.i l.keys) → l.bits < 2 ^ 32;
}
