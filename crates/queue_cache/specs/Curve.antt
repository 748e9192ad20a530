-- The hits of Lru at every capacity.
use Rattle.std.specs.Prelude.{◌≡◌, ℕ, suc, ◌≤◌, List, length}
use Rattle.engine_base.specs.declared.limits.TheConstants.{MAX_ACCESSES}
use Rattle.engine_base.specs.Places.{by_place}
use Rattle.queue_cache.specs.Lru.{distinct_keys}
use Rattle.queue_cache.specs.Distances.{hits_within}

-- the number of accesses, and the hits at each capacity from 1 up to the number of distinct keys, past which they stay
pub record CurveData : Type 0 where
  pub accesses : ℕ
  pub hits : List ℕ

abbrev pub curve_of : List ℕ → CurveData
curve_of keys = record {
  accesses = length keys;
  hits = by_place (length (distinct_keys keys)) (λ c. hits_within (suc c) keys);
}

-- some trace gives the curve
pub record IsCurve (d : CurveData) : Type 0 where
  pub keys : List ℕ
  pub gives : d ≡ curve_of keys
  pub few : length keys ≤ MAX_ACCESSES
