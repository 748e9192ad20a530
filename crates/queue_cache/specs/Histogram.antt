-- The places, marks and counts that stand for the accesses so far.
use Rattle.std.specs.Prelude.{◌≡◌, ℕ, suc, ◌+◌, ◌*◌, ◌/◌, ◌≤◌, Bool, false, not, ◌&&◌, nat_lt, eqb, Option, Some, None}
use Rattle.std.specs.Prelude.{List, length, take, drop, count_by, slice_index}
use Rattle.engine_base.specs.declared.limits.TheConstants.{MAX_ACCESSES}
use Rattle.engine_base.specs.Keys.{has_key}
use Rattle.engine_base.specs.Bits.{bit_of}
use Rattle.queue_cache.specs.Lru.{distinct_keys}
use Rattle.trace_index.specs.Uses.{last_below}
use Rattle.trace_index.specs.KeyPlaces.{place_of}
use Rattle.queue_cache.specs.Distances.{distances}
pub use Rattle.queue_cache.specs.declared.histogram.Histogram.{Histogram}

-- whether the access at q comes before a place, and its key does not come again in between
abbrev pub is_last : List ℕ → ℕ → ℕ → Bool
is_last keys place q = nat_lt q place && not (has_key (slice_index keys q) (drop (suc q) (take place keys)))

-- there is a distance, and it is d
abbrev pub is_at : ℕ → Option ℕ → Bool
is_at d None = false
is_at d (Some e) = eqb d e

-- what is counted at d, with the times that one more was noted there
abbrev pub count_at : List ℕ → List ℕ → ℕ → ℕ
count_at counts noted d = slice_index counts d + count_by (eqb d) noted

-- what was noted may be counted
pub record IsNoted (counts noted : List ℕ) : Type 0 where
  pub within : (d : ℕ) → length counts ≤ d → count_by (eqb d) noted ≡ 0
  pub few : (d : ℕ) → count_at counts noted d ≤ MAX_ACCESSES

-- After the accesses of a trace before a place: the last place of each key, a mark at each access that is the last one
-- to its key, with room for all of the trace, and for each distance how many accesses have it.
pub record IsHistogram (keys : List ℕ) (place : ℕ) (h : Histogram) : Type 0 where
  pub last : (k : ℕ) → place_of h.last k ≡ last_below keys place k
  pub marked : (q : ℕ) → bit_of h.marks.words.items q ≡ is_last keys place q
  pub room : length keys ≤ 64 * length h.marks.words.items
  pub summed : length h.marks.tree.sums.items ≡ place / 64
  pub long : length h.counts.items ≡ length (distinct_keys (take place keys))
  pub counted : (d : ℕ) → count_at h.counts.items h.noted.items d
      ≡ count_by (is_at (suc d)) (distances (take place keys))
