-- The window of the trace whose keys Lru holds.
use Rattle.std.specs.Prelude.{◌≡◌, ℕ, suc, ◌*◌, ◌<◌, ◌≤◌, true, false, List, length, take, drop}
use Rattle.std.specs.Prelude.{slice_index}
use Rattle.engine_base.specs.declared.limits.TheConstants.{MAX_ACCESSES}
use Rattle.engine_base.specs.Keys.{has_key}
use Rattle.engine_base.specs.Bits.{bit_of}
use Rattle.queue_cache.specs.Lru.{distinct_keys}
use Rattle.queue_cache.specs.Distances.{hits_within}
pub use Rattle.queue_cache.specs.declared.window.Window.{Window}

-- The window begins at a place of the trace and ends before another one. It has as many distinct keys as fit, and no
-- fewer than that unless it begins where the trace does. Of each access in it one bit says whether its key came again.
pub record IsWindow (keys : List ℕ) (place : ℕ) (w : Window) : Type 0 where
  pub begun : w.first ≤ place
  pub held : w.held ≡ length (distinct_keys (drop w.first (take place keys)))
  pub fits : w.held ≤ w.capacity
  pub full : 1 ≤ w.first → w.held ≡ w.capacity
  pub hits : w.hits ≡ hits_within w.capacity (take place keys)
  pub room : length keys ≤ 64 * length w.renewed.items
  pub few : length w.renewed.items ≤ MAX_ACCESSES
  pub renewed : (i : ℕ) → w.first ≤ i →
      bit_of w.renewed.items i ≡ has_key (slice_index keys i) (drop (suc i) (take place keys))

-- The bits from one place up to another are set, and that of the other is not.
pub record IsFirstClear (words : List ℕ) (from place : ℕ) : Type 0 where
  pub behind : from ≤ place
  pub clear : bit_of words place ≡ false
  pub set : (i : ℕ) → from ≤ i → i < place → bit_of words i ≡ true
