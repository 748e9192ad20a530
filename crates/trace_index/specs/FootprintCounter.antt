-- What a counter keeps.
use Rattle.std.specs.Prelude.{◌≡◌, ◌==◌, ◌<◌, ◌+◌, ◌-◌, ◌%◌, ℕ, zero, suc, Bool, true, false, List, Option, Some, None, option_map}
use Rattle.trace_index.specs.KeyPlaces.{place_of}
use Rattle.trace_index.specs.declared.key_places.KeyPlaces.{KeyPlaces}
use Rattle.trace_index.specs.Footprint.{Footprint, footprint_of, times}
pub use Rattle.trace_index.specs.declared.footprint_counter.FootprintCounter.{FootprintCounter}

-- whether a block that was accessed so often was accessed again; none where it was never accessed
abbrev pub mark : ℕ → Option Bool
mark zero = None
mark (suc zero) = Some false
mark (suc (suc n)) = Some true

-- the last bit of the number that is kept for a block says so
abbrev pub mark_in : KeyPlaces → ℕ → Option Bool
mark_in places block = option_map (λ place. place % 2 == 1) (place_of places block)

-- the footprint with an access more, to a block with this mark
abbrev pub footprint_with : Option Bool → Footprint → Footprint
footprint_with None f = record { accesses = f.accesses + 1; blocks = f.blocks + 1; once = f.once + 1 }
footprint_with (Some false) f = record { accesses = f.accesses + 1; blocks = f.blocks; once = f.once - 1 }
footprint_with (Some true) f = record { accesses = f.accesses + 1; blocks = f.blocks; once = f.once }

-- no number is as large as n
pub record AreFewer (n : ℕ) (f : Footprint) : Type 0 where
  pub accesses : f.accesses < n
  pub blocks : f.blocks < n
  pub once : f.once < n

-- it has counted these accesses
pub record HasCounted (done : List ℕ) (counter : FootprintCounter) : Type 0 where
  pub counts : counter.footprint ≡ footprint_of done
  pub marks : (block : ℕ) → mark_in counter.places block ≡ mark (times block done)
