-- The place that is kept for a key.
use Rattle.std.specs.Prelude.{ℕ, zero, suc, Option, Some, None, slice_index}
use Rattle.trace_index.specs.KeyCells.{number_or}
use Rattle.trace_index.specs.KeyNumbers.{number_of_any}
use Rattle.trace_index.specs.declared.key_places.KeyPlaces.{KeyPlaces}

-- the place that a number stands for, or none
abbrev pub place_at : ℕ → Option ℕ
place_at zero = None
place_at (suc p) = Some p

-- the number kept for k: the table's, where it has one for k, else that among the high keys
abbrev pub number_of_key : KeyPlaces → ℕ → ℕ
number_of_key p k = number_or (slice_index p.low.items k) (number_of_any p.high k)

-- the place that the table has for k
abbrev pub place_in_table : KeyPlaces → ℕ → Option ℕ
place_in_table p k = place_at (slice_index p.low.items k)

-- the place kept for k
abbrev pub place_of : KeyPlaces → ℕ → Option ℕ
place_of p k = place_at (number_of_key p k)
