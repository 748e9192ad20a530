use Rattle.std.proofs.Common.{◌≡◌, ◌≤◌, List, [], ℕ, length, map, take}
use Rattle.trace_index.specs.TraceNumbers.{count_before, first_comings, HasNumbers}
use Rattle.trace_index.specs.declared.key_places.KeyPlaces.{KeyPlaces}
use Rattle.trace_index.proofs.trace_numbers.numbers_of.Given as goal

-- the keys that came in a trace have their numbers
pub record HaveNumbers (trace numbers : List ℕ) (seen : KeyPlaces) (count : ℕ) : Type 0 where
  pub many : length (first_comings [] trace) ≡ count
  pub table : HasNumbers (first_comings [] trace) seen
  pub are : numbers ≡ map (count_before (first_comings [] trace)) trace

abbrev pub invariant-loop-key : goal.invariant-loop-key
invariant-loop-key l = HaveNumbers (take l.key-index l.keys) l.numbers.items l.seen l.count × (l.count ≤ l.key-index)
