use Rattle.std.proofs.Common.{◌≡◌, ℕ, length}
use Rattle.std.specs.BTreeMap.{get}
use Rattle.std.specs.Ordering.{nat_cmp}
use Rattle.trace_index.specs.KeyCells.{number_or, number_below}
use Rattle.trace_index.specs.KeyNumbers.{number_in, number_in_both}
use Rattle.trace_index.proofs.key_numbers.KeyNumbers.widen.Given as goal

abbrev pub invariant-loop-place : goal.invariant-loop-place
invariant-loop-place l = record {
  cells : l.self.cells ≡ l.fn.self.cells;
  end : l.place-end ≡ length l.fn.self.cells.0;
  moved : (k : ℕ) → number_in_both l.cells l.self.rest k
      ≡ number_or (number_below l.fn.self.cells.0 l.fn.self.cells.1 l.place k) (number_in (get nat_cmp l.fn.self.rest k));
}
