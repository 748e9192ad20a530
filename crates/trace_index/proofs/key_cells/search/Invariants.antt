use Rattle.std.proofs.Common.{◌≢◌, ◌<◌, ◌≤◌, ℕ, slice_index}
use Rattle.trace_index.proofs.key_cells.search.Given as goal

abbrev pub invariant-loop-place : goal.invariant-loop-place
invariant-loop-place l = record {
  taken : (q : ℕ) → l.home ≤ q → q < l.place → slice_index l.numbers q ≢ 0;
  others : (q : ℕ) → l.home ≤ q → q < l.place → slice_index l.keys q ≢ l.key;
}
