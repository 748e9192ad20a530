use Rattle.std.proofs.Common.{◌≡◌, ℕ, [], length, map, get_or, vec_items}
use Rattle.cachesim.proofs.drive.empty_pieces.Given as goal

abbrev pub invariant-loop : goal.invariant-loop
invariant-loop l = record {
  many : length l.pieces.items ≡ l.counter;
  empty : (w : ℕ) → get_or (map (λ p. vec_items p) l.pieces.items) w [] ≡ [];
}
