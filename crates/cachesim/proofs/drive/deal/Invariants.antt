use Rattle.std.proofs.Common.{◌≡◌, length, map, vec_items}
use Rattle.cachesim.proofs.Dealing.{IsDealtUpTo}
use Rattle.cachesim.proofs.drive.deal.Given as goal

abbrev pub invariant-loop-i : goal.invariant-loop-i
invariant-loop-i l = record {
  many : length l.pieces.items ≡ l.workers;
  own : IsDealtUpTo l.workers l.i l.keys (map (λ p. vec_items p) l.pieces.items);
}
