use Rattle.std.proofs.Common.{◌≡◌, ◌≤◌, ◌+◌, map, vec_len, vec_capacity}
use Rattle.turn_book.specs.Turns.{Every}
use Rattle.turn_book.specs.Seats.{part_of}
use Rattle.turn_book.proofs.Dealing.{Dealing}
use Rattle.turn_book.proofs.book.deal.Given as goal

abbrev pub invariant-loop-w : goal.invariant-loop-w
invariant-loop-w g l = record {
  same : l.seat.table_id ≡ l.fn.seat.table_id;
  begun : l.seat.me.0.opening ≡ l.fn.seat.me.0.opening;
  room : (vec_len l.passes + 1 ≡ l.w) × (l.workers ≤ vec_capacity l.passes);
  dealing : Dealing (map part_of l.passes.items) l.seat.me (vec_len l.passes) l.workers l.fn.seat.me.0.last;
  own : Every (λ p. p.book ≡ record { table = l.fn.seat.table_id; opening = l.fn.seat.me.0.opening }) l.passes.items;
}
