use Rattle.std.proofs.Common.{◌≡◌, ◌++◌, map}
use Rattle.turn_book.specs.Turns.{Every}
use Rattle.turn_book.specs.Views.{Rests}
use Rattle.turn_book.specs.Passes.{book_id}
use Rattle.turn_book.specs.Seats.{part_of}
use Rattle.turn_book.proofs.book.gather.Given as goal

abbrev pub invariant-loop-pass : goal.invariant-loop-pass
invariant-loop-pass g l = record {
  same : l.seat.table_id ≡ l.fn.board.shared.table_id;
  own : Every (λ p. p.book ≡ book_id l.fn.board.shared.table_id l.fn.board.shared.key.opening.value) l.passes.items;
  rests : Rests l.seat.me l.seat.me.0.parts l.seat.me.0.last;
  whole : map part_of l.passes.items ++ l.seat.me.0.parts ≡ map part_of l.fn.passes.items;
}

abbrev pub decreases-loop-pass : goal.decreases-loop-pass
decreases-loop-pass g l = goal.left-loop-pass g l
