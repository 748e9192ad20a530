use Rattle.std.proofs.Common.{◌++◌, arith, ap, ◌∙◌}
use Rattle.std.specs.Option.{option_to_list}
use Rattle.turn_book.proofs.Moves.{joins_as}
use Rattle.turn_book.proofs.Seating.{rests_pass, book_at, seat_is}
use Rattle.turn_book.proofs.Dealing.{rests_both, rests_own, gathered_first, gathered_more, every_less}
use Rattle.turn_book.proofs.book.gather.Goals as goal

pub loop-pass-init : goal.loop-pass-init
loop-pass-init g c =
    let p = c.unwrap.result in
    let items = c.pop.ensures.items ∙ ap (λ o. c.pop.new.self.items ++ option_to_list o) c.unwrap.ensures in
    let own = every_less _ _ _ _ items c.requires.own in
    let seat = seat_is c.seat.inside.seat.table_id _ c.seat.inside.drawn p c.seat.invariant c.seat.view_is in
    record {
      same = ap (λ q. q.book.table) c.seat.view_is ∙ ap (λ b. b.table) own.1;
      own = own.0;
      rests = rests_own _ _ _ (rests_pass _ p _ _ seat own.1);
      whole = gathered_first _ _ p _ items seat;
    }

pub join_seat-requires : goal.join_seat-requires
join_seat-requires g c =
    let z = c.requires.board in
    let two = z.0 in
    let i = c.loop-pass.invariant in
    let p = c.in-Some.pass in
    let k = c.args.board.now.shared.key in
    let own = every_less _ _ _ _ c.in-Some.ensures.items i.own in
    let seat = seat_is c.pass.inside.seat.table_id _ c.pass.inside.drawn p c.pass.invariant c.pass.view_is in
    (i.same, ap (λ q. q.book.table) c.pass.view_is ∙ ap (λ b. b.table) own.1, ap (λ m. m.1) seat, omega arith, joins_as g.T.Kept.origin g.T.Kept.entries g.T.Kept.worker_of g.T.Kept.undone k.opening.value k.workers _ _ _ _ _ _ _ _ _ _ i.rests.is (book_at _ p _ _ seat own.1))

pub loop-pass-preserved : goal.loop-pass-preserved
loop-pass-preserved g c =
    let i = c.loop-pass.invariant in
    let p = c.in-Some.pass in
    let own = every_less _ _ _ _ c.in-Some.ensures.items i.own in
    let seat = seat_is c.pass.inside.seat.table_id _ c.pass.inside.drawn p c.pass.invariant c.pass.view_is in
    let me = c.join_seat.ensures.2 in
    record {
      same = c.join_seat.ensures.0 ∙ i.same;
      own = own.0;
      rests = rests_both c.loop-pass.seat.me c.pass.inside.seat.me c.join_seat.new.seat.me i.rests me;
      whole = gathered_more _ _ p c.loop-pass.seat.me c.pass.inside.seat.me c.join_seat.new.seat.me _ c.in-Some.ensures.items seat me i.whole;
    }
