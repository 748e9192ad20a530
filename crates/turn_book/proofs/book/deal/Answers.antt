use Rattle.std.proofs.Common.{arith, ap, refl, sym, ◌∙◌}
use Rattle.turn_book.proofs.Moves.{cuts_as}
use Rattle.turn_book.proofs.Dealing.{cut_pass, cuts_of, dealt_more, dealt_all, dealt_none, every_more, every_none}
use Rattle.turn_book.proofs.book.deal.Goals as goal

pub loop-w-init : goal.loop-w-init
loop-w-init g c =
    let r = c.requires.room in
    let none = r.0 in
    let len = r.1 in
    record {
      same = refl;
      begun = refl;
      room = (omega arith, r.2);
      dealing = dealt_none _ _ _ _ _ none len c.requires.some c.requires.rests;
      own = every_none _ _ none;
    }

pub split_seat-first-requires : goal.split_seat-first-requires
split_seat-first-requires g c =
    let z = c.requires.board in
    let two = z.0 in
    let i = c.loop-w.invariant in
    let k = c.args.board.now.shared.key in
    (i.same ∙ c.requires.own, omega arith, cuts_as g.T.Kept.origin g.T.Kept.entries g.T.Kept.worker_of g.T.Kept.undone k.opening.value k.workers _ _ (cuts_of _ _ _ _ _ i.dealing))

pub loop-w-preserved : goal.loop-w-preserved
loop-w-preserved g c =
    let i = c.loop-w.invariant in
    let a = c.push_reserved.ensures in
    let cut = c.split_seat-first.ensures in
    let pass = cut_pass c.split_seat-first.result.table_id _ _ (cuts_of _ _ _ _ _ i.dealing) cut.4 in
    let len = i.room.0 in
    let cap = i.room.1 in
    let test = c.loop-w-test.true in
    record {
      same = cut.0 ∙ i.same;
      begun = ap (λ m. m.0.opening) cut.2 ∙ i.begun;
      room = (omega arith, omega arith);
      dealing = dealt_more _ _ _ _ _ _ _ _ _ a.items a.len (omega arith) cut.2 (ap (λ m. m.0) (sym pass ∙ cut.4)) i.dealing;
      own = every_more _ _ _ _ a.items i.own (λ j. record { table = (cut.3 ∙ i.same) j; opening = (ap (λ m. m.0.opening) cut.4 ∙ i.begun) j });
    }

pub returns-clause-parts : goal.returns-clause-parts
returns-clause-parts g c =
    let i = c.loop-w.invariant in
    let len = i.room.0 in
    let some = c.requires.some in
    let auto = c.loop-w.auto.w-end (omega arith) in
    let test = c.loop-w-test.false in
    dealt_all c.loop-w.seat.table_id _ _ _ _ _ _ _ c.push_reserved-2.ensures.items (omega arith) refl i.dealing

pub returns-clause-own : goal.returns-clause-own
returns-clause-own g c =
    let i = c.loop-w.invariant in
    every_more _ _ _ _ c.push_reserved-2.ensures.items i.own (λ j. record { table = i.same j; opening = i.begun j })
