use Rattle.std.proofs.Common.{◌≡◌, ◌∙◌, ◌+◌, ◌++◌, Ok, ap, arith, length, length-append, subst}
use Rattle.std.specs.Prelude.{IfSome}
use Rattle.trace_read.proofs.Nexts.{ended, failed, gave_up}
use Rattle.policy_actors.proofs.Pieces.{AreWaiting, fewer_wait, last_wait, more_wait, none_wait, of_known, wait_next}
use Rattle.policy_actors.proofs.source.feed_read.Goals as goal

pub pieces-init : goal.pieces-init
pieces-init g c =
    let has = c.new-reading.ensures.new (g.R.CountedRead.remaining c.args.reader.now) (g.R.CountedRead.tally c.args.reader.now) in
    record {
      reading = record { same_limits = has.same_limits; same_format = has.same_format; count = omega (arith, has.count, c.requires.none, ap length c.new-waiting.ensures.items); reading = has.reading };
      wait = subst (λ n. IfSome g.S.FedTrace.known (AreWaiting c.args.feeder.now.place n c.new-waiting.result.items)) {x = 0} (omega (arith, c.requires.none, ap length c.new-waiting.ensures.items))
          (none_wait g.S.FedTrace.known _ _ c.requires.none c.new-waiting.ensures.items);
    }

pub returns-in_err-next : goal.returns-in_err-next
returns-in_err-next g c =
    let handed = c.from_residual in
    let whole = failed c.pieces.invariant.reading c.in_err-next.ensures.next handed.result handed.ensures.1 in
    record { read = whole.read; tally = whole.tally }

pub returns-in_err-extend_from_slice : goal.returns-in_err-extend_from_slice
returns-in_err-extend_from_slice g c =
    let next = c.in_ok-next.ensures.next _ _ _ _ _ c.pieces.invariant.reading in
    let handed = c.from_residual-in_err-extend_from_slice in
    let whole = gave_up next.goes_on handed.result handed.ensures.1 in
    record { read = whole.read; tally = whole.tally }

pub take-requires-clause-few : goal.take-requires-clause-few
take-requires-clause-few g c =
    let next = c.in_ok-next.ensures.next _ _ _ _ _ c.pieces.invariant.reading in
    let keys = c.next.new.keys.items in
    let len : length c.extend_from_slice.new.self.items ≡ length c.pieces.waiting.items + length keys =
    ap length (c.in_ok-extend_from_slice.ensures.items ∙ ap (λ l. c.pieces.waiting.items ++ l) c.as_slice.ensures.value) ∙ length-append c.pieces.waiting.items keys in
    omega (arith, next.few, len, c.requires.few)

pub take-requires-clause-next : goal.take-requires-clause-next
take-requires-clause-next g c =
    let i = c.pieces.invariant in
    let first = g.R.CountedRead.remaining c.args.reader.now in
    let known = g.S.FedTrace.known in
    let next = c.in_ok-next.ensures.next _ _ _ _ _ i.reading in
    let n = c.pieces.feeder.place + length c.pieces.waiting.items in
    let both = c.extend_from_slice.new.self.items in
    let is : both ≡ c.pieces.waiting.items ++ c.next.new.keys.items = c.in_ok-extend_from_slice.ensures.items ∙ ap (λ l. c.pieces.waiting.items ++ l) c.as_slice.ensures.value in
    wait_next known c.pieces.feeder.place _ both
    (more_wait known c.pieces.feeder.place n c.pieces.waiting.items c.next.new.keys.items both is (of_known c.args.format first known _ c.requires.known next.gives.next) i.wait)

pub pieces-preserved : goal.pieces-preserved
pieces-preserved g c =
    let i = c.pieces.invariant in
    let first = g.R.CountedRead.remaining c.args.reader.now in
    let known = g.S.FedTrace.known in
    let next = c.in_ok-next.ensures.next _ _ _ _ _ i.reading in
    let keys = c.next.new.keys.items in
    let place = c.pieces.feeder.place in
    let n = place + length c.pieces.waiting.items in
    let both = c.extend_from_slice.new.self.items in
    let take = c.take.ensures in
    let on = next.goes_on in
    let is : both ≡ c.pieces.waiting.items ++ keys = c.in_ok-extend_from_slice.ensures.items ∙ ap (λ l. c.pieces.waiting.items ++ l) c.as_slice.ensures.value in
    let len : length both ≡ length c.pieces.waiting.items + length keys = ap length is ∙ length-append c.pieces.waiting.items keys in
    let more = more_wait known place n c.pieces.waiting.items keys both is (of_known c.args.format first known _ c.requires.known next.gives.next) i.wait in
    record {
      reading = record { same_limits = on.same_limits; same_format = on.same_format; count = omega (arith, on.count, take.taken, len); reading = on.reading };
      wait = subst (λ m. IfSome known (AreWaiting c.take.new.self.place m c.take.new.keys.items)) {x = n + length keys} (omega (arith, take.taken, len))
          (fewer_wait known place c.take.new.self.place (n + length keys) both c.take.new.keys.items take.order take.taken take.left more);
    }

pub give-requires-clause-few : goal.give-requires-clause-few
give-requires-clause-few g c =
    let next = c.in_ok-next.ensures.next _ _ _ _ _ c.pieces.invariant.reading in
    omega (arith, next.few, c.requires.few)

pub give-requires-clause-next : goal.give-requires-clause-next
give-requires-clause-next g c =
    let i = c.pieces.invariant in
    let first = g.R.CountedRead.remaining c.args.reader.now in
    let known = g.S.FedTrace.known in
    let next = c.in_ok-next.ensures.next _ _ _ _ _ i.reading in
    let n = c.pieces.feeder.place + length c.pieces.waiting.items in
    let keys = c.next.new.keys.items in
    let none : length keys ≡ 0 = ap length (next.none (ap Ok c.if-branch.false)) in
    last_wait known c.pieces.feeder.place n c.pieces.waiting.items
    (subst (λ m. IfSome known (λ all. m ≡ length all)) {x = n + length keys} (omega (arith, none)) (of_known c.args.format first known (λ all. n + length keys ≡ length all) c.requires.known (next.gives.last c.if-branch.false)))
    i.wait

pub returns : goal.returns
returns g c =
    let whole = ended tt _ c.if-branch.false (c.in_ok-next.ensures.next _ _ _ _ _ c.pieces.invariant.reading) in
    record { read = whole.read; tally = whole.tally }
