use Rattle.std.proofs.Common.{refl}
use Rattle.trace_read.specs.Reading.{HasGiven, given_by}
use Rattle.trace_tests.proofs.trace_read_tests.all_given.Goals as goal

pub pieces-init : goal.pieces-init
pieces-init g c =
    let has = c.new-reading.ensures.new (g.R.CountedRead.remaining c.args.pieces.now) (g.R.CountedRead.tally c.args.pieces.now) in
    record { old = _; before = _; reading = has.reading }

pub pieces-preserved : goal.pieces-preserved
pieces-preserved g c =
    let i = c.pieces.invariant in
    let r = c.pieces.reading in
    let has : HasGiven r.limits r.format i.old _ i.before _ (given_by r) r = record { same_limits = refl; same_format = refl; count = refl; reading = i.reading } in
    record { old = i.old; before = i.before; reading = (c.in_ok-next.ensures.next r.limits r.format i.old i.before (given_by r) has).goes_on.reading }
