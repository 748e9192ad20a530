use Rattle.std.proofs.Common.{◌+◌, ◌*◌, arith}
use Rattle.sketch.specs.Counters.{counter_at}
use Rattle.sketch.proofs.Odds.{odd_word, odd_few}
use Rattle.sketch.proofs.laws.odd_counters.Goals as goal

pub overflow_add-odd : goal.overflow_add-odd
overflow_add-odd c =
    let more = odd_word c.args.words.now c.loop-i.i in
    let few = odd_few (16 * (c.loop-i.i + 1)) (counter_at c.args.words.now) in
    record { fits = omega (arith, more, few, c.loop-i.invariant, c.loop-i-test.true, c.requires) }

pub loop-i-preserved : goal.loop-i-preserved
loop-i-preserved c =
    let more = odd_word c.args.words.now c.loop-i.i in
    omega (arith, more, c.loop-i.invariant)
