use Rattle.std.proofs.Common.{◌%◌, ◌/◌, get_or}
use Rattle.sketch.proofs.Digits.{some_le, unit, lowered_here, lowered_other}
use Rattle.sketch.proofs.counters.lower.Goals as goal

pub overflow_sub-words : goal.overflow_sub-words
overflow_sub-words c = rw (unit c.args.at) (some_le (c.args.at % 16) (get_or c.args.words.now (c.args.at / 16) 0) (c.requires.some c.if-rose.true))

pub returns-then-rose-clause-here : goal.returns-then-rose-clause-here
returns-then-rose-clause-here c = rw c.if-rose.true (lowered_here c.args.words.now c.args.at c.requires.within (c.requires.some c.if-rose.true))

pub returns-then-rose-clause-same : goal.returns-then-rose-clause-same
returns-then-rose-clause-same c = lowered_other c.args.words.now c.args.at c.requires.within (c.requires.some c.if-rose.true)
