use Rattle.std.proofs.lemmas.Bool.Decides.{nat_tests}
use Rattle.std.proofs.Common.{◌%◌, ◌/◌, get_or, arith}
use Rattle.sketch.proofs.Digits.{seen, nibble_lt, fits_more, unit, raised_here, raised_other, set_here, set_other}
use Rattle.sketch.proofs.counters.raise.Goals as goal
use Rattle.sketch.proofs.counters.raise.Goals.{then-below, else-below}

pub overflow_add-words : goal.overflow_add-words
overflow_add-words c =
    search (arith, seen (c.args.at % 16) (get_or c.args.words.now (c.args.at / 16) 0), unit c.args.at, fits_more)

pub returns-clause-was : goal.returns-clause-was
returns-clause-was c = seen (c.args.at % 16) (get_or c.args.words.now (c.args.at / 16) 0)

pub returns-clause-here : goal.returns-clause-here
returns-clause-here c = grind (arith, nat_tests, seen, raised_here, nibble_lt, set_here)

pub returns-clause-same : goal.returns-clause-same
returns-clause-same c =
    search (arith, seen (c.args.at % 16) (get_or c.args.words.now (c.args.at / 16) 0), raised_other, set_other)
