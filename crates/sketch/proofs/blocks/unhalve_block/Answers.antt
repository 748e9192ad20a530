use Rattle.std.proofs.lemmas.Bool.Decides.{nat_tests}
use Rattle.std.proofs.Common.{get_or, arith, rules, Fits, w64, ◌∙◌}
use Rattle.std.proofs.lemmas.Simd.{get_or-put_chunk_below, get_or-put_chunk_at, get_or-put_chunk_above}
use Rattle.sketch.proofs.Halves.{eight, doubled_eight, doubled_at}
use Rattle.sketch.proofs.blocks.unhalve_block.Goals as goal

pub returns-clause-block : goal.returns-clause-block
returns-clause-block c = λ t h.
    rw (eight c.args.words.now c.args.at c.requires.within)
    (get_or-put_chunk_at c.args.at c.args.words.now (doubled_eight c.args.words.now c.args.at c.args.low c.args.high) t 0 h (omega (arith, c.requires.within))
    ∙ doubled_at c.args.words.now c.args.at c.args.low c.args.high (λ k. let fit : Fits w64 (get_or c.args.words.now k 0) = search rules in fit.fits) c.requires.low t h)

pub returns-clause-below : goal.returns-clause-below
returns-clause-below c =
    grind (arith, nat_tests, eight c.args.words.now c.args.at c.requires.within, get_or-put_chunk_below)

pub returns-clause-above : goal.returns-clause-above
returns-clause-above c =
    grind (arith, nat_tests, eight c.args.words.now c.args.at c.requires.within, get_or-put_chunk_above)
