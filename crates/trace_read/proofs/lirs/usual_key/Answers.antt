use Rattle.std.proofs.Common.{arith}
use Rattle.std.proofs.lemmas.Option.{IfSome_then}
use Rattle.trace_read.proofs.LineFeeds.{read_here}
use Rattle.trace_read.proofs.lirs.usual_key.Goals as goal

pub returns-then-count-lt8-clause-line : goal.returns-then-count-lt8-clause-line
returns-then-count-lt8-clause-line c =
    let run = c.args.run in
    read_here c.args.bytes.now run.start run.end c.short_number.result (omega (arith, c.if-count-lt8.true, c.requires.places)) (omega (arith, c.requires.places)) c.requires.digits c.short_number.ensures.value c.short_number.type_inv

pub returns-then-count-lt8-2-clause-line : goal.returns-then-count-lt8-2-clause-line
returns-then-count-lt8-2-clause-line c =
    let run = c.args.run in
    read_here c.args.bytes.now run.start run.end c.long_number.result (omega (arith, c.if-count-lt8-2.true, c.requires.places)) (omega (arith, c.requires.places)) c.requires.digits c.long_number.ensures.value c.long_number.type_inv

pub returns-then-count-lt4-clause-line : goal.returns-then-count-lt4-clause-line
returns-then-count-lt4-clause-line c =
    let run = c.args.run in
    IfSome_then c.longest_number.result c.longest_number.ensures
    (λ key value. read_here c.args.bytes.now run.start run.end key (omega (arith, c.if-count-lt4.true, c.requires.places)) (omega (arith, c.requires.places)) c.requires.digits value.0 value.1)
