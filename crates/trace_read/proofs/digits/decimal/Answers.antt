use Rattle.std.proofs.Common.{arith}
use Rattle.trace_read.proofs.LineFeeds.{first_digits}
use Rattle.trace_read.proofs.digits.decimal.Goals as goal

pub returns-then-count-le8-clause-digits : goal.returns-then-count-le8-clause-digits
returns-then-count-le8-clause-digits c = first_digits c.args.text.now c.args.count (omega (arith, c.requires.text, c.requires.count)) c.requires.digits

pub returns-else-count-le8-clause-digits : goal.returns-else-count-le8-clause-digits
returns-else-count-le8-clause-digits c = first_digits c.args.text.now c.args.count (omega (arith, c.requires.text, c.requires.count)) c.requires.digits
