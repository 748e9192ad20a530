use Rattle.std.proofs.Common.{◌%◌, ◌/◌, get_or}
use Rattle.sketch.proofs.Digits.{seen}
use Rattle.sketch.proofs.counters.get.Goals as goal

pub returns-clause-value : goal.returns-clause-value
returns-clause-value c = seen (c.args.at % 16) (get_or c.args.words.now (c.args.at / 16) 0)
