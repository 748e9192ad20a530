use Rattle.std.proofs.Common.{[]}
use Rattle.replacement.proofs.Shape.{own-shape}
use Rattle.replacement.proofs.admission_filter.open_frequency.Goals as goal

pub returns : goal.returns
returns c = own-shape c.args.config.now [] c.in_ok-frequency.frequency c.in_ok-frequency.ensures
