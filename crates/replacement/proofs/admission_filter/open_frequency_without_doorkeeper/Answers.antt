use Rattle.std.proofs.Common.{[]}
use Rattle.replacement.proofs.Shape.{own-open-shape}
use Rattle.replacement.proofs.admission_filter.open_frequency_without_doorkeeper.Goals as goal

pub returns : goal.returns
returns c = own-open-shape c.args.columns c.args.config.now [] c.in_ok-frequency.frequency c.in_ok-frequency.ensures
