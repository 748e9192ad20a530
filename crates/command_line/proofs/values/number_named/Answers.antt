use Rattle.std.proofs.Common.{◌∙◌}
use Rattle.command_line.proofs.Numbers.{parsed}
use Rattle.command_line.proofs.values.number_named.Goals as goal

pub returns : goal.returns
returns c = c.ok.ensures.value ∙ parsed c.args.word.now c.parse.result c.parse.ensures.value
