use Rattle.std.proofs.Common.{◌∙◌}
use Rattle.clap.specs.Words.{found_of}
use Rattle.clap.proofs.WalkLemmas.{raw_values-rows}
use Rattle.command_line.proofs.values.Matches.words.Goals as goal

pub returns : goal.returns
returns c = rw (← c.row.ensures, ← c.self.view_is) (c.get_strs.ensures ∙ raw_values-rows (found_of c.self.inside.matches.now) c.row.result.now.id.now)
