use Rattle.std.proofs.Common.{◌∙◌}
use Rattle.clap.specs.Words.{found_of}
use Rattle.clap.proofs.WalkLemmas.{first_value-rows}
use Rattle.command_line.proofs.values.Matches.word.Goals as goal

pub returns : goal.returns
returns c = rw (← c.row.ensures, ← c.self.view_is) (c.get_str.ensures ∙ first_value-rows (found_of c.self.inside.matches.now) c.row.result.now.id.now)
