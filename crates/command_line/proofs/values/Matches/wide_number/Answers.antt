use Rattle.std.proofs.Common.{◌∙◌, ap}
use Rattle.std.specs.Prelude.{option_and_then}
use Rattle.clap.specs.Words.{found_of, one_text}
use Rattle.clap.proofs.WalkLemmas.{one_text-rows}
use Rattle.command_line.specs.Values.{number_named}
use Rattle.command_line.proofs.Numbers.{reads}
use Rattle.command_line.proofs.values.Matches.wide_number.Goals as goal

pub returns : goal.returns
returns c =
    let f = found_of c.self.inside.matches.now in
    let id = c.row.result.now.id.now in
    rw (← c.row.ensures, ← c.self.view_is) (reads (one_text f id) c.get_one.result c.get_one.ensures.none c.get_one.ensures.value
    ∙ ap (option_and_then number_named) (one_text-rows f id))
