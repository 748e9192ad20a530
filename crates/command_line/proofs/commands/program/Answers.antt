use Rattle.std.proofs.Common.{◌≡◌, ◌∙◌, ap, sym, arith, rules}
use Rattle.std.specs.List.{fold}
use Rattle.std.proofs.lemmas.List.{take_all}
use Rattle.std.proofs.lemmas.List.Folds.{fold-map}
use Rattle.clap.specs.Words.{App, app_of, with_subcommand}
use Rattle.command_line.specs.Options.{defined_subcommand}
use Rattle.command_line.specs.Program.{empty_app, program_app, with_row}
use Rattle.command_line.proofs.Folds.{one-more}
use Rattle.command_line.proofs.commands.program.Goals as goal

pub loop-row-preserved : goal.loop-row-preserved
loop-row-preserved c =
    let sub = c.in_ok-subcommand.ensures in (
      one-more (λ app row. with_row c.args.lists.now app (defined_subcommand row)) empty_app c.rows-row-items.result.now c.loop-row.row-index _ (omega arith) _ _
          c.loop-row.invariant.0 (c.in_ok-command.ensures.shape sub.1 ∙ ap (λ (a : App). with_subcommand (app_of c.loop-row.command) a.top) sub.0),
      search rules,
    )

pub returns : goal.returns
returns c =
    let rows = c.rows-row-items.result.now in
    let with = with_row c.args.lists.now in
    let made : app_of c.loop-row.command ≡ program_app c.args.lists.now = c.loop-row.invariant.0
    ∙ ap (fold (λ app row. with app (defined_subcommand row)) empty_app) (take_all c.loop-row.row-index rows (omega arith))
    ∙ sym (fold-map with defined_subcommand empty_app rows) ∙ ap (fold with empty_app) c.rows-row-items.ensures in
    rw (← made) (search rules)
