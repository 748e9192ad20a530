use Rattle.std.proofs.Common.{◌∙◌, ap, arith, rules}
use Rattle.std.specs.List.{fold}
use Rattle.std.proofs.lemmas.List.{take_all}
use Rattle.clap.specs.Words.{app_of, new_app, with_rule}
use Rattle.command_line.specs.Program.{rule_of_row, with_option}
use Rattle.command_line.proofs.Folds.{one-more}
use Rattle.command_line.proofs.commands.subcommand.Goals as goal

pub loop-option-preserved : goal.loop-option-preserved
loop-option-preserved c = (
  one-more (with_option c.args.lists.now) (new_app c.args.row.now.name.now) c.args.row.now.options.now c.loop-option.option-index _ (omega arith) _ _
      c.loop-option.invariant.0 (c.in_ok-command.ensures.shape c.arg.ensures.local ∙ ap (with_rule (app_of c.loop-option.command))
      (c.arg.ensures.rule ∙ ap (rule_of_row c.args.lists.now) c.row.ensures)),
  search rules,
)

pub returns : goal.returns
returns c = (
  c.loop-option.invariant.0 ∙ ap (fold (with_option c.args.lists.now) (new_app c.args.row.now.name.now))
      (take_all c.loop-option.option-index c.args.row.now.options.now (omega arith)),
  c.loop-option.invariant.1,
)
