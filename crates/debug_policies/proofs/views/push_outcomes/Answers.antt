use Rattle.std.specs.Prelude.{codes}
use Rattle.debug_policies.specs.Inside.{outcome_line}
use Rattle.debug_policies.proofs.Facts.{both_added}
use Rattle.debug_policies.proofs.views.push_outcomes.Goals as goal

pub returns : goal.returns
returns c =
    both_added c.show_outcome-2.result (outcome_line (codes "a")) (outcome_line (codes "b")) c.args.first.now c.args.second.now c.args.text.now.items
    c.show_outcome.new.text.items c.show_outcome-2.new.text.items c.requires.walk c.in_ok-show_outcome.ensures c.show_outcome-2.ensures
