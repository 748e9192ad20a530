use Rattle.std.specs.Prelude.{codes}
use Rattle.debug_policies.specs.OnePolicy.{policy_lines}
use Rattle.debug_policies.proofs.Facts.{both_added}
use Rattle.debug_policies.proofs.debugger.TwoPoliciesTimeline.show.Goals as goal

pub returns : goal.returns
returns g c =
    both_added c.show-2.result (policy_lines (codes "a")) (policy_lines (codes "b")) c.args.self.now.first c.args.self.now.second c.args.text.now.items
    c.show.new.text.items c.show-2.new.text.items c.requires.0 c.in_ok-show.ensures c.show-2.ensures
