use Rattle.std.specs.Prelude.{codes}
use Rattle.debug_policies.specs.Inside.{queue_lines}
use Rattle.debug_policies.proofs.Facts.{both_added}
use Rattle.debug_policies.proofs.views.push_queues.Goals as goal

pub returns : goal.returns
returns c =
    both_added c.show_queues-2.result (queue_lines (codes "a")) (queue_lines (codes "b")) c.args.first.now c.args.second.now c.args.text.now.items
    c.show_queues.new.text.items c.show_queues-2.new.text.items c.requires c.in_ok-show_queues.ensures c.show_queues-2.ensures
