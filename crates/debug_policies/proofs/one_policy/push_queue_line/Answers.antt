use Rattle.std.specs.Prelude.{codes}
use Rattle.step_record.specs.Job.{name_of}
use Rattle.debug_policies.specs.Inside.{queue_text}
use Rattle.policy_comparison.proofs.Texts.{added_behind}
use Rattle.debug_policies.proofs.one_policy.push_queue_line.Goals as goal

pub returns : goal.returns
returns c =
    added_behind c.push_queue.result c.args.text.now.items c.args.label.now (codes " ") (name_of c.args.job.now.policy c.args.job.now.sizes) (queue_text c.args.queue.now)
    c.push_policy.new.text.items c.push_queue.new.text.items c.in_ok-push_policy.ensures c.push_queue.ensures
