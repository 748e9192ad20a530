use Rattle.std.proofs.Common.{arith, ◌∙◌}
use Rattle.segments.proofs.QueueLists.{pushed-moved}
use Rattle.replacement.proofs.Counting.{distinct-moved}
use Rattle.replacement.proofs.queue_moves.join.Goals as goal

pub returns-clause-lists : goal.returns-clause-lists
returns-clause-lists c = c.push_recent.ensures.lists ∙ pushed-moved c.args.item c.args.queue c.args.segments.now.lists c.requires.absent

pub returns-clause-distinct : goal.returns-clause-distinct
returns-clause-distinct c = search (arith, returns-clause-lists, distinct-moved)
