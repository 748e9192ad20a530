use Rattle.std.proofs.Common.{◌∙◌, ap, sym, subst}
use Rattle.queue_table.specs.Queues.{after_count}
use Rattle.queue_table.specs.QueueTable.{queues}
use Rattle.queue_table.specs.Moves.{Entry}
use Rattle.queue_table.specs.Tabled.{HasKeys}
use Rattle.queue_table.proofs.Laws.{tabled-in}
use Rattle.queue_table.proofs.Tabled.{counts-absent, tabled-count}
use Rattle.queue_table.proofs.undo.KeyQueues.count_back.Goals as goal

pub invariant_of-self : goal.invariant_of-self
invariant_of-self c =
    subst HasKeys (sym c.set_count.ensures.queues) (tabled-count _ (tabled-in c.self.inside.table c.self.invariant c.find.ensures.distinct) _ c.args.count).keys

pub returns-in-Some-clause-queues : goal.returns-in-Some-clause-queues
returns-in-Some-clause-queues c =
    rw (sym c.self.view_is) (c.set_count.ensures.queues ∙ ap (λ (e : Entry). after_count e.item c.args.count (queues c.self.inside.table)) c.in-Some.ensures.entry)

pub returns-in-None-clause-queues : goal.returns-in-None-clause-queues
returns-in-None-clause-queues c =
    rw (sym c.self.view_is) (sym (counts-absent _ (tabled-in c.self.inside.table c.self.invariant c.find.ensures.distinct) _ c.args.count c.in-None.ensures.missing))
