use Rattle.std.proofs.Common.{ap, sym, refl, subst}
use Rattle.queue_table.specs.Queues as ByNumber
use Rattle.queue_table.specs.QueueTable.{queues}
use Rattle.segments.specs.Names.{named, IsNamed}
use Rattle.segments.proofs.NamedQueues.{distinct-named}
use Rattle.segments.proofs.segments.Segments.for_items.Goals as goal

empty : IsNamed ByNumber.empty_queues
empty = record { fourth = refl }

pub invariant_of-result : goal.invariant_of-result
invariant_of-result c = subst IsNamed (sym c.for_items.ensures.queues) empty

pub returns-clause-lists : goal.returns-clause-lists
returns-clause-lists c = ap named c.for_items.ensures.queues

pub returns-clause-distinct : goal.returns-clause-distinct
returns-clause-distinct c = distinct-named (queues c.for_items.result) c.for_items.ensures.distinct
