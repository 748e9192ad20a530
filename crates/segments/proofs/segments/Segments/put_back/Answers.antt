use Rattle.std.proofs.lemmas.Bool.Decides.{nat_tests}
use Rattle.std.proofs.Common.{◌≡◌, None, arith}
use Rattle.queue_table.specs.Queues as ByNumber
use Rattle.queue_table.specs.QueueTable.{queues}
use Rattle.segments.specs.Moves.{room_needed}
use Rattle.segments.proofs.QueueLists.{needs-room}
use Rattle.segments.proofs.NamedQueues.{IsUndone, missing-is, gap-without, put-back}
use Rattle.segments.proofs.segments.Segments.put_back.Goals as goal
use Rattle.segments.proofs.segments.Segments.put_back.Goals.{After-distinct, After-put_back}

-- an item that stands in no queue went out, and needs room
one : (c : After-distinct) → ByNumber.queue_holding c.args.done.item (queues c.self.inside.table) ≡ None → room_needed c.args.done.to ≡ 1
one c none =
    needs-room c.args.done.to c.args.done.item c.args.self.now.lists c.requires.fits.there
    (missing-is _ _ _ c.self.view_is c.self.invariant c.distinct.ensures c.args.done.item none)

undone : (c : After-put_back) → IsUndone c.args.done c.args.self.now.lists (queues c.put_back.new.self)
undone c = search (arith, put-back)

pub put_back-requires-clause-room : goal.put_back-requires-clause-room
put_back-requires-clause-room c none =
    grind (arith, nat_tests, one (goal.at.put_back-requires-clause-room c).After-distinct none)

pub put_back-requires-clause-gap : goal.put_back-requires-clause-gap
put_back-requires-clause-gap c = search (arith, gap-without)

pub invariant_of-self : goal.invariant_of-self
invariant_of-self c = (undone (goal.at.invariant_of-self c).After-put_back).kept

pub returns-clause-lists : goal.returns-clause-lists
returns-clause-lists c = (undone (goal.at.returns-clause-lists c).After-put_back).lists

pub returns-clause-spare : goal.returns-clause-spare
returns-clause-spare c = grind (arith, nat_tests, one (goal.at.returns-clause-spare c).After-distinct)
