-- The queues of the policies that go by the table of moves, under their names.
use Rattle.std.specs.Prelude.{ℕ, List, [], ◌∷◌, codes, map}
use Rattle.segments.specs.Items.{Item}
use Rattle.segments.specs.Queues.{Queues}
use Rattle.segments.specs.NamedQueue.{NamedQueueData, plain_queue}

-- the keys of the items, under a name
abbrev pub item_queue : List ℕ → List Item → NamedQueueData
item_queue name items = plain_queue name (map (λ i. i.key) items)

-- of a policy that has one queue
abbrev pub one_queue : Queues → List NamedQueueData
one_queue s = item_queue (codes "queue") s.window ∷ []

-- of segmented LRU
abbrev pub two_queues : Queues → List NamedQueueData
two_queues s = item_queue (codes "probation") s.probation ∷ item_queue (codes "protected") s.protected ∷ []

-- of segmented LRU behind a window
abbrev pub three_queues : Queues → List NamedQueueData
three_queues s = item_queue (codes "window") s.window ∷ two_queues s
