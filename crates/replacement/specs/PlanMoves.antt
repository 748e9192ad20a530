-- What carrying a plan out makes of the queues, the record of it, and how the record undoes it.
use Rattle.std.specs.Prelude.{◌≡◌, ℕ, Option, Some, None, option_map}
pub use Rattle.segments.specs.declared.records.QueuePlace.{QueuePlace}
pub use Rattle.segments.specs.declared.records.MoveRecord.{MoveRecord}
use Rattle.segments.specs.Items.{last_item, before}
use Rattle.segments.specs.Queues.{Queues, queue_of, queues_without, queues_after_move}
use Rattle.segments.specs.Moves.{queues_before_move, FitsMove}
pub use Rattle.replacement.specs.declared.record.Moves.{Moves}
pub use Rattle.replacement.specs.declared.record.Moves.TheVariants.{Renewed, Replaced}
pub use Rattle.replacement.specs.declared.record.Sent.{Sent}
use Rattle.replacement.specs.Table.{Item, Queue, Response}
use Rattle.replacement.specs.Plan.{Leaver, Arrival, Transfer, Plan}

abbrev pub queues_after_arrival : Option Arrival → Queues → Queues
queues_after_arrival None s = s
queues_after_arrival (Some t) s = queues_after_move t.item t.to s

abbrev pub queues_after_transfer : Option Transfer → Queues → Queues
queues_after_transfer None s = s
queues_after_transfer (Some t) s = queues_after_move t.item t.to s

abbrev pub queues_after_leaving : Option Leaver → Queues → Queues
queues_after_leaving None s = s
queues_after_leaving (Some l) s = queues_without l.item s

-- the queues after the plan
abbrev pub queues_after : Plan → Queues → Queues
queues_after p s = queues_after_transfer p.last (queues_after_leaving p.leaves (queues_after_arrival p.first s))

-- what the plan comes to
abbrev pub response_of_plan : Plan → Queues → Response
response_of_plan p s =
    record { outcome = p.outcome; left = option_map (λ l. l.item) p.leaves; queues = queues_after p s }

-- ---- its record

abbrev pub sent_by : Option Transfer → Option Sent
sent_by None = None
sent_by (Some t) = Some record { from = t.from; to = t.to }

-- the place of the item in the queue, by the item right before it
abbrev pub place_in : Queue → Item → Queues → QueuePlace
place_in q i s = record { queue = q; older = last_item (before i (queue_of q s)) }

-- by the queue that the first item comes from
abbrev pub moves_from : Option Queue → Arrival → Plan → Queues → Moves
moves_from None t p s = Replaced (Some t.to) (sent_by p.last) p.leaves
moves_from (Some q) t p s = Renewed t.to (sent_by p.last) (place_in q t.item s)

abbrev pub moves_by : Option Arrival → Plan → Queues → Moves
moves_by None p s = Replaced None (sent_by p.last) p.leaves
moves_by (Some t) p s = moves_from t.from t p s

-- the record of the plan, from the queues before it
abbrev pub moves_of : Plan → Queues → Moves
moves_of p s = moves_by p.first p s

-- the item that left the queues
abbrev pub leaver_in : Moves → Option Leaver
leaver_in (Renewed to sent from) = None
leaver_in (Replaced came sent left) = left

-- ---- the single moves that undoing takes back, from the queues as each left them

-- the oldest place of a queue
abbrev pub oldest_place : Queue → QueuePlace
oldest_place q = record { queue = q; older = None }

-- the newest item of the queue came there from the place
abbrev pub arrival : Option QueuePlace → Queue → Queues → Option MoveRecord
arrival from to s =
    option_map (λ i. record { item = i; from = from; to = Some to }) (last_item (queue_of to s))

abbrev pub arrival_of_new : Option Queue → Queues → Option MoveRecord
arrival_of_new None s = None
arrival_of_new (Some to) s = arrival None to s

abbrev pub arrival_of_sent : Option Sent → Queues → Option MoveRecord
arrival_of_sent None s = None
arrival_of_sent (Some t) s = arrival (Some (oldest_place t.from)) t.to s

abbrev pub first_move : Moves → Queues → Option MoveRecord
first_move (Renewed to sent from) s = arrival (Some from) to s
first_move (Replaced came sent left) s = arrival_of_new came s

abbrev pub move_out : Option Leaver → Option MoveRecord
move_out None = None
move_out (Some l) = Some record { item = l.item; from = Some (oldest_place l.from); to = None }

abbrev pub last_move : Moves → Queues → Option MoveRecord
last_move (Renewed to sent from) s = arrival_of_sent sent s
last_move (Replaced came sent left) s = arrival_of_sent sent s

-- ---- undoing

abbrev pub undone_by : Option MoveRecord → Queues → Queues
undone_by None s = s
undone_by (Some r) s = queues_before_move r s

abbrev pub queues_before_last : Moves → Queues → Queues
queues_before_last m s = undone_by (last_move m s) s

abbrev pub queues_after_first : Moves → Queues → Queues
queues_after_first m s = undone_by (move_out (leaver_in m)) (queues_before_last m s)

-- the last move is undone first
abbrev pub undone_moves : Moves → Queues → Queues
undone_moves m s = undone_by (first_move m (queues_after_first m s)) (queues_after_first m s)

abbrev pub FitsBy : Option MoveRecord → Queues → Type 0
FitsBy None s = Unit {0}
FitsBy (Some r) s = FitsMove r s

-- for how many items undoing takes room
abbrev pub room_for : Option Leaver → ℕ
room_for None = 0
room_for (Some l) = 1

-- each move fits in its turn
pub record FitsMoves (m : Moves) (s : Queues) : Type 0 where
  pub last : FitsBy (last_move m s) s
  pub out : FitsBy (move_out (leaver_in m)) (queues_before_last m s)
  pub first : FitsBy (first_move m (queues_after_first m s)) (queues_after_first m s)

-- the record fits the queues that its moves left, and undoes them
pub record UndoesMoves (before after : Queues) (m : Moves) : Type 0 where
  pub fits : FitsMoves m after
  pub undone : undone_moves m after ≡ before
