-- The undo record of an access, from its plan and the queues before it, and how it undoes the access.
use Rattle.std.specs.Prelude.{◌≡◌, ◌≢◌, ℕ, zero, suc, ◌+◌, ◌<◌, ◌≤◌, Option, Some, None}
pub use Rattle.queue_table.specs.declared.records.Place.{Place}
pub use Rattle.queue_table.specs.declared.records.Entry.{Entry}
use Rattle.queue_table.specs.Entries.{Item, entry, oldest_of, newest_of, IsGap}
use Rattle.queue_table.specs.Queues.{QUEUES, Queues, queue_holding, place_in, after_removal, after_count, after_return}
pub use Rattle.queue_table.specs.declared.moves.Left.{Left}
use Rattle.queue_table.specs.declared.moves.Departure.{Departure}
use Rattle.queue_table.specs.declared.moves.Departure.TheVariants.{Stayed, Sent, Out}
pub use Rattle.queue_table.specs.declared.moves.KeyMove.{KeyMove}
use Rattle.queue_table.specs.declared.moves.Change.{Change}
use Rattle.queue_table.specs.declared.moves.Change.TheVariants.{Unmoved, Counted, Joined, Moved}
pub use Rattle.queue_table.specs.declared.moves.Moves.{Moves}
use Rattle.queue_table.specs.declared.moves.Accessed.{Accessed}
use Rattle.queue_table.specs.Moves.{Run, item_of, count_of, Leaving, Own, stays, counts, goes, Plan, after_turn, after_run, after_runs}
use Rattle.queue_table.specs.Moves.{after_leaving, after_first, after_second, after_own, after_all, outcome_of}

-- ---- the record

abbrev pub nothing_left : Left
nothing_left = record { key = 0; count = 0; queue = 0; by = Stayed }

abbrev pub left_by : Option (ℕ × ℕ) → ℕ → Option Entry → Left
left_by to q None = nothing_left
left_by None q (Some e) = record { key = e.item.key; count = e.count; queue = q; by = Out }
left_by (Some p) q (Some e) = record { key = e.item.key; count = e.count; queue = q; by = Sent }

-- the key that leaves, as it stood
abbrev pub left_of : Option Leaving → Queues → Left
left_of None s = nothing_left
left_of (Some l) s = left_by l.to l.from (oldest_of (s l.from))

abbrev pub key_in : Option Item → Option ℕ
key_in None = None
key_in (Some i) = Some i.key

abbrev pub move_from : Item → Option Place → Queues → KeyMove
move_from i None s = record { key = i.key; older = None; count = 0; queue = 0; by = Joined }
move_from i (Some p) s =
    record { key = i.key; older = key_in p.older; count = count_of i (s p.queue); queue = p.queue; by = Moved }

abbrev pub count_at : Item → Option ℕ → Queues → ℕ
count_at i None s = 0
count_at i (Some q) s = count_of i (s q)

-- the accessed key, as it stood
abbrev pub move_of : Own → Item → Queues → KeyMove
move_of stays i s = record { key = i.key; older = None; count = 0; queue = 0; by = Unmoved }
move_of (counts n) i s =
    record { key = i.key; older = None; count = count_at i (queue_holding i s) s; queue = 0; by = Counted }
move_of (goes q n) i s = move_from i (place_in i s) s

-- the record of an access to the item i by the plan, where x is the policy's own number before it
abbrev pub record_of : Plan → Item → ℕ → Queues → Moves
record_of p i x s = record {
  early = p.early;
  late = p.late;
  first = left_of p.first (after_runs p s);
  second = left_of p.second (after_first p s);
  own = move_of p.own i (after_second p s);
  own_number = x;
}

-- ---- undoing it

abbrev pub turned_back : ℕ → ℕ → Option Entry → Queues → Queues
turned_back from less None s = s
turned_back from less (Some e) s = after_return from None (entry e.item (e.count + less)) (after_removal e.item s)

-- the newest of `to` goes back to the old end of `from`
abbrev pub before_turn : ℕ → ℕ → ℕ → Queues → Queues
before_turn from to less s = turned_back from less (newest_of (s to)) s

abbrev pub before_turns : ℕ → ℕ → ℕ → ℕ → Queues → Queues
before_turns zero from to less s = s
before_turns (suc n) from to less s = before_turns n from to less (before_turn from to less s)

abbrev pub before_run : Run → Queues → Queues
before_run r s = before_turns r.times r.from r.to r.less s

abbrev pub before_departure : Departure → Left → Queues → Queues
before_departure Stayed r s = s
before_departure Sent r s =
    after_return r.queue None (entry (item_of r.key) r.count) (after_removal (item_of r.key) s)
before_departure Out r s =
    after_return r.queue None (entry (item_of r.key) r.count) (after_removal (item_of r.key) s)

-- the key that left stands at the old end of its queue again
abbrev pub before_leaving : Left → Queues → Queues
before_leaving r s = before_departure r.by r s

abbrev pub item_in : Option ℕ → Option Item
item_in None = None
item_in (Some k) = Some (item_of k)

abbrev pub before_change : Change → KeyMove → Queues → Queues
before_change Unmoved r s = s
before_change Counted r s = after_count (item_of r.key) r.count s
before_change Joined r s = after_removal (item_of r.key) s
before_change Moved r s =
    after_return r.queue (item_in r.older) (entry (item_of r.key) r.count) (after_removal (item_of r.key) s)

-- the accessed key stands where it stood
abbrev pub before_own : KeyMove → Queues → Queues
before_own r s = before_change r.by r s

-- the queues before an access, from its record and the queues after it: the last part first
abbrev pub before_second : Moves → Queues → Queues
before_second r s = before_leaving r.second (before_own r.own s)

abbrev pub before_first : Moves → Queues → Queues
before_first r s = before_leaving r.first (before_second r s)

abbrev pub before_all : Moves → Queues → Queues
before_all r s = before_run r.early (before_run r.late (before_first r s))

-- ---- a record fits the queues: each part in its turn

abbrev pub HasCountLeft : ℕ → Option Entry → Type 0
HasCountLeft less None = Unit {0}
HasCountLeft less (Some e) = e.count + less < 256

abbrev pub FitTurns : ℕ → ℕ → ℕ → ℕ → Queues → Type 0
FitTurns zero from to less s = Unit {0}
FitTurns (suc n) from to less s = HasCountLeft less (newest_of (s to)) × FitTurns n from to less (before_turn from to less s)

pub record FitsRun (r : Run) (s : Queues) : Type 0 where
  pub from : r.from < QUEUES
  pub to : r.to < QUEUES
  pub counts : FitTurns r.times r.from r.to r.less s

abbrev pub FitsDeparture : Departure → Left → Queues → Type 0
FitsDeparture Stayed r s = Unit {0}
FitsDeparture Sent r s = (r.queue < QUEUES) × (queue_holding (item_of r.key) s ≢ None)
FitsDeparture Out r s = r.queue < QUEUES

abbrev pub FitsLeft : Left → Queues → Type 0
FitsLeft r s = FitsDeparture r.by r s

pub record FitsPlace (r : KeyMove) (s : Queues) : Type 0 where
  pub low : r.queue < QUEUES
  pub there : queue_holding (item_of r.key) s ≢ None
  pub gap : IsGap (item_in r.older) (after_removal (item_of r.key) s r.queue)

abbrev pub FitsChange : Change → KeyMove → Queues → Type 0
FitsChange Unmoved r s = Unit {0}
FitsChange Counted r s = Unit {0}
FitsChange Joined r s = queue_holding (item_of r.key) s ≢ None
FitsChange Moved r s = FitsPlace r s

abbrev pub FitsOwn : KeyMove → Queues → Type 0
FitsOwn r s = FitsChange r.by r s

-- how many keys come back from nowhere where it is undone
abbrev pub outs : Departure → ℕ
outs Stayed = 0
outs Sent = 0
outs Out = 1

abbrev pub coming_back : Moves → ℕ
coming_back r = outs r.first.by + outs r.second.by

-- how many go
abbrev pub joins : Change → ℕ
joins Unmoved = 0
joins Counted = 0
joins Joined = 1
joins Moved = 0

pub record FitsMoves (r : Moves) (s : Queues) : Type 0 where
  pub own : FitsOwn r.own s
  pub second : FitsLeft r.second (before_own r.own s)
  pub first : FitsLeft r.first (before_second r s)
  pub late : FitsRun r.late (before_first r s)
  pub early : FitsRun r.early (before_run r.late (before_first r s))
  -- one key at most comes back from nowhere
  pub few : coming_back r ≤ 1

-- undoing it asks for room: a key comes back from nowhere, and none goes
abbrev pub MovesAsk : Moves → Type 0
MovesAsk r = joins r.own.by + 1 ≤ coming_back r

-- ---- what a call owes that carries out a part, or all, of a plan

pub record IsTurn (from to less : ℕ) (s u : Queues) : Type 0 where
  pub after : u ≡ after_turn from to less s
  pub fits : HasCountLeft less (newest_of (u to))
  pub undone : before_turn from to less u ≡ s

pub record IsRun (r : Run) (s u : Queues) : Type 0 where
  pub after : u ≡ after_run r s
  pub fits : FitsRun r u
  pub undone : before_run r u ≡ s

pub record IsLeft (l : Option Leaving) (s u : Queues) (r : Left) : Type 0 where
  pub after : u ≡ after_leaving l s
  pub is : r ≡ left_of l s
  pub fits : FitsLeft r u
  pub undone : before_leaving r u ≡ s

pub record IsOwn (o : Own) (i : Item) (s u : Queues) (r : KeyMove) : Type 0 where
  pub after : u ≡ after_own o i s
  pub is : r ≡ move_of o i s
  pub fits : FitsOwn r u
  pub undone : before_own r u ≡ s

-- r is the record of an access to i that carried out the plan p, where x was the policy's own number before it
pub record IsCarried (p : Plan) (i : Item) (x : ℕ) (s u : Queues) (r : Moves) : Type 0 where
  pub after : u ≡ after_all p i s
  pub is : r ≡ record_of p i x s
  pub fits : FitsMoves r u
  pub undone : before_all r u ≡ s

-- an access to i that carried out the plan p, where x was the policy's own number before it
pub record IsAccessed (p : Plan) (i : Item) (x : ℕ) (s u : Queues) (r : Accessed) : Type 0 where
  pub outcome : r.outcome ≡ outcome_of p s
  pub own_number : r.own_number ≡ p.own_number
  pub carried : IsCarried p i x s u r.moves
