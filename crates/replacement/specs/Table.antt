-- The table of moves: what a hit, a miss and an eviction make of the queues. (Segmented LRU with an admission filter:
-- TinyLFU, 2017; a window before it, and the order of an eviction: Caffeine's Design page.)
use Rattle.std.specs.Prelude.{ℕ, nat_lt, Bool, if◌then◌else◌, Option, Some, None, length}
pub use Rattle.engine_base.specs.declared.item.Item.{Item}
pub use Rattle.engine_base.specs.declared.outcome.Outcome.{Outcome}
use Rattle.engine_base.specs.declared.outcome.Outcome.TheVariants.{Hit, Kept, Evicted, Rejected}
pub use Rattle.segments.specs.declared.records.Queue.{Queue}
use Rattle.segments.specs.declared.records.Queue.TheVariants.{Window, Probation, Protected}
use Rattle.segments.specs.Items.{is_same_item, oldest_of}
use Rattle.segments.specs.Queues.{Queues, queue_of, queue_holding}
use Rattle.segments.specs.Queues.{queues_after_push, queues_without, queues_after_move, total_items}
pub use Rattle.replacement.specs.declared.rules.Placement.{Placement}
use Rattle.replacement.specs.declared.rules.Placement.TheVariants.{Direct, Windowed}
pub use Rattle.replacement.specs.declared.rules.Rules.{Rules}

-- what an access or an eviction comes to: its outcome, the item that left the queues, and the queues that it leaves
pub record Response : Type 0 where
  pub outcome : Outcome
  pub left : Option Item
  pub queues : Queues

abbrev pub kept_in : Queues → Response
kept_in s = record { outcome = Kept; left = None; queues = s }

-- ---- a hit

abbrev pub with_recent : Option Item → Queue → Queues → Queues
with_recent None q s = s
with_recent (Some i) q s = queues_after_move i q s

-- where protected is over its size, its oldest item goes to probation's recent end
abbrev pub queues_after_demotion : ℕ → Queues → Queues
queues_after_demotion size s =
    if nat_lt size (length s.protected) then with_recent (oldest_of s.protected) Probation s else s

-- An item of the window goes to the window's recent end, any other to protected's. One that comes from probation may
-- take protected over its size.
abbrev pub hit_in : ℕ → Item → Option Queue → Queues → Queues
hit_in size i None s = s
hit_in size i (Some Window) s = queues_after_move i Window s
hit_in size i (Some Probation) s = queues_after_demotion size (queues_after_move i Protected s)
hit_in size i (Some Protected) s = queues_after_move i Protected s

-- the queues after a hit on an item; nothing moves where it is in none of them
abbrev pub after_hit : ℕ → Item → Queues → Queues
after_hit size i s = hit_in size i (queue_holding i s) s

abbrev pub hit_response : Queues → Response
hit_response s = record { outcome = Hit; left = None; queues = s }

-- ---- an eviction, where there is a window

abbrev pub rejection : Item → Queues → Response
rejection c s = record { outcome = Rejected c.key; left = Some c; queues = queues_without c s }

-- The candidate against the victim. Where they are one item it leaves; else the victim leaves if the candidate is
-- admitted against it, and the candidate if not.
abbrev pub contest : (ℕ → ℕ → Bool) → Item → Option Item → Queues → Response
contest admits c None s = rejection c s
contest admits c (Some v) s =
    if is_same_item c v
    then rejection c s
    else if admits c.key v.key
    then record { outcome = Evicted v.key; left = Some v; queues = queues_without v s }
    else rejection c s

-- the candidate stands at probation's recent end: where the queues hold too much, probation's oldest is the victim
abbrev pub trial : Rules → (ℕ → ℕ → Bool) → Item → Queues → Response
trial r admits c s = if nat_lt r.capacity (total_items s) then contest admits c (oldest_of s.probation) s else kept_in s

abbrev pub trial_of : Rules → (ℕ → ℕ → Bool) → Option Item → Queues → Response
trial_of r admits None s = kept_in s
trial_of r admits (Some c) s = trial r admits c (queues_after_move c Probation s)

-- One eviction: where the window is over its size, its oldest item goes to probation's recent end as the candidate.
abbrev pub eviction : Rules → (ℕ → ℕ → Bool) → Queues → Response
eviction r admits s = if nat_lt r.window (length s.window) then trial_of r admits (oldest_of s.window) s else kept_in s

-- ---- a miss

abbrev pub response_with_victim : (ℕ → ℕ → Bool) → Queue → Item → Option Item → Queues → Response
response_with_victim admits q i None s = record { outcome = Rejected i.key; left = None; queues = s }
response_with_victim admits q i (Some v) s =
    if admits i.key v.key
    then record { outcome = Evicted v.key; left = Some v; queues = queues_after_push q i (queues_without v s) }
    else record { outcome = Rejected i.key; left = None; queues = s }

-- A miss without a window: a new item joins a queue. Where the cache is full, that queue's oldest item leaves for it if
-- it is admitted against that; if not, it is not kept. (A full cache has an item there: protected is below the
-- capacity.)
abbrev pub response_without_trial : Rules → (ℕ → ℕ → Bool) → Queue → Item → Queues → Response
response_without_trial r admits q i s =
    if nat_lt (total_items s) r.capacity
    then kept_in (queues_after_push q i s)
    else response_with_victim admits q i (oldest_of (queue_of q s)) s

abbrev pub miss_by : Placement → Rules → (ℕ → ℕ → Bool) → Item → Queues → Response
miss_by (Direct q) r admits i s = response_without_trial r admits q i s
miss_by Windowed r admits i s = eviction r admits (queues_after_push Window i s)

-- A miss: the new item goes where the rules place it. With a window it joins that, and one eviction follows.
abbrev pub miss : Rules → (ℕ → ℕ → Bool) → Item → Queues → Response
miss r admits i s = miss_by r.placement r admits i s

-- ---- an access

abbrev pub access_in : Rules → (ℕ → ℕ → Bool) → Item → Option Queue → Queues → Response
access_in r admits i None s = miss r admits i s
access_in r admits i (Some q) s = hit_response (hit_in r.protected i (Some q) s)

-- what an access to an item comes to, by where the item stands
unfoldable pub access : Rules → (ℕ → ℕ → Bool) → Item → Queues → Response
access r admits i s = access_in r admits i (queue_holding i s) s
