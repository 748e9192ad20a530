-- The slots, linked into one ring, and the ring cut by number into the free slots and the queues.
use Rattle.std.specs.Prelude.{◌≡◌, ℕ, suc, zero, nat_lt, ◌⊎◌, Option, Some, None, ◌+◌, ◌-◌, ◌<◌, ◌≤◌, eqb, cond}
use Rattle.engine_base.specs.Keys.{keys_without}
use Rattle.std.specs.Prelude.{List, [], ◌∷◌, ◌++◌, length, map, slice_index, slice_index_or, slice_set}
pub use Rattle.queue_table.specs.declared.slot.Slot.{Slot}
use Rattle.queue_table.specs.Entries.{Entry, Item, entry}
use Rattle.queue_table.specs.Queues.{QUEUES, Queues, IsDistinct}

-- the fields of the slots, as lists by slot number

abbrev pub entries : List Slot → List Entry
entries slots = map (λ (s : Slot). entry s.item s.count) slots

abbrev pub olders : List Slot → List ℕ
olders slots = map (λ (s : Slot). s.older) slots

abbrev pub newers : List Slot → List ℕ
newers slots = map (λ (s : Slot). s.newer) slots

abbrev pub tags : List Slot → List ℕ
tags slots = map (λ (s : Slot). s.queue) slots

-- of the fields of the slots only the links to the neighbours differ
pub record ChangesOnlyLinks (old new : List Slot) : Type 0 where
  pub entries : entries new ≡ entries old
  pub tags : tags new ≡ tags old

-- of the fields of the slots only one entry differs
pub record ChangesOnlyEntry (k : ℕ) (e : Entry) (old new : List Slot) : Type 0 where
  pub newers : newers new ≡ newers old
  pub olders : olders new ≡ olders old
  pub entries : entries new ≡ slice_set (entries old) k e
  pub tags : tags new ≡ tags old

abbrev pub slot_entry : List Entry → ℕ → Entry
slot_entry entries k = slice_index_or entries k (entry record { key = 0; node = 0 } 0)

abbrev pub slot_item : List Entry → ℕ → Item
slot_item entries k = (slot_entry entries k).item

abbrev pub tag_at : List ℕ → ℕ → ℕ
tag_at tags k = slice_index_or tags k 0

-- a slot that holds no item
abbrev pub bare_slot : ℕ → ℕ → Slot
bare_slot older newer =
    record { item = record { key = 0; node = 0 }; older = older; newer = newer; queue = 0; count = 0 }

-- how often the number stands in the list
abbrev pub count : ℕ → List ℕ → ℕ
count k [] = 0
count k (x ∷ l) = cond (eqb k x) 1 0 + count k l

-- the slots of the list stand between a and b, each linked to the one before it and the one after it
abbrev pub IsLinked : List ℕ → List ℕ → ℕ → List ℕ → ℕ → Type 0
IsLinked newers olders a [] b = (slice_index newers a ≡ b) × (slice_index olders b ≡ a)
IsLinked newers olders a (i ∷ l) b =
    (slice_index newers a ≡ i) × (slice_index olders i ≡ a) × IsLinked newers olders i l b

-- n slots from a slot on, newer by newer
abbrev pub walk : List ℕ → ℕ → ℕ → List ℕ
walk newers a zero = []
walk newers a (suc n) = slice_index newers a ∷ walk newers (slice_index newers a) n

-- all slots but the first, in the order of the ring that begins there
abbrev pub ring_of : List ℕ → List ℕ
ring_of newers = walk newers 0 (length newers - 1)

-- the list is all slots but the first, each once, linked into a ring with it
pub record IsRing (newers olders : List ℕ) (l : List ℕ) : Type 0 where
  pub linked : IsLinked newers olders 0 l 0
  pub once : (k : ℕ) → count k (0 ∷ l) ≤ 1
  pub within : (k : ℕ) → 1 ≤ count k (0 ∷ l) → k < length newers
  pub all : (k : ℕ) → k < length newers → 1 ≤ count k (0 ∷ l)
  pub same : length olders ≡ length newers
  pub long : length l + 1 ≡ length newers

-- k put before b, at the end where b is not there
abbrev pub put_before : ℕ → ℕ → List ℕ → List ℕ
put_before k b [] = k ∷ []
put_before k b (x ∷ l) = cond (eqb b x) (k ∷ x ∷ l) (x ∷ put_before k b l)

abbrev pub moved_before : ℕ → ℕ → List ℕ → List ℕ
moved_before k b l = put_before k b (keys_without k l)

-- section 0 has the free slots, section q + 1 those of queue q
abbrev pub SECTIONS : ℕ
SECTIONS = 5

-- slot k stands before section k, and slot k + 1 after it; the slots from this one on are in the sections
abbrev pub FIRST : ℕ
FIRST = 6

-- the slots of each section
abbrev pub Order : Type 0
Order = ℕ → List ℕ

-- n sections from section k on, each with the slot after it
abbrev pub ring_from : ℕ → ℕ → Order → List ℕ
ring_from zero k o = []
ring_from (suc n) k o = o k ++ suc k ∷ ring_from n (suc k) o

abbrev pub ring : Order → List ℕ
ring o = ring_from SECTIONS 0 o

-- the slots of the queues below n
abbrev pub used_below : ℕ → Order → List ℕ
used_below zero o = []
used_below (suc n) o = o (suc n) ++ used_below n o

-- the slots in use
abbrev pub used : Order → List ℕ
used o = used_below QUEUES o

abbrev pub with_section : ℕ → List ℕ → Order → Order
with_section s l o j = cond (eqb j s) l (o j)

-- the list up to b, and what stands after it
abbrev pub until : ℕ → List ℕ → List ℕ
until b [] = []
until b (x ∷ l) = cond (eqb b x) [] (x ∷ until b l)

abbrev pub past : ℕ → List ℕ → List ℕ
past b [] = []
past b (x ∷ l) = cond (eqb b x) l (past b l)

-- the sections of a ring that begins after slot 0
abbrev pub order_in : List ℕ → Order
order_in l s = cond (nat_lt s SECTIONS) (until (suc s) (past s (0 ∷ l))) []

-- the order that the links show
abbrev pub order_of : List Slot → Order
order_of slots = order_in (ring_of (newers slots))

-- the slot out of the section that it stands in
abbrev pub order_without : ℕ → Order → Order
order_without k o j = keys_without k (o j)

-- the slot sent to the place before b in a section, to its end where b is not there
abbrev pub sent : ℕ → ℕ → ℕ → Order → Order
sent k s b o = with_section s (put_before k b (keys_without k (o s))) (order_without k o)

-- there are no more sections
abbrev pub IsShort : Order → Type 0
IsShort o = (s : ℕ) → SECTIONS ≤ s → o s ≡ []

-- the entries of the slots
abbrev pub lists_of : Order → List Entry → Queues
lists_of o entries q = map (λ k. slot_entry entries k) (o (suc q))

abbrev pub lists : List Slot → Queues
lists slots = lists_of (order_of slots) (entries slots)

-- the slots are linked in the order, each slot in use has its queue's number, and no item stands twice
pub record IsQueued (slots : List Slot) (o : Order) : Type 0 where
  pub linked : IsRing (newers slots) (olders slots) (ring o)
  pub short : IsShort o
  pub tagged : (q k : ℕ) → 1 ≤ count k (o (suc q)) → tag_at (tags slots) k ≡ q
  pub distinct : IsDistinct (lists_of o (entries slots))

-- the queue is not empty
pub record HasItems (q : ℕ) (slots : List Slot) : Type 0 where
  pub low : q < QUEUES
  pub queued : IsQueued slots (order_of slots)
  pub some : 1 ≤ length (order_of slots (suc q))

-- b is a place in the section: one of its slots, or the one after it
abbrev pub IsPlace : ℕ → ℕ → Order → Type 0
IsPlace b s o = (1 ≤ count b (o s)) ⊎ (b ≡ suc s)

-- the slot may go to the place before b in section s
pub record CanGo (k s b : ℕ) (slots : List Slot) : Type 0 where
  pub linked : IsRing (newers slots) (olders slots) (ring (order_of slots))
  pub real : FIRST ≤ k
  pub within : k < length slots
  pub place : IsPlace b s (order_without k (order_of slots))

-- the slot went to the place before b in queue q, with an entry
pub record IsSent (k q b : ℕ) (e : Entry) (old new : List Slot) : Type 0 where
  pub low : q < QUEUES
  pub linked : IsRing (newers new) (olders new) (ring (order_of new))
  pub order : order_of new ≡ sent k (suc q) b (order_of old)
  pub entries : entries new ≡ slice_set (entries old) k e
  pub tags : tags new ≡ slice_set (tags old) k q

-- the slot went to the free ones
pub record IsFreed (k : ℕ) (old new : List Slot) : Type 0 where
  pub linked : IsRing (newers new) (olders new) (ring (order_of new))
  pub order : order_of new ≡ sent k 0 1 (order_of old)
  pub only : ChangesOnlyLinks old new

-- the item of a slot, None at those between the sections
abbrev pub item_or : List Entry → ℕ → Option Item
item_or entries k = cond (nat_lt k FIRST) None (Some (slot_item entries k))

abbrev pub no_slots : Order
no_slots s = []

abbrev pub more_free : ℕ → Order → Order
more_free k o = with_section 0 (o 0 ++ k ∷ []) o

-- the slot after another one, where one slot is left out
abbrev pub next_but : List ℕ → ℕ → ℕ → ℕ
next_but newers at but =
    cond (eqb (slice_index newers at) but) (slice_index newers (slice_index newers at)) (slice_index newers at)
