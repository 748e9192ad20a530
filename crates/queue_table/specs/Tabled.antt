-- What holds of the queues of every table of keys.
use Rattle.std.specs.Prelude.{◌≡◌, ℕ, zero, suc, ◌+◌, ◌-◌, ◌<◌, ◌≤◌, true, false, List, [], ◌∷◌, ◌++◌, map}
use Rattle.engine_base.specs.Keys.{has_key, keys_without}
pub use Rattle.queue_table.specs.declared.records.Entry.{Entry}
pub use Rattle.queue_table.specs.declared.slot.Slot.{Slot}
use Rattle.queue_table.specs.Entries.{entry}
use Rattle.queue_table.specs.Queues.{QUEUES, Queues, IsDistinct}
use Rattle.queue_table.specs.Moves.{item_of}

-- the sum of the entries' nodes: 0 where each item is a key alone
abbrev pub nodes_of : List Entry → ℕ
nodes_of [] = 0
nodes_of (e ∷ l) = e.item.node + nodes_of l

abbrev pub HasKeys : Queues → Type 0
HasKeys s = (q : ℕ) → nodes_of (s q) ≡ 0

pub record IsTabled (s : Queues) : Type 0 where
  pub keys : HasKeys s
  pub distinct : IsDistinct s
  pub high : (q : ℕ) → QUEUES ≤ q → s q ≡ []

-- the keys of a list, oldest first
abbrev pub keys_of : List Entry → List ℕ
keys_of l = map (λ (e : Entry). e.item.key) l

-- k stands in queue q with the count n, and in no other queue
pub record StandsAs (k q n : ℕ) (s : Queues) : Type 0 where
  pub low : q < QUEUES
  pub front : List Entry
  pub back : List Entry
  pub whole : s q ≡ front ++ entry (item_of k) n ∷ back
  pub front_off : has_key k (keys_of front) ≡ false
  pub back_off : has_key k (keys_of back) ≡ false
  pub here : has_key k (keys_of (s q)) ≡ true
  pub off : (j : ℕ) → (j ≡ q → ⊥) → has_key k (keys_of (s j)) ≡ false
  pub without : keys_without k (keys_of (s q)) ≡ keys_of (front ++ back)
  pub off_without : (j : ℕ) → (j ≡ q → ⊥) → keys_without k (keys_of (s j)) ≡ keys_of (s j)

-- ---- runs, over one list

abbrev pub lowered_entry : ℕ → Entry → Entry
lowered_entry less e = entry e.item (e.count - less)

-- n times the first entry taken to the end, with its count lowered
abbrev pub turned_list : ℕ → ℕ → List Entry → List Entry
turned_list zero less l = l
turned_list (suc n) less [] = []
turned_list (suc n) less (e ∷ l) = turned_list n less (l ++ lowered_entry less e ∷ [])
