-- What holds of the shell after any steps.
use Rattle.std.specs.Prelude.{◌≡◌, ℕ, ◌+◌, ◌<◌, ◌≤◌, if◌then◌else◌, Option, Some, None, List}
use Rattle.std.specs.Prelude.{[], ◌∷◌, length}
use Rattle.shell_model.specs.declared.stripes.TheConstants.{MAX_ITEMS}
use Rattle.shell_model.specs.declared.write_tasks.TheConstants.{MAX_TASKS}
use Rattle.admission.specs.Frequency.{IsFrequency}
use Rattle.segments.specs.Items.{Item, is_same_item, occurrences}
use Rattle.segments.specs.Queues.{Queues}
pub use Rattle.shell_model.specs.declared.task.Task.{Task}
use Rattle.shell_model.specs.declared.task.Task.TheVariants.{Add, Update, Remove}
use Rattle.shell_model.specs.Buffers.{stripe_at}
use Rattle.replacement.specs.Rules.{main_size}
use Rattle.replacement.specs.Counts.{queue_occurrences, main_length}
use Rattle.shell_model.specs.Shell.{Holder, Shell}

-- how often an Add of the item waits
abbrev pub waiting_adds : Item → List Task → ℕ
waiting_adds i [] = 0
waiting_adds i (Add j ∷ ts) = (if is_same_item i j then 1 else 0) + waiting_adds i ts
waiting_adds i (Update j ∷ ts) = waiting_adds i ts
waiting_adds i (Remove j ∷ ts) = waiting_adds i ts

-- how often a Remove of the item waits
abbrev pub leaving : Item → List Task → ℕ
leaving i [] = 0
leaving i (Add j ∷ ts) = leaving i ts
leaving i (Update j ∷ ts) = leaving i ts
leaving i (Remove j ∷ ts) = (if is_same_item i j then 1 else 0) + leaving i ts

-- after a Remove no Add of its item waits
abbrev pub IsOrdered : List Task → Type 0
IsOrdered [] = Unit {0}
IsOrdered (Add j ∷ ts) = IsOrdered ts
IsOrdered (Update j ∷ ts) = IsOrdered ts
IsOrdered (Remove j ∷ ts) = (waiting_adds j ts ≡ 0) × IsOrdered ts

abbrev pub AreAbove : ℕ → List Item → Type 0
AreAbove k [] = Unit {0}
AreAbove k (x ∷ t) = (k < x.key) × AreAbove k t

abbrev pub IsAscending : List Item → Type 0
IsAscending [] = Unit {0}
IsAscending (x ∷ t) = AreAbove x.key t × IsAscending t

abbrev pub IsLeft : Option Holder → Type 0
IsLeft None = Unit {0}
IsLeft (Some h) = h.left ≤ MAX_TASKS

-- an item of the table is queued or waits for it, and what is queued or waits is in the table or is to be removed: each
-- once
pub record IsPlaced (table : List Item) (next : ℕ) (queues : Queues) (writes : List Task) : Type 0 where
  pub stands : (i : Item) → occurrences i table ≤ queue_occurrences i queues + waiting_adds i writes
  pub known : (i : Item) → queue_occurrences i queues + waiting_adds i writes ≤ occurrences i table + leaving i writes
  pub once : (i : Item) → occurrences i table + leaving i writes ≤ 1
  pub below : (i : Item) → 1 ≤ occurrences i table + leaving i writes → i.node < next
  pub ascending : IsAscending table
  pub ordered : IsOrdered writes

pub record IsConsistent (x : Shell) : Type 0 where
  pub placed : IsPlaced x.table x.next x.queues x.writes
  pub stripes : (s : ℕ) → length (stripe_at s x.stripes) ≤ MAX_ITEMS
  pub writes : length x.writes ≤ MAX_TASKS
  pub left : IsLeft x.holder
  pub main : main_length x.queues ≤ main_size x.config
  pub frequency : IsFrequency x.frequency
