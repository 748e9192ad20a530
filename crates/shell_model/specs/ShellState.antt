-- The state of the concurrent cache, and what steps look up in it.
use Rattle.std.specs.Prelude.{ℕ, nat_lt, Bool, false, eqb, if◌then◌else◌, Option, Some, None}
use Rattle.std.specs.Prelude.{List, [], ◌∷◌, length}
pub use Rattle.engine_base.specs.declared.item.Item.{Item}
pub use Rattle.engine_base.specs.declared.config.Config.{Config}
pub use Rattle.engine_base.specs.declared.drain.Drain.{Drain}
pub use Rattle.engine_base.specs.declared.drain.Phase.{Phase}
pub use Rattle.segments.specs.declared.records.Queue.{Queue}
use Rattle.segments.specs.Items.{items_without}
use Rattle.segments.specs.Queues.{Queues, queue_holding, queues_without}
use Rattle.admission.specs.Frequency.{FrequencyData}
use Rattle.replacement.specs.Rules.{three_queues}
pub use Rattle.shell_model.specs.declared.task.Task.{Task}
pub use Rattle.shell_model.specs.declared.holder.Holder.{Holder}
use Rattle.shell_model.specs.declared.stats.ShellStats.{ShellStats}

pub record Shell : Type 0 where
  pub config : Config
  pub table : List Item  -- ascending by key
  pub next : ℕ  -- the next node number
  pub queues : Queues
  pub stripes : List (List Item)  -- oldest first, as the write queue
  pub writes : List Task
  pub frequency : FrequencyData
  pub drain : Drain
  pub holder : Option Holder
  pub stats : ShellStats
  pub applied : ℕ  -- how many steps are applied

-- the sizes of the parts, by the policies' rules

abbrev pub window_size : Config → ℕ
window_size c = (three_queues c).window

abbrev pub shell_protected_size : Config → ℕ
shell_protected_size c = (three_queues c).protected

abbrev pub is_over : Shell → Bool
is_over x = nat_lt (window_size x.config) (length x.queues.window)

-- the table

abbrev pub node_of : ℕ → List Item → Option ℕ
node_of k [] = None
node_of k (x ∷ t) = if eqb k x.key then Some x.node else node_of k t

abbrev pub table_with : Item → List Item → List Item
table_with i [] = i ∷ []
table_with i (x ∷ t) = if nat_lt i.key x.key then i ∷ x ∷ t else x ∷ table_with i t

abbrev pub is_node : ℕ → Option ℕ → Bool
is_node n None = false
is_node n (Some m) = eqb n m

-- the table gives the item's key that very node
abbrev pub is_listed : Item → List Item → Bool
is_listed i t = is_node i.node (node_of i.key t)

-- the item leaves the table where it is listed there: a newer node of its key stays
abbrev pub unlisted : Item → List Item → List Item
unlisted i t = if is_listed i t then items_without i t else t

-- the item that left the queues, if any, leaves the table where it is listed there
abbrev pub unlisted_by : Option Item → List Item → List Item
unlisted_by None t = t
unlisted_by (Some i) t = unlisted i t

-- queues: an item is taken out, where it is queued

abbrev pub cleared_from : Item → Option Queue → Queues → Queues
cleared_from i None q = q
cleared_from i (Some p) q = queues_without i q

abbrev pub queues_cleared : Item → Queues → Queues
queues_cleared i q = cleared_from i (queue_holding i q) q

-- the holder

-- where w is it
abbrev pub held_by : ℕ → Option Holder → Option Holder
held_by w None = None
held_by w (Some h) = if eqb w h.worker then Some h else None

abbrev pub holder_in_phase : Phase → Option Holder → Option Holder
holder_in_phase p None = None
holder_in_phase p (Some h) = Some record { worker = h.worker; phase = p; left = h.left }

abbrev pub in_phase : Phase → Shell → Shell
in_phase p x = record x { holder = holder_in_phase p x.holder }
