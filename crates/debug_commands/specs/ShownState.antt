-- What `show` prints of a concurrent cache. (Format of this project.)
use Rattle.std.specs.Prelude.{ℕ, zero, suc, Option, Some, None, List, [], ◌∷◌, ◌++◌, codes}
use Rattle.std.specs.Fmt.{decimal}
use Rattle.std.specs.List.{flat_map}
use Rattle.engine_base.specs.declared.drain.Drain.TheVariants as drain
use Rattle.engine_base.specs.declared.drain.Phase.TheVariants.{Reads, Writes, Evictions}
use Rattle.admission.specs.Frequency.{FrequencyData}
use Rattle.streams.specs.Texts.{count_text}
use Rattle.shell_model.specs.Buffers.{Item, stripe_at}
use Rattle.shell_model.specs.declared.task.Task.TheVariants.{Add, Update, Remove}
use Rattle.shell_model.specs.declared.task.Task.{Task}
use Rattle.shell_model.specs.Shell.{Phase, Drain, Shell}
use Rattle.shell_model.specs.declared.holder.Holder.{Holder}
use Rattle.shell_model.specs.declared.stats.ShellStats.{ShellStats}

-- ---- pieces

abbrev pub count_line : List ℕ → ℕ → List ℕ
count_line name n = count_text name n ++ codes "\n"

abbrev pub number_text : ℕ → List ℕ
number_text n = codes ":" ++ decimal n

-- a space, and key and node with a colon between them
abbrev pub item_text : Item → List ℕ
item_text i = count_text (codes " ") i.key ++ number_text i.node

abbrev pub items_line : List ℕ → List Item → List ℕ
items_line name items = name ++ (flat_map item_text items ++ codes "\n")

abbrev pub task_text : Task → List ℕ
task_text (Add i) = codes " add" ++ item_text i
task_text (Update i) = codes " update" ++ item_text i
task_text (Remove i) = codes " remove" ++ item_text i

abbrev pub tasks_line : List Task → List ℕ
tasks_line tasks = codes "writes" ++ (flat_map task_text tasks ++ codes "\n")

abbrev pub drain_word : Drain → List ℕ
drain_word drain.Idle = codes "idle"
drain_word drain.Required = codes "required"
drain_word drain.ToIdle = codes "toidle"
drain_word drain.ToRequired = codes "torequired"

abbrev pub phase_word : Phase → List ℕ
phase_word Reads = codes " reads "
phase_word Writes = codes " writes "
phase_word Evictions = codes " evictions "

-- ---- lines

abbrev pub drain_line : Drain → List ℕ
drain_line d = codes "drain " ++ (drain_word d ++ codes "\n")

abbrev pub holder_line : Option Holder → List ℕ
holder_line None = codes "holder none\n"
holder_line (Some h) = count_text (codes "holder ") h.worker ++ count_line (phase_word h.phase) h.left

abbrev pub state_text : Shell → List ℕ
state_text x = drain_line x.drain ++ (holder_line x.holder ++ count_line (codes "next ") x.next)

abbrev pub queues_text : Shell → List ℕ
queues_text x = items_line (codes "window") x.queues.window
    ++ (items_line (codes "probation") x.queues.probation ++ items_line (codes "protected") x.queues.protected)

abbrev pub stripe_line : ℕ → List Item → List ℕ
stripe_line s items = count_text (codes "stripe ") s ++ (flat_map item_text items ++ codes "\n")

-- the first n read buffers
abbrev pub stripe_lines : List (List Item) → ℕ → List ℕ
stripe_lines stripes zero = []
stripe_lines stripes (suc s) = stripe_lines stripes s ++ stripe_line s (stripe_at s stripes)

abbrev pub age_line : FrequencyData → List ℕ
age_line f = count_text (codes "age ") f.age ++ count_line (codes " halvings ") f.halvings

unfoldable pub stats_line : ShellStats → List ℕ
stats_line s = flat_map
    (λ (c : List ℕ × ℕ). count_text c.0 c.1)
    ((codes "hits ", s.hits) ∷ (codes " misses ", s.misses)
    ∷ (codes " kept ", s.kept) ∷ (codes " full ", s.full) ∷ (codes " lost ", s.lost)
    ∷ (codes " added ", s.added) ∷ (codes " updated ", s.updated) ∷ (codes " refused ", s.refused)
    ∷ (codes " evictions ", s.evictions) ∷ (codes " rejections ", s.rejections)
    ∷ (codes " begun ", s.begun) ∷ (codes " busy ", s.busy) ∷ (codes " removed ", s.removed) ∷ [])
    ++ codes "\n"

-- ---- the whole

abbrev pub lists_text : Shell → List ℕ
lists_text x = items_line (codes "table") x.table
    ++ (queues_text x ++ (stripe_lines x.stripes x.config.stripes ++ tasks_line x.writes))

abbrev pub shown_text : Shell → List ℕ
shown_text x = state_text x ++ (lists_text x ++ (age_line x.frequency ++ stats_line x.stats))
