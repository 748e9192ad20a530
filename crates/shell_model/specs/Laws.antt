-- What the replies so far say of the shell's state.
use Rattle.std.specs.Prelude.{◌≡◌, ℕ, ◌+◌, ◌<◌, ◌≤◌, ◌↔◌, Bool, true, false, eqb, if◌then◌else◌, Option, Some, None}
use Rattle.std.specs.Prelude.{List}
use Rattle.std.specs.Prelude.{[], ◌∷◌, ◌++◌, drop, replicate}
pub use Rattle.engine_base.specs.declared.config.Config.{Config}
pub use Rattle.engine_base.specs.declared.step.Act.{Act}
use Rattle.engine_base.specs.declared.step.Act.TheVariants.{Offer, Put, Remove as RemoveKey, DrainRead, DrainWrite}
use Rattle.engine_base.specs.declared.step.Act.TheVariants.{Evict}
pub use Rattle.engine_base.specs.declared.entry.Entry.{Entry}
pub use Rattle.engine_base.specs.declared.drain.Phase.{Phase}
use Rattle.engine_base.specs.declared.drain.Phase.TheVariants.{Reads, Writes, Evictions}
use Rattle.engine_base.specs.declared.drain.Drain.TheVariants as drain
use Rattle.engine_base.specs.declared.step.Reply.TheVariants.{Kept, Present, Added, Removed, Drained, Applied, Cleared}
use Rattle.engine_base.specs.declared.step.Reply.TheVariants.{Evicted, Rejected, Idle, Again}
use Rattle.engine_base.specs.History.{data_after, IsLegal}
use Rattle.segments.specs.Items.{Item, occurrences}
use Rattle.segments.specs.Queues.{empty_queues}
use Rattle.admission.specs.Shape.{Shape, IsShape}
use Rattle.admission.specs.Frequency.{frequency_of}
use Rattle.shell_model.specs.declared.task.Task.TheVariants.{Add, Update, Remove}
use Rattle.shell_model.specs.declared.stats.Counted.TheVariants as counted
use Rattle.shell_model.specs.ShellStats.{Counted, NONE, ShellStats, Reply, count_of, raises}
use Rattle.engine_base.specs.Stats.{one_if}
use Rattle.shell_model.specs.Buffers.{stripe_at}
use Rattle.replacement.specs.Rules.{main_size}
use Rattle.shell_model.specs.Shell.{Holder, Task, Step, Shell, act}
use Rattle.replacement.specs.Counts.{queue_occurrences, main_length}
use Rattle.shell_model.specs.Consistency.{waiting_adds, leaving}

-- a step with its reply
abbrev pub MadeStep : Type 0
MadeStep = Entry Step Reply

-- what each step gives, in order
abbrev pub collect : {A : Type 0} → (Act → Reply → List A) → List MadeStep → List A
collect f [] = []
collect f (e ∷ es) = f e.step.act e.reply ++ collect f es

-- how much the steps give together
abbrev pub tally : (Act → Reply → ℕ) → List MadeStep → ℕ
tally f [] = 0
tally f (e ∷ es) = f e.step.act e.reply + tally f es

-- the tables of the frequency are those of the configuration
pub record IsShapeOf (c : Config) (s : Shape) : Type 0 where
  pub is : IsShape s
  pub capacity : s.capacity ≡ c.capacity
  pub spread : s.spread ≡ c.spread

-- the empty state: a shell just opened, of which nothing was asked
abbrev pub empty_shell : Config → Shape → Shell
empty_shell c s = record {
  config = c;
  table = [];
  next = 0;
  queues = empty_queues;
  stripes = replicate c.stripes [];
  writes = [];
  frequency = frequency_of s [];
  drain = drain.Idle;
  holder = None;
  applied = 0;
  stats = NONE;
}

-- the items that steps put into read buffer k, and how many they took out

abbrev pub offered : ℕ → Act → Reply → List Item
offered k (Offer s i) Kept = if eqb k s then i ∷ [] else []
offered k b r = []

abbrev pub drained : ℕ → Act → Reply → ℕ
drained k (DrainRead s) (Drained i) = one_if (eqb k s)
drained k b r = 0

-- the tasks that steps put into the write queue, and how many they took out

abbrev pub asked : Act → Reply → List Task
asked (Put k) (Added n) = Add record { key = k; node = n } ∷ []
asked (Put k) (Present n) = Update record { key = k; node = n } ∷ []
asked (RemoveKey k) (Removed n) = Remove record { key = k; node = n } ∷ []
asked b r = []

abbrev pub done : Act → Reply → ℕ
done b (Applied i) = 1
done b (Cleared i) = 1
done b r = 0

-- the items that steps added to the table, evicted or rejected, and removed

abbrev pub added : Act → Reply → List Item
added (Put k) (Added n) = record { key = k; node = n } ∷ []
added b r = []

abbrev pub evicted_items : Act → Reply → List Item
evicted_items b (Evicted i) = i ∷ []
evicted_items b (Rejected i) = i ∷ []
evicted_items b r = []

abbrev pub removed_items : Act → Reply → List Item
removed_items (RemoveKey k) (Removed n) = record { key = k; node = n } ∷ []
removed_items b r = []

-- the keys that steps counted in the frequency

abbrev pub keyed : Act → Reply → List ℕ
keyed b (Drained i) = i.key ∷ []
keyed b (Applied i) = i.key ∷ []
keyed b r = []

-- the holder

abbrev pub is_ending : Reply → Bool
is_ending Idle = true
is_ending Again = true
is_ending r = false

abbrev pub is_drain_write : Act → Bool
is_drain_write DrainWrite = true
is_drain_write b = false

abbrev pub is_evict : Act → Bool
is_evict Evict = true
is_evict b = false

abbrev pub some_end : List MadeStep → Bool
some_end [] = false
some_end (e ∷ es) = if is_ending e.reply then true else some_end es

abbrev pub some_act : (Act → Bool) → List MadeStep → Bool
some_act p [] = false
some_act p (e ∷ es) = if p e.step.act then true else some_act p es

-- the phase, from those that came since
abbrev pub phase_after : Phase → List MadeStep → Phase
phase_after p es = if some_act is_evict es then Evictions else if some_act is_drain_write es then Writes else p

-- the worker whose Began is the last that no Idle or Again follows, and what came since
abbrev pub open_from : MadeStep → List MadeStep → Option (ℕ × List MadeStep) → Option (ℕ × List MadeStep)
open_from e es (Some p) = Some p
open_from e es None =
    if raises counted.Began e.reply then if some_end es then None else Some (e.step.worker, es) else None

abbrev pub open_began : List MadeStep → Option (ℕ × List MadeStep)
open_began [] = None
open_began (e ∷ es) = open_from e es (open_began es)

-- the holder's worker and phase
abbrev pub holding_of : Option Holder → Option (ℕ × Phase)
holding_of None = None
holding_of (Some h) = Some (h.worker, h.phase)

abbrev pub holding_from : Option (ℕ × List MadeStep) → Option (ℕ × Phase)
holding_from None = None
holding_from (Some p) = Some (p.0, phase_after Reads p.1)

-- the laws

-- each statistic is the number of the replies that raise it
abbrev pub AreReplies : ShellStats → List MadeStep → Type 0
AreReplies s es = (c : Counted) → count_of c s ≡ tally (λ b r. one_if (raises c r)) es

-- after the entries, from the empty state, the state is x
pub record IsHistory (s : Shape) (es : List MadeStep) (x : Shell) : Type 0 where
  pub stripes : (k : ℕ) → stripe_at k x.stripes ≡ drop (tally (drained k) es) (collect (offered k) es)
  pub writes : x.writes ≡ drop (tally done es) (collect asked es)
  pub stats : AreReplies x.stats es
  pub table : (i : Item) → (1 ≤ occurrences i x.table)
      ↔ ((1 ≤ occurrences i (collect added es)) × (occurrences i (collect evicted_items es) ≡ 0)
      × (occurrences i (collect removed_items es) ≡ 0))
  pub stands : (i : Item) → 1 ≤ occurrences i x.table
      → (queue_occurrences i x.queues + waiting_adds i x.writes ≡ 1) × (leaving i x.writes ≡ 0)
  pub others : (i : Item) → occurrences i x.table ≡ 0 → 1 ≤ queue_occurrences i x.queues + waiting_adds i x.writes
      → leaving i x.writes ≡ 1
  pub behind : (i : Item) (before rest : List Task) → x.writes ≡ before ++ Add i ∷ rest → leaving i before ≡ 0
  pub main : main_length x.queues ≤ main_size x.config
  pub frequency : x.frequency ≡ frequency_of s (collect keyed es)
  pub below : (i : Item) → 1 ≤ occurrences i x.table → i.node < x.next
  pub holder : holding_of x.holder ≡ holding_from (open_began es)

abbrev pub HistoryLaws : Type 0
HistoryLaws = (c : Config) (s : Shape) (es : List MadeStep) → IsShapeOf c s
    → IsLegal act (empty_shell c s) es → IsHistory s es (data_after act (empty_shell c s) es)
