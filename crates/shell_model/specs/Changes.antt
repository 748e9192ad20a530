-- What a step changes: what the change makes of the state, how it is undone, and where it can be. Some parts of a
-- change are there for undoing alone.
use Rattle.std.specs.Prelude.{◌≡◌, ◌≢◌, ℕ, ◌+◌, ◌-◌, ◌<◌, Bool, true, false, Option, Some, None}
use Rattle.std.specs.Prelude.{List, [], ◌∷◌, ◌++◌, drop, length, set}
use Rattle.engine_base.specs.declared.drain.Drain.TheVariants.{ToIdle}
pub use Rattle.engine_base.specs.declared.drain.Phase.{Phase}
use Rattle.engine_base.specs.declared.drain.Phase.TheVariants.{Reads, Writes, Evictions}
use Rattle.segments.specs.declared.records.Queue.TheVariants.{Window}
use Rattle.segments.specs.Items.{Item, items_without}
use Rattle.segments.specs.Queues.{queues_after_push}
use Rattle.admission.specs.FreqRecord.{size_of}
use Rattle.replacement.specs.Rules.{three_queues}
use Rattle.replacement.specs.Table.{Response, after_hit, eviction}
use Rattle.replacement.specs.declared.record.Leaver.{Leaver}
use Rattle.replacement.specs.PlanMoves.{leaver_in, undone_by, undone_moves, FitsBy, FitsMoves}
use Rattle.shell_model.specs.Buffers.{stripe_at, all_but_newest}
use Rattle.shell_model.specs.declared.stripes.TheConstants.{MAX_ITEMS}
use Rattle.shell_model.specs.declared.write_tasks.TheConstants.{MAX_TASKS}
pub use Rattle.shell_model.specs.declared.task.Task.{Task}
use Rattle.shell_model.specs.declared.task.Task.TheVariants.{Add, Update, Remove}
pub use Rattle.shell_model.specs.declared.holder.Holder.{Holder}
pub use Rattle.shell_model.specs.declared.record.UseRecord.{UseRecord}
pub use Rattle.shell_model.specs.declared.record.EvictionRecord.{EvictionRecord}
pub use Rattle.shell_model.specs.declared.record.Change.{Change}
use Rattle.shell_model.specs.declared.record.Change.TheVariants.{Nothing, Offered, Updated, Added, Removed, Requested}
use Rattle.shell_model.specs.declared.record.Change.TheVariants.{Began, Read, Passed, Applied, Cleared, Evicted, Ended}
use Rattle.shell_model.specs.Frequency.{frequency_recorded, frequency_unrecorded, FitsFrequency, admits}
use Rattle.shell_model.specs.ShellState.{Shell, node_of, table_with, unlisted_by, queues_cleared, shell_protected_size}
use Rattle.shell_model.specs.ShellState.{holder_in_phase, in_phase}

-- what changes do

-- the item's key is recorded, and it moves, where it is queued, as on a hit
abbrev pub shell_after_touch : Item → Shell → Shell
shell_after_touch i x =
    record x {
      frequency = frequency_recorded x.frequency i.key;
      queues = after_hit (shell_protected_size x.config) i x.queues;
    }

abbrev pub shell_after_task : Task → Shell → Shell
shell_after_task (Add i) x =
    record x { frequency = frequency_recorded x.frequency i.key; queues = queues_after_push Window i x.queues }
shell_after_task (Update i) x = shell_after_touch i x
shell_after_task (Remove i) x = record x { queues = queues_cleared i x.queues }

-- the task of an item that was written, by whether it is new in the table
abbrev pub written_task : Bool → Item → Task
written_task true i = Add i
written_task false i = Update i

-- in phase Writes, with a task less left
abbrev pub holder_after_task : Option Holder → Option Holder
holder_after_task None = None
holder_after_task (Some h) = Some record { worker = h.worker; phase = Writes; left = h.left - 1 }

-- the oldest task is taken
abbrev pub without_task : Shell → Shell
without_task x = record x { writes = drop 1 x.writes; holder = holder_after_task x.holder }

-- an eviction is that of the policies' table of moves with a window
abbrev pub shell_eviction : Shell → Response
shell_eviction x = eviction (three_queues x.config) (admits x.frequency) x.queues

-- what the eviction's response makes of the shell: what left the queues leaves the table where it is listed there
abbrev pub shell_after_eviction : Response → Shell → Shell
shell_after_eviction r x = record x { queues = r.queues; table = unlisted_by r.left x.table }

abbrev pub after_change : Change → Shell → Shell
after_change Nothing x = x
after_change (Offered s i) x = record x { stripes = set x.stripes s (stripe_at s x.stripes ++ i ∷ []) }
after_change (Updated i) x = record x { writes = x.writes ++ Update i ∷ [] }
after_change (Added i) x = record x {
  writes = x.writes ++ Add i ∷ [];
  table = table_with i x.table;
  next = x.next + 1;
}
after_change (Removed i) x = record x { writes = x.writes ++ Remove i ∷ []; table = items_without i x.table }
after_change (Requested before now) x = record x { drain = now }
after_change (Began w before) x =
    record x { drain = ToIdle; holder = Some record { worker = w; phase = Reads; left = MAX_TASKS } }
after_change (Read s i t) x =
    shell_after_touch i (record x { stripes = set x.stripes s (drop 1 (stripe_at s x.stripes)) })
after_change (Passed before now) x = in_phase now x
after_change (Applied before is_new i t) x = shell_after_task (written_task is_new i) (without_task x)
after_change (Cleared before i r) x = shell_after_task (Remove i) (without_task x)
after_change (Evicted before g) x = shell_after_eviction (shell_eviction x) (in_phase Evictions x)
after_change (Ended h before now) x = record x { drain = now; holder = None }

-- undoing

abbrev pub before_use : UseRecord → Shell → Shell
before_use t x = record x {
  queues = undone_moves t.moves x.queues;
  frequency = frequency_unrecorded t.frequency x.frequency;
}

-- the phase as before, and a task more left
abbrev pub holder_with_task : Phase → Option Holder → Option Holder
holder_with_task p None = None
holder_with_task p (Some h) = Some record { worker = h.worker; phase = p; left = h.left + 1 }

-- back in the table, where it was listed
abbrev pub listed : Bool → Item → List Item → List Item
listed true i t = table_with i t
listed false i t = t

-- what went out of the queues is back in the table, where it was listed
abbrev pub entered : Bool → Option Leaver → List Item → List Item
entered b None t = t
entered b (Some l) t = listed b l.item t

abbrev pub unevicted : EvictionRecord → Shell → Shell
unevicted g x =
    record x { queues = undone_moves g.moves x.queues; table = entered g.listed (leaver_in g.moves) x.table }

abbrev pub before_change : Change → Shell → Shell
before_change Nothing x = x
before_change (Offered s i) x = record x { stripes = set x.stripes s (all_but_newest (stripe_at s x.stripes)) }
before_change (Updated i) x = record x { writes = all_but_newest x.writes }
before_change (Added i) x = record x {
  writes = all_but_newest x.writes;
  table = items_without i x.table;
  next = x.next - 1;
}
before_change (Removed i) x = record x { writes = all_but_newest x.writes; table = table_with i x.table }
before_change (Requested before now) x = record x { drain = before }
before_change (Began w before) x = record x { drain = before; holder = None }
before_change (Read s i t) x =
    let y = before_use t x in record y { stripes = set x.stripes s (i ∷ stripe_at s x.stripes) }
before_change (Passed before now) x = in_phase before x
before_change (Applied before is_new i t) x =
    let y = before_use t x in
    record y { writes = written_task is_new i ∷ x.writes; holder = holder_with_task before x.holder }
before_change (Cleared before i r) x =
    record x { queues = undone_by r x.queues; writes = Remove i ∷ x.writes; holder = holder_with_task before x.holder }
before_change (Evicted before g) x =
    let y = unevicted g x in record y { holder = holder_in_phase before x.holder }
before_change (Ended h before now) x = record x { drain = before; holder = Some h }

-- where a change can be undone

-- newest in l: what stands last
abbrev pub IsNewest : {A : Type 0} → A → List A → Type 0
IsNewest a l = l ≡ all_but_newest l ++ a ∷ []

-- no item went out, so that undoing takes no room
pub record FitsTouched (t : UseRecord) (x : Shell) : Type 0 where
  pub moves : FitsMoves t.moves x.queues
  pub frequency : FitsFrequency t.frequency x.frequency
  pub stays : leaver_in t.moves ≡ None

abbrev pub IsInPhase : Phase → Option Holder → Type 0
IsInPhase p None = ⊥
IsInPhase p (Some h) = h.phase ≡ p

abbrev pub HasLeft : Option Holder → Type 0
HasLeft None = ⊥
HasLeft (Some h) = h.left < MAX_TASKS

-- the table has room for the item's key, where it was listed
abbrev pub IsFree : Bool → Item → List Item → Type 0
IsFree true i t = node_of i.key t ≡ None
IsFree false i t = Unit {0}

abbrev pub IsOut : Bool → Option Leaver → List Item → Type 0
IsOut b None t = Unit {0}
IsOut b (Some l) t = IsFree b l.item t

pub record FitsEviction (g : EvictionRecord) (x : Shell) : Type 0 where
  pub moves : FitsMoves g.moves x.queues
  pub table : IsOut g.listed (leaver_in g.moves) x.table

abbrev pub FitsChange : Change → Shell → Type 0
FitsChange Nothing x = Unit {0}
FitsChange (Offered s i) x = (s < length x.stripes) × IsNewest i (stripe_at s x.stripes)
FitsChange (Updated i) x = IsNewest (Update i) x.writes
FitsChange (Added i) x = IsNewest (Add i) x.writes × (node_of i.key x.table ≡ Some i.node) × (x.next ≡ i.node + 1)
FitsChange (Removed i) x = IsNewest (Remove i) x.writes × (node_of i.key x.table ≡ None)
FitsChange (Requested before now) x = x.drain ≡ now
FitsChange (Began w before) x =
    (x.drain ≡ ToIdle) × (x.holder ≡ Some record { worker = w; phase = Reads; left = MAX_TASKS })
FitsChange (Read s i t) x = FitsTouched t x × (s < length x.stripes) × (length (stripe_at s x.stripes) < MAX_ITEMS)
FitsChange (Passed before now) x = IsInPhase now x.holder
FitsChange (Applied before is_new i t) x =
    FitsTouched t x × (length x.writes < MAX_TASKS) × IsInPhase Writes x.holder × HasLeft x.holder
FitsChange (Cleared before i r) x =
    FitsBy r x.queues × (length x.writes < MAX_TASKS) × IsInPhase Writes x.holder × HasLeft x.holder
FitsChange (Evicted before g) x = FitsEviction g x × IsInPhase Evictions x.holder
FitsChange (Ended h before now) x = (x.drain ≡ now) × (x.holder ≡ None)

-- undoing the change takes memory: an item left the table or the queues in it, and comes back
abbrev pub change_asks : Change → Type 0
change_asks (Removed i) = Unit {0}
change_asks (Cleared before i out) = out ≢ None
change_asks (Evicted before g) = leaver_in g.moves ≢ None
change_asks c = ⊥

-- the words that the change holds in lists: those of a halving of the frequency, if any
abbrev pub change_size : Change → ℕ
change_size (Read s i u) = size_of u.frequency
change_size (Applied before is_new i u) = size_of u.frequency
change_size c = 0
