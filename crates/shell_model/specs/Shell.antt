-- The acts of the concurrent cache: the reply to each, and what it changes.
use Rattle.std.specs.Prelude.{ℕ, ◌+◌, nat_lt, Bool, true, false, ◌&&◌, eqb, if◌then◌else◌, Option, Some, None}
use Rattle.std.specs.Prelude.{List, [], ◌∷◌, length}
use Rattle.engine_base.specs.declared.limits.TheConstants.{MAX_STEPS}
pub use Rattle.engine_base.specs.declared.item.Item.{Item}
pub use Rattle.engine_base.specs.declared.outcome.Outcome.{Outcome}
use Rattle.engine_base.specs.declared.outcome.Outcome.TheVariants as outcome
pub use Rattle.engine_base.specs.declared.step.Answer.{Answer}
use Rattle.engine_base.specs.declared.step.Answer.TheVariants as answer
pub use Rattle.engine_base.specs.declared.step.Act.{Act}
use Rattle.engine_base.specs.declared.step.Act.TheVariants.{Look, Offer, Lose, Put, Remove as RemoveKey, AfterRead}
use Rattle.engine_base.specs.declared.step.Act.TheVariants.{AfterWrite, Begin, DrainRead, DrainWrite, Evict, End}
pub use Rattle.engine_base.specs.declared.step.Step.{Step}
pub use Rattle.engine_base.specs.declared.step.Reply.{Reply}
use Rattle.engine_base.specs.declared.step.Reply.TheVariants as reply
pub use Rattle.engine_base.specs.declared.drain.Drain.{Drain}
use Rattle.engine_base.specs.declared.drain.Drain.TheVariants as drain
pub use Rattle.engine_base.specs.declared.drain.Phase.{Phase}
use Rattle.engine_base.specs.declared.drain.Phase.TheVariants.{Reads, Writes, Evictions}
use Rattle.segments.specs.declared.records.Queue.TheVariants.{Window}
pub use Rattle.segments.specs.declared.records.MoveRecord.{MoveRecord}
use Rattle.segments.specs.Queues.{Queues, queue_holding}
use Rattle.segments.specs.Moves.{move_record}
use Rattle.replacement.specs.declared.record.Leaver.{Leaver}
pub use Rattle.replacement.specs.declared.record.Moves.{Moves}
use Rattle.replacement.specs.declared.record.Moves.TheVariants.{Replaced}
use Rattle.replacement.specs.Rules.{three_queues}
use Rattle.replacement.specs.Table.{Queue, Response}
use Rattle.replacement.specs.Plan.{Plan, hit_plan, joining_plan, candidate_of, eviction_plan}
use Rattle.replacement.specs.PlanMoves.{moves_of}
use Rattle.shell_model.specs.Buffers.{stripe_at}
use Rattle.shell_model.specs.declared.stripes.TheConstants.{MAX_ITEMS}
use Rattle.shell_model.specs.declared.write_tasks.TheConstants.{MAX_TASKS}
pub use Rattle.shell_model.specs.declared.task.Task.{Task}
use Rattle.shell_model.specs.declared.task.Task.TheVariants.{Add, Update, Remove}
pub use Rattle.shell_model.specs.declared.holder.Holder.{Holder}
pub use Rattle.shell_model.specs.declared.record.Change.{Change}
use Rattle.shell_model.specs.declared.record.Change.TheVariants as change
use Rattle.shell_model.specs.Frequency.{shell_frequency_record, admits}
use Rattle.shell_model.specs.ShellStats.{shell_stats_after}
use Rattle.shell_model.specs.Changes.{EvictionRecord, UseRecord, shell_eviction, shell_after_eviction, after_change}
pub use Rattle.shell_model.specs.ShellState.{Shell, window_size, shell_protected_size, is_over, node_of, table_with}
pub use Rattle.shell_model.specs.ShellState.{is_listed, unlisted, unlisted_by, held_by, in_phase}

-- readers and writers

abbrev pub look_reply : Option ℕ → Reply
look_reply (Some n) = reply.Hit n
look_reply None = reply.Miss

abbrev pub offer_reply : ℕ → Item → Shell → Reply × Change
offer_reply s i x =
    if nat_lt (length (stripe_at s x.stripes)) MAX_ITEMS then (reply.Kept, change.Offered s i)
    else (reply.Full, change.Nothing)

abbrev pub put_at : ℕ → Option ℕ → Shell → Reply × Change
put_at k (Some n) x = (reply.Present n, change.Updated record { key = k; node = n })
put_at k None x = (reply.Added x.next, change.Added record { key = k; node = x.next })

abbrev pub put_reply : ℕ → Shell → Reply × Change
put_reply k x =
    if nat_lt (length x.writes) MAX_TASKS then put_at k (node_of k x.table) x
    else (reply.WritesFull, change.Nothing)

abbrev pub remove_at : ℕ → Option ℕ → Shell → Reply × Change
remove_at k None x = (reply.Absent, change.Nothing)
remove_at k (Some n) x =
    if nat_lt (length x.writes) MAX_TASKS then (reply.Removed n, change.Removed record { key = k; node = n })
    else (reply.WritesFull, change.Nothing)

abbrev pub after_read : Drain → Answer → Reply
after_read drain.Idle answer.Kept = reply.Go
after_read drain.Idle answer.Full = reply.Drain
after_read drain.Idle answer.Lost = reply.Go
after_read drain.Required a = reply.Drain
after_read drain.ToIdle a = reply.Go
after_read drain.ToRequired a = reply.Go

abbrev pub after_write : Drain → Reply × Drain
after_write drain.Idle = (reply.Drain, drain.Required)
after_write drain.Required = (reply.Drain, drain.Required)
after_write drain.ToIdle = (reply.Go, drain.ToRequired)
after_write drain.ToRequired = (reply.Go, drain.ToRequired)

-- the maintenance

abbrev pub begin_reply : ℕ → Option Holder → Shell → Reply × Change
begin_reply w (Some h) x = (reply.Busy, change.Nothing)
begin_reply w None x = (reply.Began, change.Began w x.drain)

-- a hit's moves, by where the item is queued
abbrev pub hit_moves : ℕ → Item → Option Queue → Queues → Moves
hit_moves size i None q = Replaced None None None
hit_moves size i (Some p) q = moves_of (hit_plan size i p q) q

abbrev pub touched_of : Item → Shell → UseRecord
touched_of i x = record {
  frequency = shell_frequency_record x.frequency i.key;
  moves = hit_moves (shell_protected_size x.config) i (queue_holding i x.queues) x.queues;
}

abbrev pub read_reply : ℕ → List Item → Shell → Reply × Change
read_reply s [] x = (reply.Empty, change.Nothing)
read_reply s (i ∷ rest) x = (reply.Drained i, change.Read s i (touched_of i x))

abbrev pub added_of : Item → Shell → UseRecord
added_of i x =
    record { frequency = shell_frequency_record x.frequency i.key; moves = moves_of (joining_plan Window i) x.queues }

abbrev pub cleared_of : Item → Option Queue → Queues → Option MoveRecord
cleared_of i None q = None
cleared_of i (Some p) q = Some (move_record i None q)

abbrev pub task_reply : Phase → Task → Shell → Reply × Change
task_reply p (Add i) x = (reply.Applied i, change.Applied p true i (added_of i x))
task_reply p (Update i) x = (reply.Applied i, change.Applied p false i (touched_of i x))
task_reply p (Remove i) x =
    (reply.Cleared i, change.Cleared p i (cleared_of i (queue_holding i x.queues) x.queues))

abbrev pub write_reply : Holder → List Task → Shell → Reply × Change
write_reply h [] x = (reply.Empty, change.Passed h.phase Writes)
write_reply h (t ∷ rest) x =
    if eqb h.left 0 then (reply.Enough, change.Passed h.phase Writes) else task_reply h.phase t x

-- what is replied of a candidate, by the outcome and the item that left
abbrev pub reply_by : Outcome → Option Item → Item → Reply
reply_by (outcome.Evicted k) (Some v) c = reply.Evicted v
reply_by (outcome.Rejected k) (Some v) c = reply.Rejected v
reply_by o l c = reply.Shifted c

-- an eviction's reply and the shell that it leaves, by its candidate and what it comes to
abbrev pub evicted_by : Option Item → Response → Shell → Reply × Shell
evicted_by None r x = (reply.Fits, x)
evicted_by (Some c) r x = (reply_by r.outcome r.left c, shell_after_eviction r x)

abbrev pub evict_effect : Shell → Reply × Shell
evict_effect x = evicted_by (candidate_of (three_queues x.config) x.queues) (shell_eviction x) x

-- whether the item that leaves the queues leaves the table too
abbrev pub leaves_table : Option Leaver → List Item → Bool
leaves_table None t = false
leaves_table (Some l) t = is_listed l.item t

abbrev pub eviction_record : Plan → Shell → EvictionRecord
eviction_record p x = record { moves = moves_of p x.queues; listed = leaves_table p.leaves x.table }

-- by the candidate and the eviction's plan
abbrev pub planned_change : Holder → Option Item → Plan → Shell → Change
planned_change h None p x = change.Passed h.phase Evictions
planned_change h (Some c) p x = change.Evicted h.phase (eviction_record p x)

abbrev pub evict_change : Holder → Shell → Change
evict_change h x = planned_change h
    (candidate_of (three_queues x.config) x.queues)
    (eviction_plan (three_queues x.config) (admits x.frequency) x.queues)
    x

-- ToRequired: an AfterWrite came meanwhile
abbrev pub drain_at_end : Drain → Reply × Drain
drain_at_end drain.ToRequired = (reply.Again, drain.Required)
drain_at_end drain.Required = (reply.Idle, drain.Idle)
drain_at_end drain.ToIdle = (reply.Idle, drain.Idle)
drain_at_end drain.Idle = (reply.Idle, drain.Idle)

abbrev pub end_reply : Holder → Shell → Reply × Change
end_reply h x =
    if is_over x then (reply.NotYet, change.Nothing)
    else ((drain_at_end x.drain).0, change.Ended h x.drain (drain_at_end x.drain).1)

-- whether a phase may still come: it does not go back
abbrev pub may_read : Phase → Bool
may_read Reads = true
may_read Writes = false
may_read Evictions = false

abbrev pub may_write : Phase → Bool
may_write Reads = true
may_write Writes = true
may_write Evictions = false

-- the steps

abbrev pub is_stripe : ℕ → Shell → Bool
is_stripe s x = nat_lt s (length x.stripes)

abbrev pub some_if : {A : Type 0} → Bool → A → Option A
some_if b a = if b then Some a else None

abbrev pub if_held : {A : Type 0} → (Holder → Option A) → Option Holder → Option A
if_held f None = None
if_held f (Some h) = f h

-- the reply to an act of worker w and what it changes, None where it may not come now
abbrev pub act_reply : ℕ → Act → Shell → Option (Reply × Change)
act_reply w (Look k) x = Some (look_reply (node_of k x.table), change.Nothing)
act_reply w (Offer s i) x = some_if (is_stripe s x && nat_lt i.node x.next) (offer_reply s i x)
act_reply w (Lose s i) x = some_if (is_stripe s x && nat_lt i.node x.next) (reply.Lost, change.Nothing)
act_reply w (Put k) x = Some (put_reply k x)
act_reply w (RemoveKey k) x = Some (remove_at k (node_of k x.table) x)
act_reply w (AfterRead a) x = Some (after_read x.drain a, change.Nothing)
act_reply w AfterWrite x = Some ((after_write x.drain).0, change.Requested x.drain (after_write x.drain).1)
act_reply w Begin x = Some (begin_reply w x.holder x)
act_reply w (DrainRead s) x = if_held
    (λ h. some_if (is_stripe s x && may_read h.phase) (read_reply s (stripe_at s x.stripes) x))
    (held_by w x.holder)
act_reply w DrainWrite x = if_held (λ h. some_if (may_write h.phase) (write_reply h x.writes x)) (held_by w x.holder)
act_reply w Evict x = if_held (λ h. Some ((evict_effect x).0, evict_change h x)) (held_by w x.holder)
act_reply w End x = if_held (λ h. Some (end_reply h x)) (held_by w x.holder)

-- with the shell that the change leaves
abbrev pub with_shell : Shell → Option (Reply × Change) → Option (Reply × Shell)
with_shell x None = None
with_shell x (Some p) = Some (p.0, after_change p.1 x)

abbrev pub act_effect : ℕ → Act → Shell → Option (Reply × Shell)
act_effect w a x = with_shell x (act_reply w a x)

-- each reply is counted, and each step stands
abbrev pub counted_up : Reply → Shell → Shell
counted_up r x = record x { stats = shell_stats_after r x.stats; applied = x.applied + 1 }

abbrev pub counted_reply : Option (Reply × Shell) → Option (Reply × Shell)
counted_reply None = None
counted_reply (Some p) = Some (p.0, counted_up p.0 p.1)

abbrev pub act : Shell → Step → Option (Reply × Shell)
act x s = if nat_lt x.applied MAX_STEPS then counted_reply (act_effect s.worker s.act x) else None
