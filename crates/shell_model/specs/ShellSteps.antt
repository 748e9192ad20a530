-- What a step makes of the state, one case for each reply.
use Rattle.std.specs.Prelude.{◌≡◌, ℕ, ◌<◌, ◌≤◌, true, false, Some, None, List, [], ◌∷◌, length}
use Rattle.engine_base.specs.declared.step.Act.TheVariants as a
use Rattle.engine_base.specs.declared.step.Reply.TheVariants as reply
use Rattle.engine_base.specs.declared.drain.Phase.TheVariants.{Writes, Evictions}
use Rattle.segments.specs.Items.{Item, is_same_item}
use Rattle.shell_model.specs.Buffers.{stripe_at}
use Rattle.shell_model.specs.declared.stripes.TheConstants.{MAX_ITEMS}
use Rattle.shell_model.specs.declared.write_tasks.TheConstants.{MAX_TASKS}
use Rattle.shell_model.specs.declared.task.Task.TheVariants.{Add, Update, Remove}
use Rattle.shell_model.specs.declared.record.Change.TheVariants as change
use Rattle.shell_model.specs.Frequency.{admits}
use Rattle.shell_model.specs.Changes.{Holder, Task, after_change}
use Rattle.shell_model.specs.Shell.{Shell, node_of, is_over, in_phase, after_read, after_write, touched_of, task_reply}
use Rattle.shell_model.specs.Shell.{Drain, Reply, Act, Answer, may_read, may_write, drain_at_end, counted_up, act}
use Rattle.shell_model.specs.ShellEviction.{shift_effect, leave, IsCandidate, IsVictim, is_too_much}
use Rattle.shell_model.specs.Laws.{MadeStep}

-- the stripe is there, and the item's node was given
pub record MayOffer (s : ℕ) (i : Item) (x : Shell) : Type 0 where
  pub stripe : s < length x.stripes
  pub node : i.node < x.next

-- worker w holds the maintenance
pub record Holds (w : ℕ) (h : Holder) (x : Shell) : Type 0 where
  pub is : x.holder ≡ Some h
  pub by : w ≡ h.worker

-- the holder is worker w, in a phase of reads, and the stripe is there
pub record MayRead (w s : ℕ) (x : Shell) : Type 0 where
  pub holder : Holder
  pub holds : Holds w holder x
  pub phase : may_read holder.phase ≡ true
  pub stripe : s < length x.stripes

pub record MayWrite (w : ℕ) (h : Holder) (x : Shell) : Type 0 where
  pub holds : Holds w h x
  pub phase : may_write h.phase ≡ true

-- the state after a DrainWrite that applies the task
abbrev pub shell_after_drain : Holder → Task → Shell → Shell
shell_after_drain h t x = after_change (task_reply h.phase t x).1 x

pub data Makes (w : ℕ) (x : Shell) : Act → Reply → Shell → Type 0 where
  hit : (k n : ℕ) → node_of k x.table ≡ Some n → Makes w x (a.Look k) (reply.Hit n) x
  miss : (k : ℕ) → node_of k x.table ≡ None → Makes w x (a.Look k) reply.Miss x
  kept : (s : ℕ) (i : Item) → MayOffer s i x → length (stripe_at s x.stripes) < MAX_ITEMS
      → Makes w x (a.Offer s i) reply.Kept (after_change (change.Offered s i) x)
  full : (s : ℕ) (i : Item) → MayOffer s i x → MAX_ITEMS ≤ length (stripe_at s x.stripes)
      → Makes w x (a.Offer s i) reply.Full x
  lost : (s : ℕ) (i : Item) → MayOffer s i x → Makes w x (a.Lose s i) reply.Lost x
  writes_full : (k : ℕ) → MAX_TASKS ≤ length x.writes → Makes w x (a.Put k) reply.WritesFull x
  present : (k n : ℕ) → node_of k x.table ≡ Some n → length x.writes < MAX_TASKS
      → Makes w x (a.Put k) (reply.Present n) (after_change (change.Updated record { key = k; node = n }) x)
  added : (k : ℕ) → node_of k x.table ≡ None → length x.writes < MAX_TASKS
      → Makes w x (a.Put k) (reply.Added x.next) (after_change (change.Added record { key = k; node = x.next }) x)
  absent : (k : ℕ) → node_of k x.table ≡ None → Makes w x (a.Remove k) reply.Absent x
  remove_full : (k n : ℕ) → node_of k x.table ≡ Some n → MAX_TASKS ≤ length x.writes
      → Makes w x (a.Remove k) reply.WritesFull x
  removed : (k n : ℕ) → node_of k x.table ≡ Some n → length x.writes < MAX_TASKS
      → Makes w x (a.Remove k) (reply.Removed n) (after_change (change.Removed record { key = k; node = n }) x)
  read_go : (b : Answer) → after_read x.drain b ≡ reply.Go → Makes w x (a.AfterRead b) reply.Go x
  read_drain : (b : Answer) → after_read x.drain b ≡ reply.Drain → Makes w x (a.AfterRead b) reply.Drain x
  write_go : (d : Drain) → after_write x.drain ≡ (reply.Go, d)
      → Makes w x a.AfterWrite reply.Go (after_change (change.Requested x.drain d) x)
  write_drain : (d : Drain) → after_write x.drain ≡ (reply.Drain, d)
      → Makes w x a.AfterWrite reply.Drain (after_change (change.Requested x.drain d) x)
  busy : (h : Holder) → x.holder ≡ Some h → Makes w x a.Begin reply.Busy x
  began : x.holder ≡ None → Makes w x a.Begin reply.Began (after_change (change.Began w x.drain) x)
  read_empty : (s : ℕ) → MayRead w s x → stripe_at s x.stripes ≡ [] → Makes w x (a.DrainRead s) reply.Empty x
  drained : (s : ℕ) (i : Item) (rest : List Item) → MayRead w s x → stripe_at s x.stripes ≡ i ∷ rest
      → Makes w x (a.DrainRead s) (reply.Drained i) (after_change (change.Read s i (touched_of i x)) x)
  write_empty : (h : Holder) → MayWrite w h x → x.writes ≡ [] → Makes w x a.DrainWrite reply.Empty (in_phase Writes x)
  enough : (h : Holder) (t : Task) (rest : List Task) → MayWrite w h x → x.writes ≡ t ∷ rest → h.left ≡ 0
      → Makes w x a.DrainWrite reply.Enough (in_phase Writes x)
  applied_add : (h : Holder) (i : Item) (rest : List Task) → MayWrite w h x → x.writes ≡ Add i ∷ rest → 1 ≤ h.left
      → Makes w x a.DrainWrite (reply.Applied i) (shell_after_drain h (Add i) x)
  applied_update : (h : Holder) (i : Item) (rest : List Task) → MayWrite w h x → x.writes ≡ Update i ∷ rest
      → 1 ≤ h.left → Makes w x a.DrainWrite (reply.Applied i) (shell_after_drain h (Update i) x)
  applied_remove : (h : Holder) (i : Item) (rest : List Task) → MayWrite w h x → x.writes ≡ Remove i ∷ rest
      → 1 ≤ h.left → Makes w x a.DrainWrite (reply.Cleared i) (shell_after_drain h (Remove i) x)
  fits : (h : Holder) → Holds w h x → is_over x ≡ false → Makes w x a.Evict reply.Fits (in_phase Evictions x)
  shifted : (h : Holder) (c : Item) → Holds w h x → IsCandidate c x → is_too_much (shift_effect c x) ≡ false
      → Makes w x a.Evict (reply.Shifted c) (shift_effect c (in_phase Evictions x))
  evicted : (h : Holder) (c v : Item) → Holds w h x → IsCandidate c x → IsVictim v (shift_effect c x)
      → is_same_item c v ≡ false → admits x.frequency c.key v.key ≡ true
      → Makes w x a.Evict (reply.Evicted v) (leave v (shift_effect c (in_phase Evictions x)))
  rejected : (h : Holder) (c v : Item) → Holds w h x → IsCandidate c x → IsVictim v (shift_effect c x)
      → (is_same_item c v ≡ false → admits x.frequency c.key v.key ≡ false)
      → Makes w x a.Evict (reply.Rejected c) (leave c (shift_effect c (in_phase Evictions x)))
  not_yet : (h : Holder) → Holds w h x → is_over x ≡ true → Makes w x a.End reply.NotYet x
  idle : (h : Holder) (d : Drain) → Holds w h x → is_over x ≡ false → drain_at_end x.drain ≡ (reply.Idle, d)
      → Makes w x a.End reply.Idle (after_change (change.Ended h x.drain d) x)
  again : (h : Holder) (d : Drain) → Holds w h x → is_over x ≡ false → drain_at_end x.drain ≡ (reply.Again, d)
      → Makes w x a.End reply.Again (after_change (change.Ended h x.drain d) x)

-- an accepted step, before its reply was counted
pub record Steps (x : Shell) (e : MadeStep) (z : Shell) : Type 0 where
  pub left : Shell
  pub made : Makes e.step.worker x e.step.act e.reply left
  pub is : z ≡ counted_up e.reply left

abbrev pub StepsByReply : Type 0
StepsByReply = (x : Shell) (e : MadeStep) (z : Shell) → act x e.step ≡ Some (e.reply, z) → Steps x e z
