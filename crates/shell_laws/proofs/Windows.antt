-- The window passes its size by no more items than tasks were applied in the maintenance under way.
use Rattle.std.proofs.Common.{◌≡◌, ℕ, ◌+◌, ◌≤◌, Bool, true, false, nat_lt, Option, Some, None, List, [], ◌∷◌, length, ap, subst, sym, refl, arith, length-append}
use Rattle.std.proofs.lemmas.Bool.{cond_both, ltb-false}
use Rattle.engine_base.specs.History.{next_data, data_after, IsLegal}
use Rattle.engine_base.specs.declared.config.Config.{Config}
use Rattle.engine_base.specs.declared.step.Reply.TheVariants as reply
use Rattle.engine_base.specs.declared.drain.Phase.{Phase}
use Rattle.engine_base.specs.declared.drain.Phase.TheVariants.{Writes, Evictions}
use Rattle.segments.specs.declared.records.Queue.TheVariants.{Probation, Protected}
use Rattle.segments.specs.Items.{Item, items_without, oldest_of}
use Rattle.segments.specs.Queues.{Queues, queue_holding, queues_after_move, IsDistinct}
use Rattle.segments.proofs.QueueLists.{length-without, Stands, in_window, in_probation, in_protected, nowhere, stands}
use Rattle.replacement.specs.Table.{Queue, with_recent, hit_in, after_hit}
use Rattle.shell_model.specs.ShellState.{Shell, window_size, shell_protected_size, is_over, holder_in_phase, in_phase}
use Rattle.shell_model.specs.Changes.{holder_after_task}
use Rattle.shell_model.specs.Shell.{Reply, Act, act}
use Rattle.shell_model.specs.ShellEviction.{shift_effect, leave}
use Rattle.shell_model.specs.ShellSteps as k
use Rattle.shell_model.specs.ShellSteps.{Makes, Steps}
use Rattle.shell_model.specs.Consistency.{IsConsistent, IsLeft}
use Rattle.shell_model.specs.Laws.{MadeStep}
use Rattle.shell_model.proofs.Counting.{cleared-is}
use Rattle.shell_model.proofs.Making.{stepped}
use Rattle.shell_model.proofs.Undoing.{sound-distinct}
use Rattle.shell_model.proofs.Preserving.{sound-next}
use Rattle.shell_laws.specs.Capacity.{Holder, tasks_applied}

-- What a step keeps, for any two numbers: the one and the window are at most the other and the tasks applied. And the
-- tasks applied grow.

abbrev pub IsWithin : Config → ℕ → ℕ → ℕ → Shell → Type 0
IsWithin c more bound least x = (x.config ≡ c) × (more + length x.queues.window ≤ bound + tasks_applied x.holder) × (least ≤ tasks_applied x.holder)

-- a hit leaves the window no longer

recent-window : (o : Option Item) (q : Queues) → length (with_recent o Probation q).window ≤ length q.window
recent-window None q = omega arith
recent-window (Some d) q = omega (arith, length-without d q.window)

hit-window : (size : ℕ) (i : Item) (p : Option Queue) (q : Queues) → Stands i q p → length (hit_in size i p q).window ≤ length q.window
hit-window size i p q (nowhere e f g) = omega arith
hit-window size i p q (in_window e f g) = omega (arith, e, length-without i q.window, length-append (items_without i q.window) (i ∷ []))
hit-window size i p q (in_protected e f g) = omega (arith, length-without i q.window)
hit-window size i p q (in_probation e f g) =
    let r : Queues = queues_after_move i Protected q in
    let less : length (items_without i q.window) ≤ length q.window = omega (arith, length-without i q.window) in
    let more = recent-window (oldest_of r.protected) r in
    cond_both (nat_lt size (length r.protected)) (with_recent (oldest_of r.protected) Probation r) r (λ (s : Queues). length s.window ≤ length q.window)
    (λ t. omega (arith, less, more)) (λ t. less)

after-window : (size : ℕ) (i : Item) (q : Queues) → IsDistinct q → length (after_hit size i q).window ≤ length q.window
after-window size i q u = hit-window size i (queue_holding i q) q (stands i q u)

same-tasks : (p : Phase) (o : Option Holder) → tasks_applied (holder_in_phase p o) ≡ tasks_applied o
same-tasks p None = refl
same-tasks p (Some h) = refl

task-more : (o : Option Holder) (h : Holder) → o ≡ Some h → 1 ≤ h.left → IsLeft o → tasks_applied (holder_after_task o) ≡ tasks_applied o + 1
task-more o h e some few = rw e (let most : h.left ≤ 128 = rw e at few in omega (arith, some, most))

-- whether the reply takes or gives back the maintenance
abbrev pub is_turn : Reply → Bool
is_turn reply.Began = true
is_turn reply.Idle = true
is_turn reply.Again = true
is_turn r = false

module _ (c : Config) (more bound least : ℕ) where
  abbrev Within : Shell → Type 0
  Within x = IsWithin c more bound least x

  passed-within : (p : Phase) (x : Shell) → Within x → Within (in_phase p x)
  passed-within p x v = rw (same-tasks p x.holder) v

  leave-within : (v : Item) (x : Shell) → Within x → Within (leave v x)
  leave-within v x h = (h.0, omega (arith, h.1, length-without v x.queues.window), h.2)

  shift-within : (d : Item) (x : Shell) → Within x → Within (shift_effect d x)
  shift-within d x h = (h.0, omega (arith, h.1, length-without d x.queues.window), h.2)

  pub made-within : (x : Shell) (w : ℕ) (b : Act) (r : Reply) (y : Shell) → Makes w x b r y → is_turn r ≡ false → IsConsistent x → Within x → Within y
  made-within x w b r y (k.began e) t s v = absurd (cc t)
  made-within x w b r y (k.idle h d f o e) t s v = absurd (cc t)
  made-within x w b r y (k.again h d f o e) t s v = absurd (cc t)
  made-within x w b r y (k.drained n i rest f e) t s v = let less = after-window (shell_protected_size x.config) i x.queues (sound-distinct x s) in (v.0, omega (arith, less, v.1), v.2)
  made-within x w b r y (k.write_empty h f e) t s v = passed-within Writes x v
  made-within x w b r y (k.enough h u rest f e l) t s v = passed-within Writes x v
  made-within x w b r y (k.applied_add h i rest f e l) t s v =
      let up = task-more x.holder h f.holds.is l s.left in
      (v.0, omega (arith, v.1, up, length-append x.queues.window (i ∷ [])), omega (arith, v.2, up))
  made-within x w b r y (k.applied_update h i rest f e l) t s v =
      let up = task-more x.holder h f.holds.is l s.left in
      let less = after-window (shell_protected_size x.config) i x.queues (sound-distinct x s) in
      (v.0, omega (arith, v.1, up, less), omega (arith, v.2, up))
  made-within x w b r y (k.applied_remove h i rest f e l) t s v =
      let up = task-more x.holder h f.holds.is l s.left in
      rw (cleared-is i x.queues (sound-distinct x s)) (v.0, omega (arith, v.1, up, length-without i x.queues.window), omega (arith, v.2, up))
  made-within x w b r y (k.fits h f o) t s v = passed-within Evictions x v
  made-within x w b r y (k.shifted h d f o i) t s v = shift-within d (in_phase Evictions x) (passed-within Evictions x v)
  made-within x w b r y (k.evicted h d u f o i n g) t s v = leave-within u (shift_effect d (in_phase Evictions x)) (shift-within d (in_phase Evictions x) (passed-within Evictions x v))
  made-within x w b r y (k.rejected h d u f o i n) t s v = leave-within d (shift_effect d (in_phase Evictions x)) (shift-within d (in_phase Evictions x) (passed-within Evictions x v))
  made-within x w b r y made t s v = v

-- the window passes its size by no more than the tasks applied: Begin finds it within, and End leaves it so

abbrev pub IsWindowed : Shell → Type 0
IsWindowed x = length x.queues.window ≤ window_size x.config + tasks_applied x.holder

end-windowed : (x : Shell) → is_over x ≡ false → length x.queues.window ≤ window_size x.config + 0
end-windowed x o = let fits : length x.queues.window ≤ window_size x.config = ltb-false (window_size x.config) (length x.queues.window) o in omega (arith, fits)

from-within : (c : Config) (x : Shell) → IsWithin c 0 (window_size c) 0 x → IsWindowed x
from-within c x v = let size : window_size x.config ≡ window_size c = ap window_size v.0 in let most = v.1 in omega (arith, size, most)

made-windowed : (x : Shell) (w : ℕ) (b : Act) (r : Reply) (y : Shell) → Makes w x b r y → IsConsistent x → IsWindowed x → IsWindowed y
made-windowed x w b r y (k.began e) s v = let u = rw e at v in omega (arith, u)
made-windowed x w b r y (k.idle h d f o e) s v = end-windowed x o
made-windowed x w b r y (k.again h d f o e) s v = end-windowed x o
made-windowed x w b r y made s v = from-within x.config y (made-within x.config 0 (window_size x.config) 0 x w b r y made refl s (refl, omega (arith, v), omega arith))

pub after-windowed : (x : Shell) (es : List MadeStep) → IsConsistent x → IsWindowed x → IsLegal act x es → IsWindowed (data_after act x es)
after-windowed x [] c v l = v
after-windowed x (e ∷ es) c v l =
    let y : Shell = next_data (act x e.step) x in
    let t : Steps x e y = stepped x e y l.0 in
    let fits : IsWindowed t.left = made-windowed x e.step.worker e.step.act e.reply t.left t.made c v in
    after-windowed y es (sound-next x e y c l.0) (subst IsWindowed (sym t.is) fits) l.1
