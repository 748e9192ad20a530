-- The bounds of queues and table.
use Rattle.std.proofs.Common.{◌≡◌, ◌+◌, ◌*◌, ◌≤◌, Option, Some, None, Ok, List, ◌++◌, length, ap, subst, sym, arith, inl, inr, length-append}
use Rattle.std.proofs.lemmas.Bool.{cases_Bool, and_parts}
use Rattle.std.proofs.lemmas.Bool.Decides.{nat_tests}
use Rattle.std.proofs.lemmas.Nat.{mul-le}
use Rattle.std.specs.Prelude.{nat_le}
use Rattle.engine_base.specs.Config.{config_fault, is_from_one}
use Rattle.engine_base.specs.declared.limits.TheConstants.{MAX_CAPACITY, MAX_MAIN_PERCENT}
use Rattle.segments.specs.Items.{Item, occurrences}
use Rattle.segments.specs.Queues.{Queues, total_items}
use Rattle.segments.proofs.QueueLists.{times-append}
use Rattle.replacement.specs.Rules.{Config, main_size}
use Rattle.shell_model.specs.declared.task.Task.{Task}
use Rattle.shell_model.specs.Shell.{Shell, window_size}
use Rattle.replacement.specs.Counts.{queue_occurrences}
use Rattle.shell_model.specs.Consistency.{IsConsistent, waiting_adds}
use Rattle.shell_model.specs.Laws.{empty_shell}
use Rattle.shell_model.specs.ReachableShell.{IsReachable}
use Rattle.shell_model.proofs.Holding.{opened-sound}
use Rattle.shell_model.proofs.Reached.{reached-sound}
use Rattle.shell_laws.specs.Capacity.{Holder, tasks_applied, items_added, items_removed, CapacityLaw}
use Rattle.shell_laws.proofs.Lists.{no-longer, times-added, times-removed, few-added}
use Rattle.shell_laws.proofs.Windows.{IsWindowed, after-windowed}

-- a valid configuration: its capacity is within the limit, and its main part within its capacity

pub checked-sizes : (c : Config) → config_fault c ≡ Ok tt → (c.capacity ≤ 1048576) × (c.main_percent ≤ 99)
checked-sizes c h =
    elim (cases_Bool (is_from_one MAX_CAPACITY c.capacity)) [
      | inr e ↦ absurd (let no = rw e at h in cc no)
      | inl e ↦ (let a = rw e at h in elim (cases_Bool (nat_le c.main_percent MAX_MAIN_PERCENT)) [
        | inr f ↦ absurd (let no = rw f at a in cc no)
        | inl f ↦ (let few = (and_parts (nat_le 1 c.capacity) (nat_le c.capacity MAX_CAPACITY) e).1 in (grind (arith, nat_tests, few), grind (arith, nat_tests, f)))
      ])
    ]

main-fits : (c : Config) → config_fault c ≡ Ok tt → main_size c ≤ c.capacity
main-fits c h = let m : c.capacity * c.main_percent ≤ c.capacity * 99 = mul-le c.capacity c.main_percent c.capacity 99 (omega arith) (checked-sizes c h).1 in omega (arith, m)

reached-windowed : (x : Shell) → IsReachable x → IsWindowed x
reached-windowed x r = subst IsWindowed (sym r.gives) (after-windowed (empty_shell x.config r.shape) r.entries (opened-sound x.config r.shape r.shape_is) (omega arith) r.legal)

-- the items of the queues, and behind them those whose addition waits
all-queued : Queues → List Task → List Item
all-queued q ts = q.window ++ (q.probation ++ (q.protected ++ items_added ts))

all-length : (q : Queues) (ts : List Task) → length (all-queued q ts) ≡ total_items q + length (items_added ts)
unfolding all-queued
all-length q ts = omega (arith, length-append q.window (q.probation ++ (q.protected ++ items_added ts)), length-append q.probation (q.protected ++ items_added ts), length-append q.protected (items_added ts))

all-times : (i : Item) (q : Queues) (ts : List Task) → occurrences i (all-queued q ts) ≡ queue_occurrences i q + waiting_adds i ts
unfolding all-queued
all-times i q ts = omega (arith, times-append i q.window (q.probation ++ (q.protected ++ items_added ts)), times-append i q.probation (q.protected ++ items_added ts), times-append i q.protected (items_added ts), times-added i ts)

module _ (x : Shell) (v : IsConsistent x) where
  -- what is in the table is queued or waits
  keys-few : length x.table ≤ total_items x.queues + length (items_added x.writes)
  keys-few =
      let n = no-longer x.table (all-queued x.queues x.writes)
      (λ i. let o = v.placed.once i in omega (arith, o))
      (λ i. let s = v.placed.stands i in omega (arith, s, all-times i x.queues x.writes)) in
      omega (arith, n, all-length x.queues x.writes)

  -- what is queued or waits is in the table or is to be removed
  queued-few : total_items x.queues + length (items_added x.writes) ≤ length x.table + length (items_removed x.writes)
  queued-few =
      let n = no-longer (all-queued x.queues x.writes) (x.table ++ items_removed x.writes)
      (λ i. let k = v.placed.known i in let o = v.placed.once i in omega (arith, k, o, all-times i x.queues x.writes))
      (λ i. let k = v.placed.known i in omega (arith, k, all-times i x.queues x.writes, times-append i x.table (items_removed x.writes), times-removed i x.writes)) in
      omega (arith, n, all-length x.queues x.writes, length-append x.table (items_removed x.writes))

applied-few : (o : Option Holder) → tasks_applied o ≤ 128
applied-few None = omega arith
applied-few (Some h) = omega arith

pub near-capacity : CapacityLaw
near-capacity x r =
    let v : IsConsistent x = reached-sound x r in
    let window : length x.queues.window ≤ window_size x.config + tasks_applied x.holder = reached-windowed x r in
    let main : main_size x.config ≤ x.config.capacity = main-fits x.config r.checked in
    let items : total_items x.queues ≤ x.config.capacity + tasks_applied x.holder = (let parts = v.main in omega (arith, window, main, parts)) in
    let few : tasks_applied x.holder ≤ 128 = applied-few x.holder in
    let keys = keys-few x v in
    let added : length (items_added x.writes) ≤ 128 = (let short = v.writes in omega (arith, few-added x.writes, short)) in
    record {
      window = window;
      items = items;
      at_rest = λ e. let none : tasks_applied x.holder ≡ 0 = ap tasks_applied e in omega (arith, items, none);
      most_items = omega (arith, items, few);
      keys = keys;
      most_keys = omega (arith, items, few, keys, added);
      quiet_keys = λ e w.
          let none : tasks_applied x.holder ≡ 0 = ap tasks_applied e in
          let empty : length (items_added x.writes) ≡ 0 = ap (λ ts. length (items_added ts)) w in
          omega (arith, items, keys, none, empty);
      queued = queued-few x v;
    }
