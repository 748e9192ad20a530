-- A full cache, and as many additions as one maintenance applies.
use Rattle.std.proofs.Common.{◌≡◌, ℕ, zero, suc, ◌+◌, ◌-◌, ◌*◌, ◌<◌, ◌≤◌, true, false, eqb, nat_lt, Option, Some, None, Ok, List, [], ◌∷◌, ◌++◌, length, ap, subst, ◌∙◌, sym, refl, arith, inl, inr, length-append}
use Rattle.std.proofs.lemmas.Bool.{cases_lt, cond_both, ne_eqb, lt-ltb, le-ltb}
use Rattle.engine_base.specs.Config.{config_fault}
use Rattle.engine_base.specs.declared.step.Act.TheVariants as a
use Rattle.engine_base.specs.declared.step.Reply.TheVariants as reply
use Rattle.engine_base.specs.declared.drain.Drain.TheVariants as drain
use Rattle.engine_base.specs.declared.drain.Phase.TheVariants.{Reads, Writes, Evictions}
use Rattle.segments.specs.declared.records.Queue.TheVariants.{Window, Probation}
use Rattle.segments.specs.Items.{Item, occurrences, items_without, oldest_of}
use Rattle.segments.specs.Queues.{Queues, queues_after_move, queues_after_push, total_items, IsDistinct}
use Rattle.segments.proofs.QueueLists.{length-without}
use Rattle.admission.specs.Shape.{Shape}
use Rattle.shell_model.specs.declared.task.Task.TheVariants.{Add, Update, Remove}
use Rattle.shell_model.specs.Frequency.{frequency_recorded}
use Rattle.replacement.specs.Rules.{Config, three_queues}
use Rattle.replacement.specs.Plan.{candidate_of}
use Rattle.replacement.specs.Table.{kept_in}
use Rattle.shell_model.specs.declared.task.Task.{Task}
use Rattle.shell_model.specs.ShellState.{Phase, holder_in_phase}
use Rattle.shell_model.specs.Changes.{shell_eviction}
use Rattle.shell_model.proofs.Making.{evict-is}
use Rattle.shell_model.specs.Shell.{Reply, Step, Act, Shell, held_by, in_phase, evicted_by, node_of, table_with, window_size, drain_at_end, may_write, act_effect, counted_up, act}
use Rattle.shell_model.specs.Laws.{IsShapeOf, empty_shell}
use Rattle.shell_model.specs.ReachableShell.{IsReachable}
use Rattle.shell_model.proofs.Undoing.{sound-distinct, first-queued}
use Rattle.shell_model.proofs.Reached.{reached-sound, reached-on}
use Rattle.shell_laws.specs.Capacity.{Holder, tasks_applied, items_added, items_removed, IsNearCapacity}
use Rattle.shell_laws.specs.Sharpness.{IsBoundReached, SharpnessLaw}
use Rattle.shell_laws.proofs.Capacity.{checked-sizes, near-capacity}

-- all keys are below k, so k is new

abbrev AreUnder : ℕ → List Item → Type 0
AreUnder k [] = Unit {0}
AreUnder k (x ∷ t) = (x.key < k) × AreUnder k t

under-none : (k : ℕ) (t : List Item) → AreUnder k t → node_of k t ≡ None
under-none k [] u = refl
under-none k (x ∷ t) u =
    let apart : eqb k x.key ≡ false = ne_eqb k x.key (λ e. omega (arith, u.0, e)) in
    rw apart (under-none k t u.1)

under-more : (k : ℕ) (t : List Item) → AreUnder k t → AreUnder (suc k) t
under-more k [] u = tt
under-more k (x ∷ t) u = (omega (arith, u.0), under-more k t u.1)

under-with : (k : ℕ) (i : Item) (t : List Item) → i.key ≡ k → AreUnder k t → AreUnder (suc k) (table_with i t)
under-with k i [] e u = (omega (arith, e), tt)
under-with k i (x ∷ t) e u =
    cond_both (nat_lt i.key x.key) (i ∷ x ∷ t) (x ∷ table_with i t) (AreUnder (suc k))
    (λ f. (omega (arith, e), under-more k (x ∷ t) u))
    (λ f. (omega (arith, u.0), under-with k i t e u.1))

-- only additions wait

abbrev AreAdds : List Task → Type 0
AreAdds [] = Unit {0}
AreAdds (Add i ∷ ts) = AreAdds ts
AreAdds (Update i ∷ ts) = ⊥
AreAdds (Remove i ∷ ts) = ⊥

adds-push : (ts : List Task) (i : Item) → AreAdds ts → AreAdds (ts ++ Add i ∷ [])
adds-push [] i w = tt
adds-push (Add j ∷ ts) i w = adds-push ts i w
adds-push (Update j ∷ ts) i w = w
adds-push (Remove j ∷ ts) i w = w

adds-added : (ts : List Task) → AreAdds ts → length (items_added ts) ≡ length ts
adds-added [] w = refl
adds-added (Add j ∷ ts) w = ap suc (adds-added ts w)
adds-added (Update j ∷ ts) w = absurd w
adds-added (Remove j ∷ ts) w = absurd w

adds-removed : (ts : List Task) → AreAdds ts → length (items_removed ts) ≡ 0
adds-removed [] w = refl
adds-removed (Add j ∷ ts) w = adds-removed ts w
adds-removed (Update j ∷ ts) w = absurd w
adds-removed (Remove j ∷ ts) w = absurd w

-- what is known of a state on the way: keys below k, at most b steps, the tasks ts, the holder and how many items
record IsOnTheWay (c : Config) (k b : ℕ) (ts : List Task) (h : Option Holder) (n : ℕ) (x : Shell) : Type 0 where
  reached : IsReachable x
  config : x.config ≡ c
  writes : x.writes ≡ ts
  holder : x.holder ≡ h
  total : total_items x.queues ≡ n
  under : AreUnder k x.table
  applied : x.applied ≤ b

abbrev step_of : Act → Step
step_of b = record { worker = 0; act = b }

acted : (x z : Shell) (b : Act) (r : Reply) → x.applied < 4294967296 → act_effect 0 b x ≡ Some (r, z) → act x (step_of b) ≡ Some (r, counted_up r z)
acted x z b r few e = let t : nat_lt x.applied 4294967296 ≡ true = lt-ltb x.applied 4294967296 few in rw (t, e) refl

module _ (c : Config) where
  abbrev Leads : ℕ → ℕ → List Task → Option Holder → ℕ → Type 0
  Leads k b ts h n = (y : Shell) × IsOnTheWay c k b ts h n y

  -- the steps

  put-leads : (k b n : ℕ) (ts : List Task) (h : Option Holder) (x : Shell) → IsOnTheWay c k b ts h n x → b < 4294967296 → length ts < 128 → (i : Item) × Leads (suc k) (suc b) (ts ++ Add i ∷ []) h n
  put-leads k b n ts h x at few short =
      let i : Item = record { key = k; node = x.next } in
      let z : Shell = record x { table = table_with record { key = k; node = x.next } x.table; next = x.next + 1; writes = x.writes ++ Add record { key = k; node = x.next } ∷ [] } in
      let room : nat_lt (length x.writes) 128 ≡ true = lt-ltb (length x.writes) 128 (let l = ap length at.writes in omega (arith, l, short)) in
      let new : node_of k x.table ≡ None = under-none k x.table at.under in
      let e : act x (step_of (a.Put k)) ≡ Some (reply.Added x.next, counted_up (reply.Added x.next) z) = acted x z (a.Put k) (reply.Added x.next) (omega (arith, at.applied, few)) (rw (room, new) refl) in (
        i,
        (
          counted_up (reply.Added x.next) z,
          record {
            reached = reached-on x (counted_up (reply.Added x.next) z) (step_of (a.Put k)) (reply.Added x.next) at.reached e;
            config = at.config;
            writes = ap (λ us. us ++ Add i ∷ []) at.writes;
            holder = at.holder;
            total = at.total;
            under = under-with k i x.table refl at.under;
            applied = omega (arith, at.applied);
          },
        ),
      )

  begin-leads : (k b n : ℕ) (ts : List Task) (x : Shell) → IsOnTheWay c k b ts None n x → b < 4294967296 → Leads k (suc b) ts (Some record { worker = 0; phase = Reads; left = 128 }) n
  begin-leads k b n ts x at few =
      let z : Shell = record x { drain = drain.ToIdle; holder = Some record { worker = 0; phase = Reads; left = 128 } } in
      let e : act x (step_of a.Begin) ≡ Some (reply.Began, counted_up reply.Began z) = acted x z a.Begin reply.Began (omega (arith, at.applied, few)) (rw (at.holder) refl) in (
        counted_up reply.Began z,
        record {
          reached = reached-on x (counted_up reply.Began z) (step_of a.Begin) reply.Began at.reached e;
          config = at.config;
          writes = at.writes;
          holder = refl;
          total = at.total;
          under = at.under;
          applied = omega (arith, at.applied);
        },
      )

  drain-leads : (k b n l : ℕ) (i : Item) (ts : List Task) (p : Phase) (x : Shell) → may_write p ≡ true → IsOnTheWay c k b (Add i ∷ ts) (Some record { worker = 0; phase = p; left = suc l }) n x → b < 4294967296
      → Leads k (suc b) ts (Some record { worker = 0; phase = Writes; left = l }) (suc n)
  drain-leads k b n l i ts p x may at few =
      let z : Shell = record x { writes = ts; holder = Some record { worker = 0; phase = Writes; left = suc l - 1 }; frequency = frequency_recorded x.frequency i.key; queues = queues_after_push Window i x.queues } in
      let some : eqb (suc l) 0 ≡ false = ne_eqb (suc l) 0 (λ f. omega (arith, f)) in
      let e : act x (step_of a.DrainWrite) ≡ Some (reply.Applied i, counted_up (reply.Applied i) z) = acted x z a.DrainWrite (reply.Applied i) (omega (arith, at.applied, few)) (rw (at.holder, may, at.writes, some) refl) in (
        counted_up (reply.Applied i) z,
        record {
          reached = reached-on x (counted_up (reply.Applied i) z) (step_of a.DrainWrite) (reply.Applied i) at.reached e;
          config = at.config;
          writes = refl;
          holder = (let less : suc l - 1 ≡ l = omega arith in rw less refl);
          total = omega (arith, at.total, length-append x.queues.window (i ∷ []));
          under = at.under;
          applied = omega (arith, at.applied);
        },
      )

  end-leads : (k b n : ℕ) (ts : List Task) (p : Phase) (l : ℕ) (x : Shell) → IsOnTheWay c k b ts (Some record { worker = 0; phase = p; left = l }) n x → b < 4294967296 → length x.queues.window ≤ window_size x.config → Leads k (suc b) ts None n
  end-leads k b n ts p l x at few fits =
      let z : Shell = record x { drain = (drain_at_end x.drain).1; holder = None } in
      let r : Reply = (drain_at_end x.drain).0 in
      let over : nat_lt (window_size x.config) (length x.queues.window) ≡ false = le-ltb (window_size x.config) (length x.queues.window) fits in
      let e : act x (step_of a.End) ≡ Some (r, counted_up r z) = acted x z a.End r (omega (arith, at.applied, few)) (rw (at.holder, over) refl) in (
        counted_up r z,
        record {
          reached = reached-on x (counted_up r z) (step_of a.End) r at.reached e;
          config = at.config;
          writes = at.writes;
          holder = refl;
          total = at.total;
          under = at.under;
          applied = omega (arith, at.applied);
        },
      )

  some-oldest : (l : List Item) → 1 ≤ length l → (i : Item) × (oldest_of l ≡ Some i)
  some-oldest [] h = absurd (omega (arith, h))
  some-oldest (x ∷ l) h = (x, refl)

  moved-total : (i : Item) (q : Queues) → IsDistinct q → 1 ≤ occurrences i q.window
      → (length q.window ≡ length (items_without i q.window) + 1) × (total_items (queues_after_move i Probation q) ≡ total_items q)
  moved-total i q d h =
      let once = d i in
      let w = length-without i q.window in
      let p = length-without i q.probation in
      let t = length-without i q.protected in
      let more = length-append (items_without i q.probation) (i ∷ []) in
      (omega (arith, h, once, w), omega (arith, h, once, w, p, t, more))

  shifts : (p : Phase) (l : ℕ) (i : Item) (x : Shell) → x.holder ≡ Some record { worker = 0; phase = p; left = l } → nat_lt (window_size x.config) (length x.queues.window) ≡ true → oldest_of x.queues.window ≡ Some i
      → nat_lt x.config.capacity (total_items (queues_after_move i Probation x.queues)) ≡ false
      → act_effect 0 a.Evict x ≡ Some (reply.Shifted i, record x { queues = queues_after_move i Probation x.queues; holder = Some record { worker = 0; phase = Evictions; left = l } })
  shifts p l i x held over oldest fits =
      let mine : held_by 0 x.holder ≡ Some record { worker = 0; phase = p; left = l } = rw held refl in
      let one : candidate_of (three_queues x.config) x.queues ≡ Some i = rw (over, oldest) refl in
      let none : shell_eviction x ≡ kept_in (queues_after_move i Probation x.queues) = rw (over, oldest, fits) refl in
      let now : holder_in_phase Evictions x.holder ≡ Some record { worker = 0; phase = Evictions; left = l } = rw held refl in
      evict-is 0 record { worker = 0; phase = p; left = l } x mine
      ∙ ap (λ o. Some (evicted_by o (shell_eviction x) (in_phase Evictions x))) one
      ∙ ap (λ r. Some (evicted_by (Some i) r (in_phase Evictions x))) none
      ∙ ap (λ h. Some (reply.Shifted i, record x { queues = queues_after_move i Probation x.queues; holder = h })) now

  evict-leads : (k b n : ℕ) (ts : List Task) (p : Phase) (l : ℕ) (x : Shell) → IsOnTheWay c k b ts (Some record { worker = 0; phase = p; left = l }) n x → b < 4294967296 → window_size x.config < length x.queues.window → n ≤ c.capacity
      → (y : Shell) × IsOnTheWay c k (suc b) ts (Some record { worker = 0; phase = Evictions; left = l }) n y × (length x.queues.window ≡ length y.queues.window + 1)
  evict-leads k b n ts p l x at few above room =
      let o = some-oldest x.queues.window (omega (arith, above)) in
      let i : Item = o.0 in
      let m = moved-total o.0 x.queues (sound-distinct x (reached-sound x at.reached)) (first-queued o.0 x.queues.window o.1) in
      let z : Shell = record x { queues = queues_after_move o.0 Probation x.queues; holder = Some record { worker = 0; phase = Evictions; left = l } } in
      let over : nat_lt (window_size x.config) (length x.queues.window) ≡ true = lt-ltb (window_size x.config) (length x.queues.window) above in
      let fits : nat_lt x.config.capacity (total_items (queues_after_move o.0 Probation x.queues)) ≡ false = le-ltb x.config.capacity (total_items (queues_after_move o.0 Probation x.queues)) (let s = ap (λ (d : Config). d.capacity) at.config in let t = at.total in omega (arith, m.1, room, s, t)) in
      let e : act x (step_of a.Evict) ≡ Some (reply.Shifted o.0, counted_up (reply.Shifted o.0) z) = acted x z a.Evict (reply.Shifted o.0) (omega (arith, at.applied, few)) (shifts p l o.0 x at.holder over o.1 fits) in (
        counted_up (reply.Shifted o.0) z,
        record {
          reached = reached-on x (counted_up (reply.Shifted o.0) z) (step_of a.Evict) (reply.Shifted o.0) at.reached e;
          config = at.config;
          writes = at.writes;
          holder = refl;
          total = m.1 ∙ at.total;
          under = at.under;
          applied = omega (arith, at.applied);
        },
        m.0,
      )

  weaker : (k b d n : ℕ) (ts : List Task) (h : Option Holder) (x : Shell) → b ≤ d → IsOnTheWay c k b ts h n x → IsOnTheWay c k d ts h n x
  weaker k b d n ts h x few at = record { reached = at.reached; config = at.config; writes = at.writes; holder = at.holder; total = at.total; under = at.under; applied = omega (arith, at.applied, few) }

  -- the maintenance of one addition ends, where the cache is not over its capacity: at most one item is moved on
  settle : (k b m : ℕ) (x : Shell) → IsOnTheWay c k b [] (Some record { worker = 0; phase = Writes; left = 127 }) m x → m ≤ c.capacity → b + 2 < 4294967296 → Leads k (b + 2) [] None m
  settle k b m x at room few =
      let near : IsNearCapacity x = near-capacity x at.reached in
      let one : tasks_applied x.holder ≡ 1 = ap tasks_applied at.holder in
      let window = near.window in
      elim (cases_lt (window_size x.config) (length x.queues.window)) [
        | inl above ↦
            let shifted = evict-leads k b m [] Writes 127 x at (omega (arith, few)) above room in
            let size : window_size shifted.0.config ≡ window_size x.config = ap window_size (shifted.1.config ∙ sym at.config) in
            let less = shifted.2 in
            let ended = end-leads k (suc b) m [] Evictions 127 shifted.0 shifted.1 (omega (arith, few)) (omega (arith, window, one, size, less)) in
            (ended.0, weaker k (suc (suc b)) (b + 2) m [] None ended.0 (omega arith) ended.1)
        | inr within ↦
            let ended = end-leads k b m [] Writes 127 x at (omega (arith, few)) within in
            (ended.0, weaker k (suc b) (b + 2) m [] None ended.0 (omega arith) ended.1)
      ]

  -- one item more in a cache that is not full: an addition and its maintenance
  fill-one : (k b m : ℕ) (x : Shell) → IsOnTheWay c k b [] None m x → suc m ≤ c.capacity → b + 5 < 4294967296 → Leads (suc k) (b + 5) [] None (suc m)
  fill-one k b m x at room few =
      let put = put-leads k b m [] None x at (omega (arith, few)) (omega arith) in
      let began = begin-leads (suc k) (suc b) m (Add put.0 ∷ []) put.1.0 put.1.1 (omega (arith, few)) in
      let made = drain-leads (suc k) (suc (suc b)) m 127 put.0 [] Reads began.0 refl began.1 (omega (arith, few)) in
      let ended = settle (suc k) (suc (suc (suc b))) (suc m) made.0 made.1 room (omega (arith, few)) in
      (ended.0, weaker (suc k) (suc (suc (suc b)) + 2) (b + 5) (suc m) [] None ended.0 (omega arith) ended.1)

  module _ (s : Shape) (checked : config_fault c ≡ Ok tt) (shape_is : IsShapeOf c s) (large : c.capacity ≤ 1048576) where
    fill : (m : ℕ) → m ≤ c.capacity → Leads m (5 * m) [] None m
    fill zero room = (
      empty_shell c s,
      record {
        reached = record { checked = checked; shape = s; shape_is = shape_is; entries = []; legal = tt; gives = refl };
        config = refl;
        writes = refl;
        holder = refl;
        total = refl;
        under = tt;
        applied = omega arith;
      },
    )
    fill (suc m) room =
        let before = fill m (omega (arith, room)) in
        let after = fill-one m (5 * m) m before.0 before.1 room (omega (arith, room, large)) in
        (after.0, weaker (suc m) (5 * m + 5) (5 * suc m) (suc m) [] None after.0 (omega arith) after.1)

  -- additions that wait
  record IsFilled (h : Option Holder) (t b l : ℕ) : Type 0 where
    k : ℕ
    tasks : List Task
    state : Shell
    at : IsOnTheWay c k b tasks h t state
    adds : AreAdds tasks
    long : length tasks ≡ l

  puts : (n k b d t : ℕ) (ts : List Task) (h : Option Holder) (x : Shell) → IsOnTheWay c k b ts h t x → AreAdds ts → length ts + n ≤ 128 → b + n ≤ d → d < 4294967296 → IsFilled h t d (length ts + n)
  puts zero k b d t ts h x at adds short steps few = record { k = k; tasks = ts; state = x; at = weaker k b d t ts h x (omega (arith, steps)) at; adds = adds; long = omega arith }
  puts (suc n) k b d t ts h x at adds short steps few =
      let put = put-leads k b t ts h x at (omega (arith, steps, few)) (omega (arith, short)) in
      let more : length (ts ++ Add put.0 ∷ []) ≡ length ts + 1 = length-append ts (Add put.0 ∷ []) in
      let rest : IsFilled h t d (length (ts ++ Add put.0 ∷ []) + n) = puts n (suc k) (suc b) d t (ts ++ Add put.0 ∷ []) h put.1.0 put.1.1 (adds-push ts put.0 adds) (omega (arith, short, more)) (omega (arith, steps)) few in
      let same : length (ts ++ Add put.0 ∷ []) + n ≡ length ts + suc n = omega (arith, more) in
      subst (IsFilled h t d) same rest

  -- and are applied
  drains : (ts : List Task) (k b d t l : ℕ) (p : Phase) (x : Shell) → may_write p ≡ true → AreAdds ts → IsOnTheWay c k b ts (Some record { worker = 0; phase = p; left = length ts + l }) t x → b + length ts ≤ d → d < 4294967296
      → (q : Phase) × Leads k d [] (Some record { worker = 0; phase = q; left = l }) (t + length ts)
  drains [] k b d t l p x may adds at steps few =
      let none : 0 + l ≡ l = omega arith in
      let same : t ≡ t + 0 = omega arith in
      (p, (x, record { reached = at.reached; config = at.config; writes = at.writes; holder = at.holder ∙ rw none refl; total = at.total ∙ same; under = at.under; applied = omega (arith, at.applied, steps) }))
  drains (Add i ∷ ts) k b d t l p x may adds at steps few =
      let one : suc (length ts) + l ≡ suc (length ts + l) = omega arith in
      let now = subst (λ (n : ℕ). IsOnTheWay c k b (Add i ∷ ts) (Some record { worker = 0; phase = p; left = n }) t x) one at in
      let made = drain-leads k b t (length ts + l) i ts p x may now (omega (arith, steps, few)) in
      let rest = drains ts k (suc b) d (suc t) l Writes made.0 refl adds made.1 (omega (arith, steps)) few in
      let same : suc t + length ts ≡ t + suc (length ts) = omega arith in
      (rest.0, subst (λ (n : ℕ). Leads k d [] (Some record { worker = 0; phase = rest.0; left = l }) n) same rest.1)
  drains (Update i ∷ ts) k b d t l p x may adds at steps few = absurd adds
  drains (Remove i ∷ ts) k b d t l p x may adds at steps few = absurd adds

  -- a maintenance begins, and applies all that waits
  apply-all : (k b d t n : ℕ) (ts : List Task) (x : Shell) → IsOnTheWay c k b ts None t x → AreAdds ts → length ts ≡ n → n ≤ 128 → suc b + n ≤ d → d < 4294967296 → (q : Phase) × Leads k d [] (Some record { worker = 0; phase = q; left = 128 - n }) (t + n)
  apply-all k b d t n ts x at adds long many steps few =
      let began = begin-leads k b t ts x at (omega (arith, steps, few)) in
      let all : 128 ≡ length ts + (128 - n) = omega (arith, long, many) in
      let now = subst (λ (l : ℕ). IsOnTheWay c k (suc b) ts (Some record { worker = 0; phase = Reads; left = l }) t began.0) all began.1 in
      let made = drains ts k (suc b) d t (128 - n) Reads began.0 refl adds now (omega (arith, long, steps)) few in
      (made.0, subst (λ (m : ℕ). Leads k d [] (Some record { worker = 0; phase = made.0; left = 128 - n }) (t + m)) long made.1)

  bound-reached : (n d : ℕ) (q : Phase) → n ≤ 128 → IsFilled (Some record { worker = 0; phase = q; left = 128 - n }) (c.capacity + n) d 128 → IsBoundReached c n
  bound-reached n d q many f =
      let x : Shell = f.state in
      let at : IsOnTheWay c f.k d f.tasks (Some record { worker = 0; phase = q; left = 128 - n }) (c.capacity + n) f.state = f.at in
      let near : IsNearCapacity f.state = near-capacity f.state at.reached in
      let waiting : List Task → ℕ = λ ts. length (items_added ts) in
      let leaving : List Task → ℕ = λ ts. length (items_removed ts) in
      let added : length (items_added x.writes) ≡ 128 = ap waiting at.writes ∙ adds-added f.tasks f.adds ∙ f.long in
      let removed : length (items_removed x.writes) ≡ 0 = ap leaving at.writes ∙ adds-removed f.tasks f.adds in
      let left : 128 - (128 - n) ≡ n = omega (arith, many) in
      record {
        state = x;
        reached = at.reached;
        config = at.config;
        applied = ap tasks_applied at.holder ∙ left;
        items = at.total;
        keys = (let k = near.keys in let q = near.queued in let items = at.total in omega (arith, k, q, items, added, removed));
      }

  -- a full cache, n additions, their maintenance, and as many more as may wait
  bound-from : (k b n : ℕ) (x : Shell) → IsOnTheWay c k b [] None c.capacity x → n ≤ 128 → b + 512 < 4294967296 → IsBoundReached c n
  bound-from k b n x full many few =
      let waiting = puts n k b (b + n) c.capacity [] None x full tt (omega (arith, many)) (omega arith) (omega (arith, many, few)) in
      let long : length waiting.tasks ≡ n = waiting.long ∙ omega arith in
      let made = apply-all waiting.k (b + n) (suc (b + n) + n) c.capacity n waiting.tasks waiting.state waiting.at waiting.adds long many (omega arith) (omega (arith, many, few)) in
      bound-reached n (suc (b + n) + n + 128) made.0 many
      (puts 128 waiting.k (suc (b + n) + n) (suc (b + n) + n + 128) (c.capacity + n) [] (Some record { worker = 0; phase = made.0; left = 128 - n }) made.1.0 made.1.1 tt (omega arith) (omega arith) (omega (arith, many, few)))

pub sharpness : SharpnessLaw
sharpness c s n checked shape_is many =
    let large : c.capacity ≤ 1048576 = (checked-sizes c checked).0 in
    let full = fill c s checked shape_is large c.capacity (omega arith) in
    bound-from c c.capacity (5 * c.capacity) n full.0 full.1 many (omega (arith, large))
