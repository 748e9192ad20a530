-- No count passes the number of applied steps.
use Rattle.std.proofs.Common.{◌≡◌, ℕ, ◌+◌, ◌*◌, ◌<◌, ◌≤◌, Bool, true, false, nat_lt, Some, None, List, [], ◌∷◌, ap, ◌∙◌, refl, arith, inl, inr}
use Rattle.std.proofs.lemmas.Bool.{cases_Bool}
use Rattle.std.proofs.lemmas.Bool.Decides.{nat_tests}
use Rattle.engine_base.specs.History.{next_data, data_after, IsLegal}
use Rattle.admission.specs.Shape.{Shape, IsShape}
use Rattle.admission.specs.Frequency.{FrequencyData, frequency_of}
use Rattle.admission.proofs.Weighing.{halvings_few}
use Rattle.shell_model.specs.Frequency.{frequency_recorded}
use Rattle.shell_model.specs.declared.stats.Counted.TheVariants as counted
use Rattle.shell_model.specs.ShellStats.{Counted, ShellStats, Reply, count_of, AllCounts, shell_stats_after, raises}
use Rattle.engine_base.specs.Stats.{one_if}
use Rattle.shell_model.specs.Shell.{Step, Act, Shell, act}
use Rattle.shell_model.specs.Laws.{Config, MadeStep, IsShapeOf, empty_shell}
use Rattle.shell_model.specs.ReachableShell.{IsBounded, BoundLaw}
use Rattle.shell_model.specs.ShellSteps as k
use Rattle.shell_model.specs.ShellSteps.{Makes, Steps}
use Rattle.shell_model.proofs.Making.{stepped}
use Rattle.shell_model.proofs.Histories.{stats-step, count-raised, none-counted}

pub applied-step : (x : Shell) (w : ℕ) (b : Act) (r : Reply) (y : Shell) → Makes w x b r y → y.applied ≡ x.applied
applied-step x w b r y (k.busy h e) = refl
applied-step x w b r y made = refl

next-step : (x : Shell) (w : ℕ) (b : Act) (r : Reply) (y : Shell) → Makes w x b r y → y.next ≤ x.next + 1
next-step x w b r y (k.busy h e) = omega arith
next-step x w b r y made = omega arith

-- a key more brings one halving at most
halvings-recorded : (f : FrequencyData) (k : ℕ) → (frequency_recorded f k).halvings ≤ f.halvings + 1
unfolding frequency_recorded
halvings-recorded f k = halvings_few f k

halvings-step : (x : Shell) (w : ℕ) (b : Act) (r : Reply) (y : Shell) → Makes w x b r y → y.frequency.halvings ≤ x.frequency.halvings + 1
halvings-step x w b r y (k.drained s i rest h e) = halvings-recorded x.frequency i.key
halvings-step x w b r y (k.applied_add h i rest f e l) = halvings-recorded x.frequency i.key
halvings-step x w b r y (k.applied_update h i rest f e l) = halvings-recorded x.frequency i.key
halvings-step x w b r y made = omega arith

none : (s : Shape) → IsShape s → (frequency_of s []).halvings ≤ 0
unfolding frequency_of
none s h = let e : nat_lt 0 (10 * s.capacity) ≡ true = grind (arith, nat_tests, h.some) in rw e (omega arith)

up : (b : Bool) (m n : ℕ) → m ≤ n → m + one_if b ≤ n + 1
up true m n h = omega (arith, h)
up false m n h = omega (arith, h)

counted-most : (c : Counted) (r : Reply) (s : ShellStats) (n : ℕ) → count_of c s ≤ n → count_of c (shell_stats_after r s) ≤ n + 1
counted-most c r s n h = rw (count-raised c r s) (up (raises c r) (count_of c s) n h)

-- where p holds of every count
pub all-counts : (p : ℕ → Type 0) (s : ShellStats) → ((c : Counted) → p (count_of c s)) → (c : Counted) → AllCounts p c s
all-counts p s h counted.Nothing = tt
all-counts p s h counted.Rejected = (h counted.Evicted, h counted.Rejected)
all-counts p s h c = h c

accepted : (x : Shell) (s : Step) (p : Reply × Shell) → act x s ≡ Some p → x.applied < 4294967296
accepted x s p h =
    elim (cases_Bool (nat_lt x.applied 4294967296)) [
      | inl t ↦ grind (arith, nat_tests)
      | inr t ↦ absurd (let no : None ≡ Some p = rw t at h in cc (no))
    ]

bound-next : (x : Shell) (e : MadeStep) (z : Shell) → IsBounded x → act x e.step ≡ Some (e.reply, z) → IsBounded z
bound-next x e z v h =
    let s : Steps x e z = stepped x e z h in
    let n : z.next ≡ s.left.next = ap (λ (y : Shell). y.next) s.is in
    let m : s.left.next ≤ x.next + 1 = next-step x e.step.worker e.step.act e.reply s.left s.made in
    let t : z.applied ≡ s.left.applied + 1 = ap (λ (y : Shell). y.applied) s.is in
    let u : s.left.applied ≡ x.applied = applied-step x e.step.worker e.step.act e.reply s.left s.made in
    let w : z.applied ≡ x.applied + 1 = t ∙ ap (λ i. i + 1) u in
    let c : z.stats ≡ shell_stats_after e.reply s.left.stats = ap (λ (y : Shell). y.stats) s.is in
    let d : z.stats ≡ shell_stats_after e.reply x.stats = c ∙ ap (shell_stats_after e.reply) (stats-step x e.step.worker e.step.act e.reply s.left s.made) in
    let few : x.applied < 4294967296 = accepted x e.step (e.reply, z) h in
    let g : z.frequency.halvings ≡ s.left.frequency.halvings = ap (λ (y : Shell). y.frequency.halvings) s.is in
    let j : s.left.frequency.halvings ≤ x.frequency.halvings + 1 = halvings-step x e.step.worker e.step.act e.reply s.left s.made in
    record {
      next = omega (arith, n, m, w, v.next);
      halvings = omega (arith, g, j, w, v.halvings);
      counts = λ k. rw (w, d) (counted-most k e.reply x.stats x.applied (v.counts k));
      applied = omega (arith, w, few);
    }

pub after-bound : (x : Shell) (es : List MadeStep) → IsBounded x → IsLegal act x es → IsBounded (data_after act x es)
after-bound x [] v l = v
after-bound x (e ∷ es) v l = after-bound (next_data (act x e.step) x) es (bound-next x e (next_data (act x e.step) x) v l.0) l.1

pub opened-bound : (c : Config) (s : Shape) → IsShapeOf c s → IsBounded (empty_shell c s)
opened-bound c sh k = record {
  halvings = none sh k.is;
  next = omega arith;
  applied = omega arith;
  counts = λ k. rw (none-counted c sh k) (omega arith);
}

pub bound-law : BoundLaw
bound-law x r = rw r.gives (after-bound (empty_shell x.config r.shape) r.entries (opened-bound x.config r.shape r.shape_is) r.legal)
