-- An eviction is one of four, and comes to what its plan comes to.
use Rattle.std.proofs.Common.{◌≡◌, nat_lt, true, false, Option, Some, None, List, [], ◌∷◌, ◌++◌, length, ap, refl, sym, ◌∙◌, arith, inl, inr}
use Rattle.std.proofs.lemmas.Bool.{cases_Bool}
use Rattle.std.proofs.lemmas.Bool.Decides.{nat_tests}
use Rattle.segments.specs.declared.records.Queue.TheVariants.{Probation}
use Rattle.segments.specs.Items.{Item, is_same_item, items_without, oldest_of}
use Rattle.segments.specs.Queues.{queues_after_move, IsDistinct}
use Rattle.replacement.specs.Rules.{three_queues}
use Rattle.replacement.specs.Plan.{candidate_of, eviction_plan}
use Rattle.replacement.specs.PlanMoves.{response_of_plan}
use Rattle.replacement.specs.Table.{Response, contest, trial, trial_of}
use Rattle.replacement.proofs.Planned.{evictions_planned}
use Rattle.shell_model.specs.Frequency.{admits}
use Rattle.shell_model.specs.Shell.{Reply, Shell, window_size, evicted_by, is_over, evict_effect}
use Rattle.shell_model.specs.ShellEviction.{shift_effect, IsCandidate, is_too_much, IsVictim, Evicts, EvictionsByReply}
use Rattle.shell_model.specs.ShellEviction as e

abbrev EvictsBy : Shell → Reply × Shell → Type 0
EvictsBy x p = Evicts x p.0 p.1

-- a candidate stands in probation, so there is a victim
last-some : (l : List Item) (c : Item) → (v : Item) × (oldest_of (l ++ c ∷ []) ≡ Some v)
last-some [] c = (c, refl)
last-some (x ∷ l) c = (x, refl)

contests : (c v : Item) (x : Shell) → IsCandidate c x → IsVictim v (shift_effect c x)
    → EvictsBy x (evicted_by (Some c) (contest (admits x.frequency) c (Some v) (queues_after_move c Probation x.queues)) x)
contests c v x h k =
    elim (cases_Bool (is_same_item c v)) as (λ _. EvictsBy x (evicted_by (Some c) (contest (admits x.frequency) c (Some v) (queues_after_move c Probation x.queues)) x)) [
      | inl i ↦ rw i (e.rejected c v h k (λ n. absurd (let no : true ≡ false = sym i ∙ n in cc (no))))
      | inr i ↦ rw i (elim (cases_Bool (admits x.frequency c.key v.key)) [
        | inl f ↦ rw f (e.evicted c v h k i f)
        | inr f ↦ rw f (e.rejected c v h k (λ n. f))
      ])
    ]

tries : (c : Item) (x : Shell) → IsCandidate c x
    → EvictsBy x (evicted_by (Some c) (trial (three_queues x.config) (admits x.frequency) c (queues_after_move c Probation x.queues)) x)
tries c x h =
    elim (cases_Bool (is_too_much (shift_effect c x))) as (λ _. EvictsBy x (evicted_by (Some c) (trial (three_queues x.config) (admits x.frequency) c (queues_after_move c Probation x.queues)) x)) [
      | inl i ↦ (let v = last-some (items_without c x.queues.probation) c in rw (i, v.1) (contests c v.0 x h record { over = i; oldest = v.1 }))
      | inr i ↦ rw i (e.shifted c h i)
    ]

oldest-tries : (o : Option Item) (x : Shell) → is_over x ≡ true → oldest_of x.queues.window ≡ o
    → EvictsBy x (evicted_by o (trial_of (three_queues x.config) (admits x.frequency) o x.queues) x)
oldest-tries None x i h = absurd (none x.queues.window h i)
  where
    none : (l : List Item) → oldest_of l ≡ None → nat_lt (window_size x.config) (length l) ≡ true → ⊥
    none [] h i = grind (arith, nat_tests)
    none (y ∷ l) h i = cc (h)
oldest-tries (Some c) x i h = tries c x record { over = i; oldest = h }

pub evictions-by-reply : EvictionsByReply
evictions-by-reply x =
    elim (cases_Bool (is_over x)) as (λ _. EvictsBy x (evict_effect x)) [
      | inl i ↦ rw i (oldest-tries (oldest_of x.queues.window) x i refl)
      | inr i ↦ rw i (e.fits i)
    ]

pub evictions-by-plan : (x : Shell) → IsDistinct x.queues → evict_effect x ≡ evicted_by
    (candidate_of (three_queues x.config) x.queues)
    (response_of_plan (eviction_plan (three_queues x.config) (admits x.frequency) x.queues) x.queues)
    x
evictions-by-plan x d =
    ap (λ (r : Response). evicted_by (candidate_of (three_queues x.config) x.queues) r x)
    (evictions_planned (three_queues x.config) (admits x.frequency) x.queues d)
