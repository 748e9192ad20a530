-- The rows of intervals that are over.
use Rattle.std.proofs.Common.{◌≡◌, ◌∙◌, ℕ, ◌*◌, ◌-◌, ◌≤◌, Option, List, [], ◌++◌, length, take, get_or, sym, ap, subst, arith, append_assoc}
use Rattle.std.specs.List.{flat_map}
use Rattle.std.specs.Option.{option_to_list}
use Rattle.std.proofs.Math.Path.{fun_ext}
use Rattle.std.proofs.lemmas.Grind.{flat_map-append}
use Rattle.policies.specs.declared.any_policy.AnyPolicy.{AnyPolicy}
use Rattle.policies.specs.AnyPolicy.{Job, HasAccessed, any_queues, outcomes_on}
use Rattle.sweeps.specs.declared.current_interval.CurrentInterval.{CurrentInterval}
use Rattle.sweeps.specs.CurrentInterval.{IsAdvanced, IsIntervalTo, over_with}
use Rattle.sweeps.specs.Intervals.{Interval, first_intervals, intervals_on}
use Rattle.sweeps.proofs.Cuts.{over-more}
use Rattle.policy_comparison.specs.QueuesAt.{NamedQueueData}
use Rattle.policy_comparison.specs.QueueRows.{left_from, left_in, queue_rows, queue_rows_on, rows_from}
use Rattle.policy_comparison.specs.QueueRun.{AreLeft, EndsInterval}
use Rattle.policy_comparison.proofs.QueuesAt.{shown_queues}

-- the rows of an interval, as its cache shows the queues
pub ended-rows : (job : Job) (trace : List ℕ) (i : Interval) (left : List ℕ) (cache : AnyPolicy) (queues : List NamedQueueData)
    → EndsInterval job trace i left cache → queues ≡ any_queues cache
    → rows_from i (λ (row : ℕ). get_or left row 0) 0 queues ≡ queue_rows job trace i
unfolding queue_rows
ended-rows job trace i left cache queues ends all =
    ap (λ (f : ℕ → ℕ). rows_from i f 0 queues) (fun_ext ends.departed)
    ∙ ap (rows_from i (left_in job trace i) 0) (all ∙ shown_queues job trace i.last cache ends.within ends.stands)

-- an interval that ends at the last of the accesses that were made
pub ends-at : (job : Job) (every : ℕ) (trace : List ℕ) (done n : ℕ) (i : Interval) (left : List ℕ) (cache : AnyPolicy)
    → IsIntervalTo job every trace done n i → n ≤ length trace → HasAccessed job trace (take n trace) cache → AreLeft job trace (done * every) n left
    → EndsInterval job trace i left cache
ends-at job every trace done n i left cache is within stands are =
    let first : done * every ≡ i.first - 1 = omega (arith, ap (λ (x : Interval). x.first) is.is) in
    record {
      within = omega (arith, is.last, within);
      stands = subst (λ (m : ℕ). HasAccessed job trace (take m trace) cache) (sym is.last) stands;
      departed = subst (λ (m : ℕ). AreLeft job trace m i.last left) first (subst (λ (m : ℕ). AreLeft job trace (done * every) m left) (sym is.last) are);
    }

-- no key left a queue before any access
pub none-left : (job : Job) (trace : List ℕ) (from n : ℕ) (left : List ℕ) → n ≤ from → left ≡ [] → AreLeft job trace from n left
none-left job trace from n left le is = λ row.
    let none : 0 ≡ n - from = omega (arith, le) in
    ap (λ (l : List ℕ). get_or l row 0) is ∙ ap (left_from job trace row from) none

-- ---- rows, with those of one interval more, if there is one

module _ (job : Job) (trace : List ℕ) where
  abbrev rows : List Interval → List ℕ
  rows intervals = flat_map (queue_rows job trace) intervals

  both : (over all : List Interval) (one : Option Interval) → all ≡ over ++ option_to_list one → rows over ++ rows (option_to_list one) ≡ rows all
  both over all one is = sym (flat_map-append (queue_rows job trace) over (option_to_list one)) ∙ ap rows (sym is)

  pub queue-rows-more : {every done m : ℕ} {over : Option Interval} {cache : AnyPolicy} {current : CurrentInterval} → IsAdvanced job every trace done m cache over current
      → (result : Option Interval) (old new : List ℕ) → over ≡ result → old ≡ rows (first_intervals job every (outcomes_on job trace) done)
      → new ≡ old ++ rows (option_to_list result) → new ≡ rows (first_intervals job every (outcomes_on job trace) (over_with done over))
  queue-rows-more {every} {done} {m} {over} advanced result old new is so adds =
      adds ∙ ap (λ (o : Option Interval). old ++ rows (option_to_list o)) (sym is) ∙ ap (λ (l : List ℕ). l ++ rows (option_to_list over)) so
      ∙ both (first_intervals job every (outcomes_on job trace) done) _ over (sym (over-more job every trace done m over advanced.over))

  -- all of them, behind another text
  pub queue-rows-all : (every done : ℕ) (last result : Option Interval) (text old new : List ℕ)
      → intervals_on job every trace ≡ first_intervals job every (outcomes_on job trace) done ++ option_to_list last → last ≡ result
      → old ≡ rows (first_intervals job every (outcomes_on job trace) done) → new ≡ text ++ old
      → new ++ rows (option_to_list result) ≡ text ++ queue_rows_on every job trace
  unfolding queue_rows_on
  queue-rows-all every done last result text old new all is so adds =
      let over : List Interval = first_intervals job every (outcomes_on job trace) done in
      ap (λ (o : Option Interval). new ++ rows (option_to_list o)) (sym is)
      ∙ ap (λ (l : List ℕ). l ++ rows (option_to_list last)) (adds ∙ ap (λ (l : List ℕ). text ++ l) so)
      ∙ append_assoc text (rows over) (rows (option_to_list last))
      ∙ ap (λ (l : List ℕ). text ++ l) (both over (intervals_on job every trace) last all)
