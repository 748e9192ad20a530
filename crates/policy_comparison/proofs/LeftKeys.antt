-- From which queue a key leaves by an access, and how many keys left each.
use Rattle.std.proofs.Common.{◌≡◌, ◌∙◌, ℕ, zero, suc, ◌+◌, ◌-◌, ◌<◌, ◌≤◌, true, Option, Some, List, [], ◌∷◌, ◌++◌, length, take, drop, get_or, Result, Ok, Err, OnOk, ap, sym, refl, arith}
use Rattle.std.specs.Prelude.{slice_index}
use Rattle.std.proofs.lemmas.List.{get_or-drop, get_or-take, get_or_default}
use Rattle.engine_base.specs.Stats.{one_if}
use Rattle.engine_base.specs.declared.outcome.Outcome.TheVariants.{Kept}
use Rattle.engine_base.proofs.Counting.{one-few}
use Rattle.engine_base.proofs.Limited.{accepted-where}
use Rattle.segments.specs.KeyRow.{is_number, row_left}
use Rattle.policies.specs.declared.any_policy.AnyPolicy.{AnyPolicy}
use Rattle.policies.specs.AnyPolicy.{Job, Outcome, HasAccessed, any_queues, outcomes_on}
use Rattle.policies.specs.AnyStep.{any_act}
use Rattle.policies.specs.Theorems.{AnyAnswers}
use Rattle.policy_comparison.specs.CacheAccess.{StandsAt}
use Rattle.policy_comparison.proofs.Walked.{outcome-is}
use Rattle.sweeps.specs.Taking.{AreNext}
use Rattle.policy_comparison.specs.QueuesAt.{queues_at}
use Rattle.policy_comparison.specs.QueueRows.{is_left_by, left_from}
use Rattle.policy_comparison.specs.LeftKeys.{AreLeft, IsAccessFrom}
use Rattle.policy_comparison.proofs.QueuesAt.{shown_queues}

-- no more keys leave than accesses are made
pub left-few : (job : Job) (trace : List ℕ) (row from n : ℕ) → left_from job trace row from n ≤ n
left-few job trace row from zero = omega arith
left-few job trace row from (suc n) =
    let before = left-few job trace row from n in
    let one = one-few (is_left_by job trace row (from + n)) in
    omega (arith, before, one)

-- one access more
pub left-more : (job : Job) (trace : List ℕ) (from n : ℕ) (o : Option ℕ) (old new : List ℕ) → from ≤ n
    → o ≡ row_left (get_or (outcomes_on job trace) n Kept) (queues_at job trace n) → AreLeft job trace from n old
    → ((row : ℕ) → get_or new row 0 ≡ get_or old row 0 + one_if (is_number row o)) → AreLeft job trace from (n + 1) new
left-more job trace from n o old new le is are one row =
    let next : n + 1 - from ≡ suc (n - from) = omega (arith, le) in
    let here : n ≡ from + (n - from) = omega (arith, le) in
    one row ∙ ap (λ (m : ℕ). m + one_if (is_number row o)) (are row)
    ∙ ap (λ (r : Option ℕ). left_from job trace row from (n - from) + one_if (is_number row r)) is
    ∙ ap (λ (m : ℕ). left_from job trace row from (n - from) + one_if (is_left_by job trace row m)) here
    ∙ ap (left_from job trace row from) (sym next)

-- the row by the definition
pub row-is : (j : Job) (trace : List ℕ) (n key : ℕ) (next : StandsAt trace n key) → AnyAnswers → (d e : AnyPolicy) (row : Option ℕ)
    → HasAccessed j trace (take n trace) d → IsAccessFrom key d row e → row ≡ row_left (get_or (outcomes_on j trace) n Kept) (queues_at j trace n)
row-is j trace n key next law d e row stands a =
    a.left ∙ ap (λ (o : Outcome). row_left o (any_queues d)) (outcome-is trace n key next law j d a.outcome e stands a.acts)
    ∙ ap (row_left (get_or (outcomes_on j trace) n Kept)) (shown_queues j trace n d (omega (arith, next.within)) stands)

-- ---- an access that is made again

-- it comes to the same
pub made-again : (key : ℕ) (before back old new : AnyPolicy) (o again : Outcome) → back ≡ before → any_act before key ≡ Some (o, old)
    → any_act back key ≡ Some (again, new) → any_act before key ≡ Some (o, new)
made-again key before back old new o again same first second =
    let whole : any_act before key ≡ Some (again, new) = ap (λ (d : AnyPolicy). any_act d key) (sym same) ∙ second in
    whole ∙ ap (λ (x : Outcome). Some (x, new)) (sym (accepted-where true (again, new) o old (sym whole ∙ first)).outcome)

-- ---- counts

-- a count more, of none yet
pub zero-behind : (l : List ℕ) (row : ℕ) → get_or (l ++ 0 ∷ []) row 0 ≡ get_or l row 0
zero-behind [] zero = refl
zero-behind [] (suc row) = refl
zero-behind (x ∷ l) zero = refl
zero-behind (x ∷ l) (suc row) = zero-behind l row

-- what holds of every result
pub on-success : {T E A : Type 0} (r : Result T E) → A → OnOk r A
on-success (Ok v) a = a
on-success (Err e) a = tt

-- ---- the next keys of a trace

-- one of them stands in it
pub next-key : (trace keys : List ℕ) (n i : ℕ) → AreNext trace n keys → i < length keys → StandsAt trace (n + i) (slice_index keys i)
next-key trace keys n i next below = record {
  within = omega (arith, next.within, below);
  same = λ d. sym (ap (λ (l : List ℕ). slice_index l i) next.piece ∙ get_or-take (length keys) (drop n trace) i 0 below ∙ get_or-drop n trace i 0
      ∙ get_or_default trace (n + i) 0 d (omega (arith, next.within, below)));
}
