-- A policy over a trace, access by access.
use Rattle.std.proofs.Common.{◌≡◌, ◌∙◌, ℕ, suc, ◌+◌, ◌<◌, ◌≤◌, Some, None, List, [], ◌∷◌, ◌++◌, length, take, drop, get_or, ap, sym, subst, arith, append-nil}
use Rattle.std.specs.Prelude.{slice_index}
use Rattle.std.proofs.lemmas.List.{take_more, length-take-le}
use Rattle.engine_base.specs.declared.limits.TheConstants.{MAX_ACCESSES}
use Rattle.engine_base.specs.declared.outcome.Outcome.TheVariants.{Kept}
use Rattle.policies.specs.declared.any_policy.AnyPolicy.{AnyPolicy}
use Rattle.policies.specs.AnyPolicy.{Outcome, Job, HasAccessed, outcomes_on}
use Rattle.policies.specs.AnyStep.{any_act}
use Rattle.policies.specs.Theorems.{AnyStepLaw, AnyAccepts, AnyAnswers, AnyCoversTrace}
use Rattle.policies.proofs.Stretches.{next-ahead, added-next}

module _ (j : Job) (trace : List ℕ) where
  -- behind the first i accesses of the trace stands the next one
  next_of : (i : ℕ) → i < length trace → trace ≡ take i trace ++ slice_index trace i ∷ (drop (suc i) trace ++ [])
  next_of i lt = next-ahead trace [] trace [] i lt (sym (append-nil trace))

  -- the next access of the trace is accepted
  pub accepted : AnyAccepts → (keys : List ℕ) (i : ℕ) (d : AnyPolicy) → keys ≡ trace → i < length keys → length trace ≤ MAX_ACCESSES
      → HasAccessed j trace (take i trace) d → any_act d (slice_index keys i) ≡ None → ⊥
  accepted law keys i d same lt few s none =
      let below : i < length trace = subst (λ (l : List ℕ). i < length l) same lt in
      law j trace (take i trace) (drop (suc i) trace ++ []) (slice_index trace i) d (next_of i below) (omega (arith, few)) s
      (subst (λ (l : List ℕ). any_act d (slice_index l i) ≡ None) same none)

  -- once it is made, the cache made one access more, and its outcome is that of the job over the whole trace
  pub made : AnyStepLaw → AnyAnswers → AnyCoversTrace → (keys : List ℕ) (i : ℕ) (d e : AnyPolicy) (o : Outcome) (before after : List Outcome)
      → keys ≡ trace → i < length keys → HasAccessed j trace (take i trace) d → any_act d (slice_index keys i) ≡ Some (o, e)
      → before ≡ take i (outcomes_on j trace) → after ≡ before ++ o ∷ []
      → HasAccessed j trace (take (i + 1) trace) e × (after ≡ take (i + 1) (outcomes_on j trace))
  made stands answers covers keys i d e o before after same lt s step so_far one =
      let below : i < length trace = subst (λ (l : List ℕ). i < length l) same lt in
      let accessed : any_act d (slice_index trace i) ≡ Some (o, e) = subst (λ (l : List ℕ). any_act d (slice_index l i) ≡ Some (o, e)) same step in
      let its : o ≡ get_or (outcomes_on j trace) i Kept =
      answers j trace (take i trace) (drop (suc i) trace ++ []) (slice_index trace i) d o e Kept (next_of i below) s accessed
      ∙ ap (λ (n : ℕ). get_or (outcomes_on j trace) n Kept) (length-take-le i trace (omega (arith, below))) in
      let within : i < length (outcomes_on j trace) = omega (arith, below, covers j trace) in (
        subst (λ (l : List ℕ). HasAccessed j trace l e) (added-next [] trace i below) (stands j trace (take i trace) d (slice_index trace i) o e s accessed),
        one ∙ ap (λ (l : List Outcome). l ++ o ∷ []) so_far ∙ ap (λ (x : Outcome). take i (outcomes_on j trace) ++ x ∷ []) its
            ∙ sym (take_more (outcomes_on j trace) i Kept within),
      )
