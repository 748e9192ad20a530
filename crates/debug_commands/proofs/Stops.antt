-- Where a run stops, step by step.
use Rattle.std.proofs.Common.{◌≡◌, ◌∙◌, ◌<◌, ◌+◌, ◌-◌, ℕ, zero, suc, List, Some, None, refl, ap, sym, arith}
use Rattle.debug_commands.specs.Answers.{StepFacts, Breakpoint, stop_after, stop_here}
use Rattle.debug_commands.specs.Breakpoints.{first_holding}

module _ (facts : ℕ → StepFacts) (breaks : List Breakpoint) where
  -- with a step left, it is the stop behind that step, or the later one
  one_step : (at left : ℕ) → stop_after facts breaks at (suc left)
      ≡ stop_here (first_holding (facts (at + 1)) breaks) (at + 1) (stop_after facts breaks (at + 1) left)
  unfolding stop_after
  one_step at left = refl

  no_step : (at : ℕ) → stop_after facts breaks at zero ≡ (at, None)
  unfolding stop_after
  no_step at = refl

  a_step : (at end : ℕ) → at < end → stop_after facts breaks at (end - at)
      ≡ stop_here (first_holding (facts (at + 1)) breaks) (at + 1) (stop_after facts breaks (at + 1) (end - (at + 1)))
  a_step at end lt =
      let left : end - at ≡ suc (end - (at + 1)) = omega arith in
      ap (stop_after facts breaks at) left ∙ one_step at (end - (at + 1))

  pub stops_here : (at end next : ℕ) (f : StepFacts) (b : Breakpoint) → at < end → next ≡ at + 1 → f ≡ facts (at + 1)
      → first_holding f breaks ≡ Some b → stop_after facts breaks at (end - at) ≡ (next, Some b)
  stops_here at end next f b lt n is h =
      a_step at end lt
      ∙ ap (λ o. stop_here o (at + 1) (stop_after facts breaks (at + 1) (end - (at + 1)))) (sym (ap (λ x. first_holding x breaks) is) ∙ h)
      ∙ ap (λ k. (k, Some b)) (sym n)

  pub stops_later : (at end next : ℕ) (f : StepFacts) → at < end → next ≡ at + 1 → f ≡ facts (at + 1)
      → first_holding f breaks ≡ None → stop_after facts breaks next (end - next) ≡ stop_after facts breaks at (end - at)
  stops_later at end next f lt n is h =
      ap (λ k. stop_after facts breaks k (end - k)) n
      ∙ sym (a_step at end lt
      ∙ ap (λ o. stop_here o (at + 1) (stop_after facts breaks (at + 1) (end - (at + 1)))) (sym (ap (λ x. first_holding x breaks) is) ∙ h))

  pub stops_at_end : (at end : ℕ) → (at < end → ⊥) → stop_after facts breaks at (end - at) ≡ (at, None)
  stops_at_end at end none =
      let left : end - at ≡ zero = omega arith in
      ap (stop_after facts breaks at) left ∙ no_step at
