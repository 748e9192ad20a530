-- Two caches side by side, access by access.
use Rattle.std.proofs.Common.{◌≡◌, ◌≢◌, ℕ, zero, suc, ◌+◌, ◌<◌, ◌≤◌, Bool, false, inl, inr, Some, None, List, [], ◌∷◌, ◌++◌, length, take, drop, get_or, set, get_or-set_same, get_or-set_other, ap, ◌∙◌, sym, refl, arith, subst, append-nil}
use Rattle.std.specs.Prelude.{slice_index, slice_index_or}
use Rattle.std.specs.Cmp.{booleans_Decides}
use Rattle.std.proofs.lemmas.Bool.{cases_lt, not-false}
use Rattle.std.proofs.lemmas.List.{get_or-drop, get_or-take, get_or_default, get_or_past, length-take-le}
use mathlib.Core.Bool.{not, beq}
use Rattle.engine_base.specs.declared.limits.TheConstants.{MAX_STEPS}
use Rattle.engine_base.specs.declared.outcome.Outcome.TheVariants.{Kept}
use Rattle.engine_base.specs.Stats.{is_hit}
use Rattle.policies.specs.AnyPolicy.{Outcome, Job, HasAccessed, outcomes_on}
use Rattle.policies.specs.AnyStep.{any_act}
use Rattle.policies.specs.Theorems.{AnyStepLaw, AnyAccepts, AnyAnswers}
use Rattle.policies.proofs.Stretches.{next-ahead, added-next}
use Rattle.policy_comparison.specs.CacheAccess.{AnyPolicy, StandsAt}
use Rattle.policy_comparison.specs.Part.{is_hit_at, AgreeBelow}
use Rattle.sweeps.specs.Taking.{AreNext}

-- ---- one access of one cache

-- behind the first i accesses of the trace stands the next one
pub next-of : (trace : List ℕ) (i : ℕ) → i < length trace
    → trace ≡ take i trace ++ slice_index trace i ∷ (drop (suc i) trace ++ [])
next-of trace i lt = next-ahead trace [] trace [] i lt (sym (append-nil trace))

pub stands-in : (trace : List ℕ) (n key : ℕ) → n < length trace → key ≡ slice_index trace n → StandsAt trace n key
stands-in trace n key lt is = record { within = lt; same = λ d. get_or_default trace n d 0 lt ∙ sym is }

-- one of the keys that come next in a trace stands in it
pub key-at : (trace keys : List ℕ) (n i : ℕ) → AreNext trace n keys → i < length keys → StandsAt trace (n + i) (slice_index keys i)
key-at trace keys n i next below = record {
  within = omega (arith, next.within, below);
  same = λ d. sym (ap (λ (l : List ℕ). slice_index l i) next.piece ∙ get_or-take (length keys) (drop n trace) i 0 below ∙ get_or-drop n trace i 0
      ∙ get_or_default trace (n + i) 0 d (omega (arith, next.within, below)));
}

-- a cache that has read ahead stands where it stood
pub warmed : (j : Job) (trace keys : List ℕ) (d e : AnyPolicy) → e ≡ d → HasAccessed j trace keys d → HasAccessed j trace keys e
warmed j trace keys d e same s = subst (λ (f : AnyPolicy). HasAccessed j trace keys f) (sym same) s

module _ (trace : List ℕ) (n key : ℕ) (next : StandsAt trace n key) where
  pub ready : AnyAccepts → length trace ≤ MAX_STEPS → (j : Job) (d : AnyPolicy) → HasAccessed j trace (take n trace) d → any_act d key ≢ None
  ready law few j d s none =
      law j trace (take n trace) (drop (suc n) trace ++ []) (slice_index trace n) d (next-of trace n next.within) few s
      (subst (λ (k : ℕ). any_act d k ≡ None) (sym (next.same 0)) none)

  pub moves : AnyStepLaw → (j : Job) (d : AnyPolicy) (o : Outcome) (e : AnyPolicy) → HasAccessed j trace (take n trace) d
      → any_act d key ≡ Some (o, e) → HasAccessed j trace (take (n + 1) trace) e
  moves law j d o e s h =
      subst (λ (l : List ℕ). HasAccessed j trace l e) (added-next [] trace n next.within)
      (law j trace (take n trace) d (slice_index trace n) o e s (subst (λ (k : ℕ). any_act d k ≡ Some (o, e)) (sym (next.same 0)) h))

  pub outcome-is : AnyAnswers → (j : Job) (d : AnyPolicy) (o : Outcome) (e : AnyPolicy) → HasAccessed j trace (take n trace) d
      → any_act d key ≡ Some (o, e) → o ≡ slice_index_or (outcomes_on j trace) n Kept
  outcome-is law j d o e s h =
      law j trace (take n trace) (drop (suc n) trace ++ []) (slice_index trace n) d o e Kept (next-of trace n next.within) s
      (subst (λ (k : ℕ). any_act d k ≡ Some (o, e)) (sym (next.same 0)) h)
      ∙ ap (λ (m : ℕ). get_or (outcomes_on j trace) m Kept) (length-take-le n trace (omega (arith, next.within)))

  pub answers : AnyAnswers → (j : Job) (d : AnyPolicy) (o : Outcome) (e : AnyPolicy) → HasAccessed j trace (take n trace) d
      → any_act d key ≡ Some (o, e) → is_hit o ≡ is_hit_at (outcomes_on j trace) (n + 1)
  answers law j d o e s h =
      let on : suc n ≡ n + 1 = omega arith in
      ap is_hit (outcome-is law j d o e s h) ∙ ap (is_hit_at (outcomes_on j trace)) on

-- ---- the accesses at which both hit or neither does

pub agrees : (a b : Bool) → not (beq a b) ≡ false → a ≡ b
agrees a b h = (booleans_Decides a b).0 (not-false (beq a b) h)

-- flags say which of so many accesses behind the first n hit
abbrev pub IsNoted : List Bool → List Outcome → ℕ → ℕ → Type 0
IsNoted noted os n size = (i : ℕ) → i < size → slice_index_or noted i false ≡ is_hit_at os (n + i + 1)

pub noted-more : (noted : List Bool) (os : List Outcome) (n i : ℕ) (b : Bool) → i < length noted → b ≡ is_hit_at os (n + i + 1)
    → IsNoted noted os n i → IsNoted (set noted i b) os n (i + 1)
noted-more noted os n i b room here before j below =
    elim (cases_lt j i) [
      | inl less ↦ get_or-set_other noted i j b false (λ same. omega (arith, same, less)) ∙ before j less
      | inr more ↦ (let same : i ≡ j = omega (arith, more, below) in
          subst (λ (k : ℕ). slice_index_or (set noted i b) k false ≡ is_hit_at os (n + k + 1)) same (get_or-set_same noted i b false room ∙ here))
    ]

pub agree-none : (os ps : List Outcome) → AgreeBelow 1 os ps
agree-none os ps zero lt = refl
agree-none os ps (suc m) lt = absurd (omega (arith, lt))

pub agree-next : (os ps : List Outcome) (i : ℕ) → is_hit_at os (i + 1) ≡ is_hit_at ps (i + 1) → AgreeBelow (i + 1) os ps → AgreeBelow (i + 1 + 1) os ps
agree-next os ps i here below m lt =
    elim (cases_lt m (i + 1)) [
      | inl less ↦ below m less
      | inr more ↦ (let same : i + 1 ≡ m = omega arith in subst (λ (n : ℕ). is_hit_at os n ≡ is_hit_at ps n) same here)
    ]

pub agree-everywhere : (os ps : List Outcome) (n : ℕ) → length os ≡ n → length ps ≡ n → AgreeBelow (n + 1) os ps
    → (m : ℕ) → is_hit_at os m ≡ is_hit_at ps m
agree-everywhere os ps n l k below zero = refl
agree-everywhere os ps n l k below (suc m) =
    elim (cases_lt m n) [
      | inl less ↦ below (suc m) (omega arith)
      | inr more ↦ ap is_hit (get_or_past os m Kept (omega (arith, l)) ∙ sym (get_or_past ps m Kept (omega (arith, k))))
    ]
