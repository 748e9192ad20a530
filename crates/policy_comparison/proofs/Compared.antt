-- Two policies' hits, access by access.
use Rattle.std.proofs.Common.{◌≡◌, ◌∙◌, ℕ, suc, ◌+◌, ◌<◌, ◌≤◌, Bool, false, cond, List, [], ◌∷◌, ◌++◌, length, take, get_or, map, count_by, ap, ap₂, sym, subst, refl, arith, length-append, length-take}
use Rattle.std.specs.Prelude.{not, ◌&&◌, slice_index_or}
use Rattle.std.proofs.lemmas.List.{get_or-map, get_or_default, length-map, take_more}
use Rattle.std.proofs.lemmas.Slice.Zip.{get_or-zip, length-zip}
use Rattle.std.proofs.lemmas.List.Sums.{count_by-le-length, sum_by-append}
use Rattle.engine_base.specs.declared.outcome.Outcome.TheVariants.{Kept}
use Rattle.engine_base.specs.Stats.{is_hit, one_if}
use Rattle.policies.specs.AnyPolicy.{Outcome, Job, outcomes_on}
use Rattle.policies.proofs.StepLaws.{any_covers_trace}
use Rattle.policy_comparison.specs.CacheAccess.{StandsAt}
use Rattle.policy_comparison.specs.Comparison.{Comparison, counts_of, counts_with, hits_beside, IsUpTo}
use Rattle.policy_comparison.specs.Part.{is_hit_at}

-- ---- hits side by side

hits-at : (os ps : List Outcome) (i : ℕ) → i < length os → i < length ps
    → get_or (hits_beside os ps) i (false, false) ≡ (is_hit (slice_index_or os i Kept), is_hit (slice_index_or ps i Kept))
hits-at os ps i lt below =
    get_or-zip (map is_hit os) (map is_hit ps) i (false, false) (omega (arith, lt, length-map os is_hit)) (omega (arith, below, length-map ps is_hit))
    ∙ ap₂ (λ (a b : Bool). (a, b)) (get_or-map is_hit os i Kept false lt) (get_or-map is_hit ps i Kept false below)

-- two jobs have as many hits side by side as there are accesses
pub beside-long : (j k : Job) (trace : List ℕ) → length (hits_beside (outcomes_on j trace) (outcomes_on k trace)) ≡ length trace
beside-long j k trace =
    let os = outcomes_on j trace in
    let ps = outcomes_on k trace in
    omega (arith, length-zip (map is_hit os) (map is_hit ps), length-map os is_hit, length-map ps is_hit, any_covers_trace j trace, any_covers_trace k trace)

-- whether two caches hit at an access is what stands at its place
pub beside-at : (j k : Job) (trace : List ℕ) (i : ℕ) (a b : Bool) → i < length trace
    → a ≡ is_hit_at (outcomes_on j trace) (i + 1) → b ≡ is_hit_at (outcomes_on k trace) (i + 1)
    → StandsAt (hits_beside (outcomes_on j trace) (outcomes_on k trace)) i (a, b)
beside-at j k trace i a b lt first second =
    let os = outcomes_on j trace in
    let ps = outcomes_on k trace in
    let on : i + 1 ≡ suc i = omega arith in
    let one : i < length os = omega (arith, lt, any_covers_trace j trace) in
    let other : i < length ps = omega (arith, lt, any_covers_trace k trace) in
    let within : i < length (hits_beside os ps) = omega (arith, lt, beside-long j k trace) in
    record {
      within = within;
      same = λ d. get_or_default (hits_beside os ps) i d (false, false) within ∙ hits-at os ps i one other
          ∙ ap (λ (x : Bool). (x, is_hit (slice_index_or ps i Kept))) (sym (first ∙ ap (is_hit_at os) on))
          ∙ ap (λ (x : Bool). (a, x)) (sym (second ∙ ap (is_hit_at ps) on));
    }

-- ---- one access more

count-snoc : (p : Bool × Bool → Bool) (hits : List (Bool × Bool)) (hit : Bool × Bool) → count_by p (hits ++ hit ∷ []) ≡ count_by p hits + one_if (p hit)
count-snoc p hits hit = sum_by-append (λ h. cond (p h) 1 0) hits (hit ∷ []) ∙ omega arith

counts-snoc : (hits : List (Bool × Bool)) (hit : Bool × Bool) → counts_of (hits ++ hit ∷ []) ≡ counts_with hit (counts_of hits)
counts-snoc hits hit =
    rw (
      count-snoc (λ h. h.0 && h.1) hits hit,
      count-snoc (λ h. h.0 && not h.1) hits hit,
      count-snoc (λ h. not h.0 && h.1) hits hit,
      count-snoc (λ h. not h.0 && not h.1) hits hit,
      length-append hits (hit ∷ []),
    ) refl

pub counts-more : (hits : List (Bool × Bool)) (n : ℕ) (hit : Bool × Bool) (c : Comparison) → StandsAt hits n hit → c ≡ counts_of (take n hits)
    → counts_with hit c ≡ counts_of (take (n + 1) hits)
counts-more hits n hit c next is =
    ap (counts_with hit) is ∙ sym (counts-snoc (take n hits) hit)
    ∙ ap (λ (h : Bool × Bool). counts_of (take n hits ++ h ∷ [])) (sym (next.same hit)) ∙ ap counts_of (sym (take_more hits n hit next.within))

-- ---- how large the counts are

few : (hits : List (Bool × Bool)) (most : ℕ) → length hits ≤ most → IsUpTo most (counts_of hits)
few hits most long = record {
  accesses = long;
  both = omega (arith, long, count_by-le-length (λ h. h.0 && h.1) hits);
  first_only = omega (arith, long, count_by-le-length (λ h. h.0 && not h.1) hits);
  second_only = omega (arith, long, count_by-le-length (λ h. not h.0 && h.1) hits);
  neither = omega (arith, long, count_by-le-length (λ h. not h.0 && not h.1) hits);
}

pub counts-few : (hits : List (Bool × Bool)) (n : ℕ) (c : Comparison) (most : ℕ) → length hits ≤ most → c ≡ counts_of (take n hits) → IsUpTo most c
counts-few hits n c most long is = subst (IsUpTo most) (sym is) (few (take n hits) most (omega (arith, long, length-take n hits)))
