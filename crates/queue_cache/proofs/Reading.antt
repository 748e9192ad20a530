-- A curve and what is read off it.
use Rattle.std.proofs.Common.{◌≡◌, ◌≢◌, ℕ, suc, ◌+◌, ◌<◌, ◌≤◌, min, List, [], length, count_by, get_or, set, ap, ◌∙◌, sym, refl, arith, inl, inr, get_or-set_other, get_or-set_same}
use Rattle.std.proofs.Math.ListN.{length-set}
use Rattle.std.proofs.lemmas.Bool.{cases_eq}
use Rattle.std.proofs.lemmas.List.FromFn.{fill_by_all}
use Rattle.std.proofs.lemmas.List.Sums.{count_by-le-length}
use Rattle.engine_base.specs.Places.{by_place}
use Rattle.engine_base.proofs.Places.{length-by_place, get_or-by_place}
use Rattle.queue_cache.specs.Lru.{distinct_keys}
use Rattle.queue_cache.specs.Distances.{distances, is_within, hits_within}
use Rattle.queue_cache.specs.Histogram.{is_at}
use Rattle.queue_cache.specs.Curve.{CurveData, curve_of}
use Rattle.queue_cache.proofs.Histories.{distances-long}
use Rattle.queue_cache.proofs.Prefix.{within-more, hits-held}

-- ---- summing up

-- below c the sums stand, and from c on the counts
pub record IsSummed (keys hits : List ℕ) (sum c : ℕ) : Type 0 where
  pub long : length hits ≡ length (distinct_keys keys)
  pub so_far : sum ≡ hits_within c keys
  pub below : (d : ℕ) → d < c → get_or hits d 0 ≡ hits_within (suc d) keys
  pub ahead : (d : ℕ) → c ≤ d → get_or hits d 0 ≡ count_by (is_at (suc d)) (distances keys)

pub sum-small : (keys : List ℕ) (c : ℕ) → hits_within c keys ≤ length keys
sum-small keys c = omega (arith, count_by-le-length (is_within c) (distances keys), distances-long [] keys)

pub more-summed : (keys hits : List ℕ) (sum c x : ℕ) → c < length hits → IsSummed keys hits sum c → x ≡ sum + get_or hits c 0 → IsSummed keys (set hits c x) x (suc c)
more-summed keys hits sum c x in_it s e =
    let is : x ≡ hits_within (suc c) keys = e ∙ (omega (arith, s.ahead c (omega arith), s.so_far, within-more c (distances keys))) in
    record {
      long = length-set hits c x ∙ s.long;
      so_far = is;
      below = λ d lt. elim (cases_eq d c) [
        | inl q ↦ ap (λ n. get_or (set hits c x) n 0) q ∙ ((rw get_or-set_same is) ∙ ap (λ n. hits_within (suc n) keys) (sym q))
        | inr ne ↦ (rw get_or-set_other refl) ∙ s.below d (omega (arith, lt, ne))
      ];
      ahead = λ d le. let ne : d ≢ c = (λ q. omega (arith, q, le)) in (rw get_or-set_other refl) ∙ s.ahead d (omega (arith, le));
    }

pub curve-summed : (keys hits : List ℕ) (n sum c : ℕ) → n ≡ length keys → c ≡ length hits → IsSummed keys hits sum c → ◌≡◌ {A = CurveData} (record { accesses = n; hits = hits }) (curve_of keys)
curve-summed keys hits n sum c e l s =
    let same : hits ≡ by_place (length (distinct_keys keys)) (λ d. hits_within (suc d) keys) = fill_by_all (λ d. hits_within (suc d) keys) hits (length (distinct_keys keys)) 0 s.long (λ d lt. s.below d (omega (arith, lt, l, s.long))) in
    rw (e, same) refl

-- ---- reading

abbrev accesses_of : CurveData → ℕ
accesses_of d = d.accesses

abbrev hits_of : CurveData → List ℕ
hits_of d = d.hits

module _ (keys hits : List ℕ) (n : ℕ) (gives : ◌≡◌ {A = CurveData} (record { accesses = n; hits = hits }) (curve_of keys)) where
  pub counted : n ≡ length keys
  counted = ap accesses_of gives

  listed : hits ≡ by_place (length (distinct_keys keys)) (λ d. hits_within (suc d) keys)
  listed = ap hits_of gives

  pub hits-long : length hits ≡ length (distinct_keys keys)
  hits-long = ap length listed ∙ length-by_place (length (distinct_keys keys)) (λ d. hits_within (suc d) keys)

  pub hits-there : (d : ℕ) → d < length hits → get_or hits d 0 ≡ hits_within (suc d) keys
  hits-there d within = ap (λ l. get_or l d 0) listed ∙ get_or-by_place (length (distinct_keys keys)) (λ d. hits_within (suc d) keys) d 0 (omega (arith, within, hits-long))

  -- past the number of distinct keys the hits stay
  pub hits-read : (c held : ℕ) → held ≡ min (length hits) c → hits_within held keys ≡ hits_within c keys
  hits-read c held is = ap (λ m. hits_within m keys) (is ∙ ap (λ m. min m c) hits-long) ∙ hits-held c keys
