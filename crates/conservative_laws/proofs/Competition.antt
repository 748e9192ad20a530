-- A conservative cache beside a strategy: in a stretch in which the one misses c + 1 times, the other misses too.
use Rattle.std.proofs.Common.{◌≡◌, ℕ, zero, suc, ◌+◌, ◌-◌, ◌*◌, ◌<◌, ◌≤◌, true, false, not, List, [], ◌∷◌, ◌++◌, length, take, get_or, ap, ◌∙◌, sym, arith, inl, inr}
use Rattle.std.proofs.lemmas.Bool.Decides.{nat_tests}
use Rattle.std.proofs.Math.Nat.{mul-add, mul_comm, mul-le-mul_left, mul-le-mul_right}
use Rattle.std.proofs.lemmas.Bool.{cases_Bool, cases_lt, cases_eq}
use Rattle.engine_base.specs.Keys.{has_key}
use Rattle.engine_base.specs.Stats.{one_if}
use Rattle.clairvoyant.proofs.Belady.{later}
use Rattle.engine_base.proofs.Counting.{one-few}
use Rattle.queue_cache.specs.Lru.{distinct_keys}
use Rattle.policy_laws.specs.Strategy.{IsStrategy, strategy_misses}
use Rattle.policy_laws.proofs.Optimal.{head-has}
use Rattle.conservative_laws.specs.Conservative.{stretch, IsConservative, FillsFirst}
use Rattle.conservative_laws.specs.Theorems.{NeverBypasses, ConservativeCompetes, ConservativeCompetesWithoutBypass, FillingCompetes, FillingCompetesWithoutBypass}
use Rattle.conservative_laws.proofs.Stretches.{misses-next, distinct-few, has-some, stretch-none, stretch-next, one-of}

-- ---- the strategy, in a stretch

module _ (h : ℕ) (t : List ℕ) (other : ℕ → List ℕ) (is : IsStrategy h t other) where
  -- The keys that the strategy had at the place start, which are at most room, or that were accessed from there to before n: each that it had not
  -- at start was missed. Those accessed from the place from on are among them.
  record Cover (room from start n : ℕ) : Type 0 where
    keys : List ℕ
    few : length keys + strategy_misses t other start ≤ room + strategy_misses t other n
    resident : (x : ℕ) → has_key x (other n) ≡ true → has_key x keys ≡ true
    accessed : (x : ℕ) → has_key x (stretch t from n) ≡ true → has_key x keys ≡ true

  cover-next : (room from start n : ℕ) → from ≤ n → n < length t → Cover room from start n → Cover room from start (suc n)
  cover-next room from start n w l before =
      let k : ℕ = get_or t n 0 in
      let few : length before.keys + strategy_misses t other start ≤ room + strategy_misses t other n = before.few in
      let next : strategy_misses t other (suc n) ≡ strategy_misses t other n + one_if (not (has_key k (other n))) = misses-next t other n in
      let more : stretch t from (suc n) ≡ stretch t from n ++ k ∷ [] = stretch-next t from n w l in
      elim (cases_Bool (has_key k before.keys)) [
        | inl e ↦ record {
          keys = before.keys;
          few = omega (arith, few, next);
          resident = λ x g. elim (is.on_demand n x l g) [ inl s ↦ ap (λ y. has_key y before.keys) s ∙ e | inr r ↦ before.resident x r ];
          accessed = λ x g. elim (one-of x k (stretch t from n) (ap (has_key x) (sym more) ∙ g)) [ inl s ↦ ap (λ y. has_key y before.keys) s ∙ e | inr r ↦ before.accessed x r ];
        }
        | inr e ↦
            let missed : has_key k (other n) ≡ false = grind (arith, nat_tests, before.resident k, e) in
            let one : one_if (not (has_key k (other n))) ≡ 1 = ap (λ b. one_if (not b)) missed in
            record {
              keys = k ∷ before.keys;
              few = omega (arith, few, next, one);
              resident = λ x g. elim (is.on_demand n x l g) [ inl s ↦ ap (λ y. has_key y (k ∷ before.keys)) s ∙ head-has k before.keys | inr r ↦ later x k before.keys (before.resident x r) ];
              accessed = λ x g. elim (one-of x k (stretch t from n) (ap (has_key x) (sym more) ∙ g)) [ inl s ↦ ap (λ y. has_key y (k ∷ before.keys)) s ∙ head-has k before.keys | inr r ↦ later x k before.keys (before.accessed x r) ];
            }
      ]

  -- the stretch begins where the counting does
  cover-here : (n : ℕ) → n ≤ length t → Cover h n n n
  cover-here n l = record {
    keys = other n;
    few = omega (arith, is.fits n l);
    resident = λ x g. g;
    accessed = λ x g. absurd (let no : false ≡ true = ap (has_key x) (sym (stretch-none t n l)) ∙ g in cc (no));
  }

  -- or at the access before, whose key is resident
  cover-behind : (n : ℕ) → n < length t → has_key (get_or t n 0) (other (suc n)) ≡ true → Cover h n (suc n) (suc n)
  cover-behind n l kept = grind (arith, nat_tests, stretch-next, stretch-none, one-of)

  cover-up : (room from start n : ℕ) → from ≤ start → start ≤ n → n ≤ length t → Cover room from start start → Cover room from start n
  cover-up room from start zero w g l first = let same : 0 ≡ start = omega (arith, g) in rw same first
  cover-up room from start (suc n) w g l first =
      elim (cases_lt start (suc n)) [
        | inl f ↦ cover-next room from start n (omega (arith, w, f)) (omega (arith, l)) (cover-up room from start n w (omega (arith, f)) (omega (arith, l)) first)
        | inr f ↦ let same : suc n ≡ start = omega (arith, f, g) in rw same first
      ]

  -- it starts empty, so each key that came was missed
  misses-all : (n : ℕ) → n ≤ length t → length (distinct_keys (take n t)) ≤ strategy_misses t other n
  misses-all n l =
      let none : Cover 0 0 0 0 = record { keys = []; few = omega arith; resident = λ x g. absurd (let no : false ≡ true = ap (has_key x) (sym is.empty) ∙ g in cc (no)); accessed = λ x g. absurd (cc (g)) } in
      let all : Cover 0 0 0 n = cover-up 0 0 0 n (omega arith) (omega arith) l none in
      omega (arith, distinct-few (take n t) all.keys all.accessed)

  -- ---- beside a conservative cache

  module _ (c d w e : ℕ) (cache : ℕ → List ℕ) (conservative : IsConservative c t (strategy_misses t cache)) (wide : d + h ≤ c + 1) (some : 1 ≤ w) where
    -- a stretch from a miss on, where the strategy's misses are counted from the place start, and the cache's last w
    record Opening (from : ℕ) : Type 0 where
      start : ℕ
      behind : from ≤ start
      near : start ≤ suc from
      misses : strategy_misses t cache from + c + 1 ≡ strategy_misses t cache start + w
      cover : Cover h from start start

    -- the place of the cache's miss number a, counted from 0
    record PlaceOfMiss (a n : ℕ) : Type 0 where
      place : ℕ
      before : place < n
      misses : strategy_misses t cache place ≡ a
      next : strategy_misses t cache (suc place) ≡ suc a

    place-of-miss : (a n : ℕ) → a < strategy_misses t cache n → PlaceOfMiss a n
    place-of-miss a zero h = absurd (omega (arith, h))
    place-of-miss a (suc n) h =
        let k : ℕ = get_or t n 0 in
        let next : strategy_misses t cache (suc n) ≡ strategy_misses t cache n + one_if (not (has_key k (cache n))) = misses-next t cache n in
        let one : one_if (not (has_key k (cache n))) ≤ 1 = one-few (not (has_key k (cache n))) in
        elim (cases_lt a (strategy_misses t cache n)) [
          | inl f ↦ let p = place-of-miss a n f in let less : p.place < n = p.before in record { place = p.place; before = omega (arith, less); misses = p.misses; next = p.next }
          | inr f ↦ record { place = n; before = omega arith; misses = omega (arith, f, h, next, one); next = omega (arith, f, h, next, one) }
        ]

    -- the strategy misses at least d times in a stretch in which the cache misses more than c times
    gains : (from n : ℕ) (o : Opening from) → o.start ≤ n → n ≤ length t → strategy_misses t cache from + c < strategy_misses t cache n → strategy_misses t other o.start + d ≤ strategy_misses t other n
    gains from n o g l many =
        let behind : from ≤ o.start = o.behind in
        let all = cover-up h from o.start n behind g l o.cover in
        let few : length all.keys + strategy_misses t other o.start ≤ h + strategy_misses t other n = all.few in
        let held : length (distinct_keys (stretch t from n)) ≤ length all.keys = distinct-few (stretch t from n) all.keys all.accessed in
        grind (arith, nat_tests, few, behind)

    module _ (opens : (from : ℕ) → from < length t → strategy_misses t cache (suc from) ≡ suc (strategy_misses t cache from) → Opening from)
        (few_misses : (n : ℕ) → n ≤ length t → strategy_misses t cache n ≤ c → d * strategy_misses t cache n ≤ w * strategy_misses t other n + e) where
      bound-below : (b n : ℕ) → n < b → n ≤ length t → d * strategy_misses t cache n ≤ w * strategy_misses t other n + e
      bound-below zero n below l = absurd (omega (arith, below))
      bound-below (suc b) n below l =
          elim (cases_lt c (strategy_misses t cache n)) [
            | inr few ↦ few_misses n l (omega (arith, few))
            | inl many ↦
                let at = place-of-miss (strategy_misses t cache n - (c + 1)) n (omega (arith, many)) in
                let p : ℕ = at.place in
                let before : p < n = at.before in
                let first : strategy_misses t cache p ≡ strategy_misses t cache n - (c + 1) = at.misses in
                let next : strategy_misses t cache (suc p) ≡ suc (strategy_misses t cache n - (c + 1)) = at.next in
                let o : Opening p = opens p (omega (arith, before, l)) (omega (arith, first, next)) in
                let near : o.start ≤ suc p = o.near in
                let misses : strategy_misses t cache p + c + 1 ≡ strategy_misses t cache o.start + w = o.misses in
                let exact : strategy_misses t cache n ≡ strategy_misses t cache o.start + w = omega (arith, misses, first, many) in
                let less : o.start < n = grind (arith, nat_tests, cases_eq o.start n, near, before, exact, some) in
                let rest : d * strategy_misses t cache o.start ≤ w * strategy_misses t other o.start + e = bound-below b o.start (omega (arith, below, less)) (omega (arith, less, l)) in
                let gain : strategy_misses t other o.start + d ≤ strategy_misses t other n = gains p n o (omega (arith, less)) l (omega (arith, first, many)) in
                let left : d * strategy_misses t cache n ≡ d * strategy_misses t cache o.start + d * w = ap (λ x. d * x) exact ∙ mul-add d (strategy_misses t cache o.start) w in
                let right : w * (strategy_misses t other o.start + d) ≤ w * strategy_misses t other n = mul-le-mul_left w gain in
                let sum : w * (strategy_misses t other o.start + d) ≡ w * strategy_misses t other o.start + w * d = mul-add w (strategy_misses t other o.start) d in
                let swap : d * w ≡ w * d = mul_comm d w in
                omega (arith, rest, left, right, sum, swap)
          ]

-- ---- the bounds

module _ (c h : ℕ) (t : List ℕ) (cache other : ℕ → List ℕ) (conservative : IsConservative c t (strategy_misses t cache)) (is : IsStrategy h t other) where
  too-large : (x y : ℕ) → c + 1 ≤ h → (c + 1 - h) * x ≤ y
  too-large x y l = let none : c + 1 - h ≡ 0 = omega (arith, l) in rw none (omega arith)

  competes : (e : ℕ) → ((n : ℕ) → n ≤ length t → strategy_misses t cache n ≤ c → (c + 1 - h) * strategy_misses t cache n ≤ (c + 1) * strategy_misses t other n + e)
      → (n : ℕ) → n ≤ length t → (c + 1 - h) * strategy_misses t cache n ≤ (c + 1) * strategy_misses t other n + e
  competes e few n l =
      elim (cases_lt h (c + 1)) [
        | inl less ↦
            let wide : (c + 1 - h) + h ≤ c + 1 = omega (arith, less) in
            let some : 1 ≤ c + 1 = omega arith in
            bound-below h t other is c (c + 1 - h) (c + 1) e cache conservative wide some
            (λ p r missed. record { start = p; behind = omega arith; near = omega arith; misses = omega arith; cover = cover-here h t other is p (omega (arith, r)) }) few (suc n) n (omega arith) l
        | inr more ↦ too-large _ _ more
      ]

  competes-without-bypass : (e : ℕ) → NeverBypasses t other → (1 ≤ h → (n : ℕ) → n ≤ length t → strategy_misses t cache n ≤ c → (c + 1 - h) * strategy_misses t cache n ≤ c * strategy_misses t other n + e)
      → (n : ℕ) → n ≤ length t → (c + 1 - h) * strategy_misses t cache n ≤ c * strategy_misses t other n + e
  competes-without-bypass e never few n l =
      elim (cases_lt 0 (length t)) [
        | inr none ↦ let first : n ≡ 0 = omega (arith, none, l) in rw first (omega arith)
        | inl some ↦
            let room : 1 ≤ h = (omega (arith, is.fits 1 (omega (arith, some)), has-some (get_or t 0 0) (other 1) (never 0 some))) in
            elim (cases_lt h (c + 1)) [
              | inl less ↦
                  let wide : (c + 1 - h) + h ≤ c + 1 = omega (arith, less) in
                  let fits : 1 ≤ c = omega (arith, room, less) in
                  bound-below h t other is c (c + 1 - h) c e cache conservative wide fits
                  (λ p r missed. record { start = suc p; behind = omega arith; near = omega arith; misses = omega (arith, missed); cover = cover-behind h t other is p r (never p r) }) (few room) (suc n) n (omega arith) l
              | inr more ↦ too-large _ _ more
            ]
      ]

  -- a cache that fills up first: its first c misses are misses of the strategy too
  filling : FillsFirst c t (strategy_misses t cache) → (w : ℕ) → c + 1 - h ≤ w → (n : ℕ) → n ≤ length t → strategy_misses t cache n ≤ c → (c + 1 - h) * strategy_misses t cache n ≤ w * strategy_misses t other n + 0
  filling fills w wide n l few =
      search (arith, misses-all h t other is n l, mul-le-mul_right (strategy_misses t cache n) wide, mul-le-mul_left)

pub conservative_competes : ConservativeCompetes
conservative_competes c h t cache other n conservative is l =
    competes c h t cache other conservative is ((c + 1 - h) * c) (λ i r few. let most = mul-le-mul_left (c + 1 - h) few in omega (arith, most)) n l

pub conservative_competes_without_bypass : ConservativeCompetesWithoutBypass
conservative_competes_without_bypass c h t cache other n conservative is never l =
    competes-without-bypass c h t cache other conservative is ((c + 1 - h) * c) never (λ room i r few. let most = mul-le-mul_left (c + 1 - h) few in omega (arith, most)) n l

pub filling_competes : FillingCompetes
filling_competes c h t cache other n conservative fills is l =
    let bound = competes c h t cache other conservative is 0 (filling c h t cache other conservative is fills (c + 1) (omega arith)) n l in
    omega (arith, bound)

pub filling_competes_without_bypass : FillingCompetesWithoutBypass
filling_competes_without_bypass c h t cache other n conservative fills is never l =
    let bound = competes-without-bypass c h t cache other conservative is 0 never (λ room. filling c h t cache other conservative is fills c (omega (arith, room))) n l in
    omega (arith, bound)
