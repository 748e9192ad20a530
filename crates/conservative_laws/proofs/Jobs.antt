-- The jobs of Lru, FIFO and CLOCK: their misses are those of the definitions over plain keys.
use Rattle.std.proofs.Common.{◌≡◌, ℕ, zero, suc, ◌+◌, ◌<◌, ◌≤◌, true, false, not, List, [], ◌∷◌, ◌++◌, length, take, get_or, count_by, ap, ◌∙◌, sym, arith, ◌-◌, ◌*◌, map, refl, subst, inl, inr}
use Rattle.std.proofs.lemmas.Bool.{cases_eq, cases_lt}
use Rattle.std.proofs.lemmas.List.{length-take-le, take_all}
use Rattle.std.proofs.lemmas.Bool.Decides.{nat_tests}
use Rattle.replacement.proofs.Residents.{has-append}
use Rattle.engine_base.specs.Keys.{has_key}
use Rattle.engine_base.specs.Machine.{Machine, after, outcomes}
use Rattle.engine_base.specs.Stats.{is_hit, is_miss, is_eviction, one_if}
use Rattle.engine_base.specs.declared.outcome.Outcome.TheVariants.{Rejected}
use Rattle.engine_base.proofs.Counting.{hits-misses, count-cons}
use Rattle.engine_base.proofs.Machine.{outcomes-long}
use Rattle.step_record.specs.declared.job.Policy.TheVariants.{Lru, Fifo, Clock}
use Rattle.policy_pages.specs.PolicyPage.{PolicyPage, page_machine}
use Rattle.policy_pages.specs.Residents.{IsAccess, AreResidents, KeepsResidents, Outcome}
use Rattle.policy_pages.proofs.Residents.{page-keeps}
use Rattle.demand_cache.specs.declared.demand_policy.DemandPolicy.TheVariants as sized
use Rattle.demand_cache.specs.declared.demand_policy.DemandPolicy.{DemandPolicy}
use Rattle.demand_cache.specs.DemandPolicy.{page_of, outcomes_of_page}
use Rattle.demand_cache.proofs.Keeping.{pages-sound}
use Rattle.queue_cache.specs.Theorems.{LruStepLaw}
use Rattle.policies.specs.declared.design.Design.TheVariants as design
use Rattle.policies.specs.Design.{design_of}
use Rattle.policies.specs.AnyPolicy.{Job, demand_outcomes, outcomes_by, outcomes_on, stats_on}
use Rattle.policies.specs.Theorems.{AnyCoversTrace}
use Rattle.policies.proofs.Designs.{design-named}
use Rattle.policy_laws.specs.Strategy.{IsStrategy, strategy_misses}
use Rattle.policy_laws.specs.Optimality.{BeladyIsStrategy}
use Rattle.policy_laws.proofs.Beaten.{ActsAsStrategy, acts-as-strategy}
use Rattle.policy_laws.proofs.Lru.{lru_at}
use Rattle.policy_laws.proofs.Strategies.{IsOnline, strategy, hits-are, served}
use Rattle.conservative_laws.specs.Conservative.{FillsFirst, misses_on, IsConservative}
use Rattle.conservative_laws.specs.Theorems.{FillingCompetes, FillingCompetesWithoutBypass, LruFifoClockAreConservative, LruFifoClockCompete, LruFifoClockCompeteWithoutBypass, LruFifoClockTwiceAsLarge, LruFifoClockCompeteWithAny, IsLruFifoOrClock}
use Rattle.conservative_laws.proofs.Stretches.{misses-next, once-few, stretch-next, none-hit, at-most-twice, stats-misses, misses-by, lru-misses, empty-conservative, state_at, next-is, stands-at}
use Rattle.conservative_laws.proofs.Lru.{lru-conservative, lru-fills}
use Rattle.conservative_laws.proofs.Fifo.{fifo-conservative}
use Rattle.conservative_laws.proofs.Clock.{clock-conservative}

-- ---- A policy that keeps every missed key

-- Its misses are those by its residents, and it fills up before it evicts.

miss-is : (o : Outcome) → is_miss o ≡ not (is_hit o)
miss-is v = grind (arith, nat_tests)

-- the residents of a strategy came before
among : (h : ℕ) (t : List ℕ) (residents : ℕ → List ℕ) → IsStrategy h t residents → (n : ℕ) → n ≤ length t → (x : ℕ) → has_key x (residents n) ≡ true → has_key x (take n t) ≡ true
among h t residents is zero l x g = absurd (let no : false ≡ true = ap (has_key x) (sym is.empty) ∙ g in cc (no))
among h t residents is (suc n) l x g =
    let k : ℕ = get_or t n 0 in
    let longer : take (suc n) t ≡ take n t ++ k ∷ [] = stretch-next t 0 n (omega arith) (omega (arith, l)) in
    let rest = among h t residents is n (omega (arith, l)) x in
    rw longer (grind (arith, nat_tests, rest, has-append x (take n t) (k ∷ []), cases_eq x k))

-- what the definition holds before the access at each place
abbrev held_at : PolicyPage → ℕ → List ℕ → ℕ → List ℕ
held_at g c t n = g.residents (state_at (page_machine g c) t n)

module _ (g : PolicyPage) (c : ℕ) (all : KeepsResidents c g.start (g.act c) g.residents (g.IsState c)) (t : List ℕ) where
  abbrev m : Machine
  m = page_machine g c

  abbrev held : ℕ → List ℕ
  held n = held_at g c t n

  online : IsOnline c (λ keys. g.residents (after m keys)) (λ keys. count_by is_hit (outcomes m keys))
  online = served c m (page-keeps g c all)

  stood : (n : ℕ) → g.IsState c (state_at m t n)
  stood n = stands-at m t c (page-keeps g c all) n

  pub misses-are : (n : ℕ) → n ≤ length t → count_by is_miss (outcomes m (take n t)) ≡ strategy_misses t held n
  misses-are n l =
      let both = hits-misses (outcomes m (take n t)) in
      omega (arith, hits-are c _ _ online t n l, both, outcomes-long (g.act c) g.start (take n t), length-take-le n t l)

  access-at : (n : ℕ) → n < length t → IsAccess c (get_or t n 0) (held n) (g.act c (get_or t n 0) (state_at m t n)).0 (held (suc n))
  access-at n l =
      subst (λ s. IsAccess c (get_or t n 0) (held n) (g.act c (get_or t n 0) (state_at m t n)).0 (g.residents s)) (sym (next-is m t n l))
      (all.accesses (get_or t n 0) (state_at m t n) (stood n))

  -- so long as it has missed at most c times, it holds a key for each miss
  one-each : (n : ℕ) → n ≤ length t → strategy_misses t held n ≤ c → length (held n) ≡ strategy_misses t held n
  one-each zero l few = ap length all.starts.1
  one-each (suc n) l few =
      let k : ℕ = get_or t n 0 in
      let o : Outcome = (g.act c k (state_at m t n)).0 in
      let a : IsAccess c k (held n) o (held (suc n)) = access-at n (omega (arith, l)) in
      let next : strategy_misses t held (suc n) ≡ strategy_misses t held n + one_if (not (has_key k (held n))) = misses-next t held n in
      let rest : length (held n) ≡ strategy_misses t held n = one-each n (omega (arith, l)) (omega (arith, few, next)) in
      let counts : length (held (suc n)) + one_if (is_eviction o) ≡ length (held n) + one_if (is_miss o) = a.counts in
      let missed : one_if (is_miss o) ≡ one_if (not (has_key k (held n))) = ap one_if (miss-is o ∙ ap not a.hits) in
      let none : one_if (is_eviction o) ≡ 0 = grind (arith, nat_tests, a.evicts, next, rest, few) in
      omega (arith, next, rest, counts, missed, none)

  pub fills-first : FillsFirst c t (strategy_misses t held)
  fills-first n l few =
      let own : AreResidents c (held n) = all.holds _ (stood n) in
      omega (arith, one-each n l few, once-few (held n) (take n t) own.distinct (among c t held (strategy c _ _ online t) n l))

-- ---- the misses of a job

misses-counted : (j : Job) (keys : List ℕ) → (stats_on j keys).misses ≡ count_by is_miss (outcomes_on j keys)
unfolding stats_on
misses-counted j keys = refl

paged : (p : DemandPolicy) (c : ℕ) (keys : List ℕ) → 1 ≤ c → demand_outcomes p c keys ≡ outcomes_of_page p c keys
paged p zero keys room = absurd (omega (arith, room))
paged p (suc c) keys room = refl

pub page-misses : (p : DemandPolicy) (j : Job) (keys : List ℕ) → design_of j ≡ design.Demand p → 1 ≤ j.config.capacity
    → (stats_on j keys).misses ≡ count_by is_miss (outcomes_of_page p j.config.capacity keys)
page-misses p j keys is room =
    misses-counted j keys ∙ ap (λ x. count_by is_miss (outcomes_by x j keys)) is ∙ ap (count_by is_miss) (paged p j.config.capacity keys room)

-- without room each access is a miss
pub all-rejected : (keys : List ℕ) → count_by is_miss (map (λ k. Rejected k) keys) ≡ length keys
all-rejected [] = refl
all-rejected (k ∷ keys) = let rest = all-rejected keys in omega (arith, rest, count-cons is_miss (Rejected k) (map (λ k. Rejected k) keys))

-- ---- as a conservative cache

-- residents before each place of a trace, with the misses of the job
record ActsConservatively (j : Job) (t : List ℕ) : Type 0 where
  cache : ℕ → List ℕ
  misses : (n : ℕ) → n ≤ length t → misses_on j t n ≡ strategy_misses t cache n
  conservative : IsConservative j.config.capacity t (strategy_misses t cache)
  fills : FillsFirst j.config.capacity t (strategy_misses t cache)

acts-empty : (j : Job) (t : List ℕ) → j.config.capacity ≡ 0 → ((keys : List ℕ) → (stats_on j keys).misses ≡ length keys) → ActsConservatively j t
acts-empty j t none all = record {
  cache = λ i. [];
  misses = λ n l. all (take n t) ∙ (length-take-le n t l ∙ sym (none-hit t n));
  conservative = subst (λ c. IsConservative c t (strategy_misses t (λ i. []))) (sym none) (empty-conservative t (strategy_misses t (λ i. [])));
  fills = λ n l few. omega (arith, few, none);
}

acts-lru : LruStepLaw → AnyCoversTrace → (j : Job) (t : List ℕ) → j.policy ≡ Lru → ActsConservatively j t
acts-lru law covers j t is = record {
  cache = lru_at j.config.capacity t;
  misses = λ n l. lru-misses law covers j t n is l;
  conservative = lru-conservative j.config.capacity t;
  fills = lru-fills j.config.capacity t;
}

-- of a policy that keeps each missed key, by its definition
acts-by-page : (p : DemandPolicy) (j : Job) (t : List ℕ) → design_of j ≡ design.Demand p
    → ((c : ℕ) → 1 ≤ c → IsConservative c t (strategy_misses t (held_at (page_of p) c t)))
    → ActsConservatively j t
acts-by-page p j t is conservative =
    let c : ℕ = j.config.capacity in
    elim (cases_lt 0 c) [
      | inl room ↦ record {
        cache = held_at (page_of p) c t;
        misses = λ n l. page-misses p j (take n t) is room ∙ misses-are (page_of p) c ((pages-sound p).keeps c room) t n l;
        conservative = conservative c room;
        fills = fills-first (page_of p) c ((pages-sound p).keeps c room) t;
      }
      | inr less ↦
          let none : c ≡ 0 = omega (arith, less) in
          acts-empty j t none (λ keys. misses-counted j keys ∙ ap (λ x. count_by is_miss (outcomes_by x j keys)) is
          ∙ ap (λ n. count_by is_miss (demand_outcomes p n keys)) none ∙ all-rejected keys)
    ]

acts-conservatively : LruStepLaw → AnyCoversTrace → (j : Job) (t : List ℕ) → IsLruFifoOrClock j.policy → ActsConservatively j t
acts-conservatively lru covers j t (inl is) = acts-lru lru covers j t is
acts-conservatively lru covers j t (inr (inl is)) = acts-by-page sized.Fifo j t (design-named j Fifo is) (λ c room. fifo-conservative c t room)
acts-conservatively lru covers j t (inr (inr is)) = acts-by-page sized.Clock j t (design-named j Clock is) (λ c room. clock-conservative c t room)

-- ---- the laws

pub are_conservative : LruStepLaw → AnyCoversTrace → LruFifoClockAreConservative
are_conservative lru covers j t is i n h l few = search (arith, acts-conservatively lru covers j t is)

pub compete : FillingCompetes → LruStepLaw → AnyCoversTrace → LruFifoClockCompete
compete filling lru covers j t h strategy n is s l = search (arith, acts-conservatively lru covers j t is)

pub compete_without_bypass : FillingCompetesWithoutBypass → LruStepLaw → AnyCoversTrace → LruFifoClockCompeteWithoutBypass
compete_without_bypass filling lru covers j t h strategy n is s never l =
    grind (arith, nat_tests, acts-conservatively lru covers j t is)

pub twice_as_large : LruFifoClockCompete → LruFifoClockTwiceAsLarge
twice_as_large law j t h strategy n is wide s l = search (arith, at-most-twice)

pub compete_with_any : LruFifoClockCompete → AnyCoversTrace → BeladyIsStrategy → LruFifoClockCompeteWithAny
compete_with_any law covers best j other t is =
    let h : ℕ = other.config.capacity in
    let n : ℕ = length t in
    let all : take n t ≡ t = take_all n t (omega arith) in
    let own : ActsAsStrategy h t (stats_on other t).hits = acts-as-strategy best other t in
    let same = misses-by t own.residents n _ _ (stats-misses covers other t) own.same in
    rw same (subst (λ l. (j.config.capacity + 1 - h) * (stats_on j l).misses ≤ (j.config.capacity + 1) * strategy_misses t own.residents n) all (law j t h own.residents n is own.strategy (omega arith)))
