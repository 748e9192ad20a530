-- Every policy beside Belady's optimal policy.
use Rattle.std.proofs.lemmas.Bool.Decides.{nat_tests}
use Rattle.std.proofs.Common.{◌≡◌, ℕ, ◌≤◌, true, false, count_by, List, length, take, ap, ◌∙◌, sym, arith, inl, inr}
use Rattle.std.proofs.lemmas.Bool.{cases_Bool}
use Rattle.engine_base.specs.Machine.{after}
use Rattle.engine_base.specs.Stats.{is_hit}
use Rattle.clairvoyant.specs.Belady.{belady_residents}
use Rattle.policies.specs.declared.any_policy.AnyPolicy.TheVariants.{Optimal}
use Rattle.policies.specs.Design.{Job, knows_trace}
use Rattle.policies.specs.AnyPolicy.{Stats, stats_in, stats_on, HasAccessed}
use Rattle.policies.proofs.Designs.{optimal-is, optimal-knows}
use Rattle.policies.proofs.Machines.{HasMachine, any_keeps, run_of, run-counted}
use Rattle.policies.proofs.StepLaws.{optimal-outcomes}
use Rattle.policy_laws.specs.Strategy.{IsStrategy, strategy_hits}
use Rattle.policy_laws.specs.Optimality.{belady_hits, BeladyIsOptimal, BeladyIsStrategy, BeladyHitsGrow}
use Rattle.policy_laws.specs.Theorems.{AnyPolicy, NoPolicyBeatsBelady, BeladyLeads, OptimalHitsGrow}
use Rattle.policy_laws.proofs.Strategies.{IsOnline, hits-by, strategy, hits-are, all-hits, served}

stats-optimal : (j : Job) (keys : List ℕ) → knows_trace j.policy ≡ true → (stats_on j keys).hits ≡ belady_hits j.config.capacity keys (length keys)
unfolding stats_on
stats-optimal j keys knows = ap (count_by is_hit) (optimal-outcomes j keys knows)

-- ---- every policy that does not know the trace is a strategy that fetches on demand

-- what its cache holds after the accesses
abbrev pub held_by : (j : Job) → HasMachine j → List ℕ → List ℕ
held_by j a keys = a.machine.residents (after a.machine keys)

pub online : (j : Job) (a : HasMachine j) → IsOnline j.config.capacity (held_by j a) (λ keys. (stats_on j keys).hits)
unfolding stats_on
online j a = hits-by j.config.capacity (held_by j a) _ _ (served j.config.capacity a.machine a.keeps) (λ keys. ap (count_by is_hit) (a.gives keys))

-- ---- every policy as a strategy

-- the residents of a job's cache over the whole trace, as a strategy with as many hits
pub record ActsAsStrategy (c : ℕ) (trace : List ℕ) (hits : ℕ) : Type 0 where
  pub residents : ℕ → List ℕ
  pub strategy : IsStrategy c trace residents
  pub same : strategy_hits trace residents (length trace) ≡ hits

pub acts-as-strategy : BeladyIsStrategy → (j : Job) (trace : List ℕ) → ActsAsStrategy j.config.capacity trace (stats_on j trace).hits
acts-as-strategy best j trace =
    let c : ℕ = j.config.capacity in
    elim (cases_Bool (knows_trace j.policy)) [
      | inl knows ↦ record {
        residents = belady_residents c trace;
        strategy = (best c trace).0;
        same = (best c trace).1 (length trace) ∙ sym (stats-optimal j trace knows);
      }
      | inr other ↦
          let a : HasMachine j = any_keeps j other in
          record {
            residents = λ i. held_by j a (take i trace);
            strategy = strategy c (held_by j a) _ (online j a) trace;
            same = all-hits c (held_by j a) _ (online j a) trace;
          }
    ]

pub no_policy_beats : BeladyIsOptimal → BeladyIsStrategy → NoPolicyBeatsBelady
no_policy_beats optimal_law best j optimal keys is same =
    grind (arith, nat_tests, stats-optimal optimal keys (ap knows_trace is), acts-as-strategy best j keys)

-- ---- two caches at a place of a trace

-- one that knows the trace made its first accesses
record IsFirst (j : Job) (trace keys : List ℕ) (d : AnyPolicy) : Type 0 where
  first : keys ≡ take (length keys) trace
  within : length keys ≤ length trace
  hits : (stats_in d).hits ≡ belady_hits j.config.capacity trace (length keys)

first-accesses : (j : Job) (trace keys : List ℕ) (d : AnyPolicy) → knows_trace j.policy ≡ true → HasAccessed j trace keys d → IsFirst j trace keys d
first-accesses j trace keys v knows s = grind (arith, nat_tests, optimal-is j knows)

-- another has the hits of a job over its accesses
own-hits : (j : Job) (trace keys : List ℕ) (d : AnyPolicy) → knows_trace j.policy ≡ false → HasAccessed j trace keys d → (stats_in d).hits ≡ (stats_on j keys).hits
unfolding stats_on
own-hits j trace keys (Optimal d) other s = absurd (let no : true ≡ false = sym (optimal-knows j s.design) ∙ other in cc (no))
own-hits j trace keys v other s = ap (λ (x : Stats). x.hits) (run-counted j trace keys (run_of j trace keys v tt s))

pub belady_leads : BeladyIsOptimal → BeladyLeads
belady_leads law j optimal trace keys d e s b is same =
    let c : ℕ = j.config.capacity in
    let n : ℕ = length keys in
    let best : IsFirst optimal trace keys e = first-accesses optimal trace keys e (ap knows_trace is) b in
    let at : belady_hits optimal.config.capacity trace n ≡ belady_hits c trace n = ap (λ m. belady_hits m trace n) same in
    let most : (stats_in e).hits ≡ belady_hits c trace n = best.hits ∙ at in
    elim (cases_Bool (knows_trace j.policy)) [
      | inl knows ↦ let own = (first-accesses j trace keys d knows s).hits in omega (arith, most, own)
      | inr other ↦
          let a : HasMachine j = any_keeps j other in
          let own : (stats_in d).hits ≡ (stats_on j (take n trace)).hits = own-hits j trace keys d other s ∙ ap (λ l. (stats_on j l).hits) best.first in
          let more = law c trace (λ i. held_by j a (take i trace)) n (strategy c (held_by j a) _ (online j a) trace) best.within in
          omega (arith, most, own, more, hits-are c (held_by j a) _ (online j a) trace n best.within)
    ]

pub optimal_grows : BeladyHitsGrow → OptimalHitsGrow
optimal_grows law small large keys is are le = grind (arith, nat_tests, stats-optimal)
