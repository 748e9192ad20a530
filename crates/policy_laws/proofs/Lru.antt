-- Lru at two capacities: what it holds at the smaller, it holds at the larger.
use Rattle.std.proofs.Common.{◌≡◌, ℕ, zero, suc, ◌+◌, ◌-◌, ◌≤◌, true, List, [], ◌∷◌, length, take, drop, ap, ◌∙◌, sym, refl, arith, inl, inr, length-drop}
use Rattle.std.proofs.lemmas.Bool.Decides.{nat_tests}
use Rattle.std.proofs.lemmas.Bool.{cases_lt}
use Rattle.std.proofs.lemmas.List.{drop-drop}
use Rattle.engine_base.specs.Keys.{has_key}
use Rattle.step_record.specs.declared.job.Policy.TheVariants.{Lru}
use Rattle.segments.specs.Queues.{residents_in}
use Rattle.queue_cache.specs.Lru.{lru, distinct_keys, lru_residents}
use Rattle.queue_cache.specs.declared.design.QueueSetup.{QueueSetup}
use Rattle.queue_cache.specs.QueueCache.{queue_machine, state_after}
use Rattle.queue_cache.specs.SingleQueue.{single_queue}
use Rattle.policies.specs.Design.{Job, queue_setup}
use Rattle.policies.specs.AnyPolicy.{stats_on}
use Rattle.policies.proofs.Designs.{design-named}
use Rattle.policies.proofs.Machines.{of-queues}
use Rattle.queue_cache.specs.Theorems.{LruStepLaw}
use Rattle.engine_base.proofs.Machine.{residents-fit}
use Rattle.queue_cache.proofs.Balance.{queue-keeps}
use Rattle.queue_cache.proofs.Recency.{has-drop}
use Rattle.policy_laws.specs.Strategy.{strategy_hits}
use Rattle.policy_laws.specs.Theorems.{LruHitsGrow}
use Rattle.policy_laws.proofs.Strategies.{IsOnline, all-hits}
use Rattle.policy_laws.proofs.Beaten.{online}

-- ---- the residents of Lru

abbrev pub queue_residents : QueueSetup → List ℕ → List ℕ
queue_residents s keys = residents_in (state_after s keys).queues

pub lru-online : (j : Job) → j.policy ≡ Lru → IsOnline j.config.capacity (queue_residents (queue_setup lru j)) (λ keys. (stats_on j keys).hits)
lru-online j is = online j (of-queues lru j (design-named j Lru is))

-- before the access at each place
abbrev pub lru_at : ℕ → List ℕ → ℕ → List ℕ
lru_at c t i = lru_residents c (take i t)

lru-fits : (c : ℕ) (xs : List ℕ) → length (lru_residents c xs) ≤ c
lru-fits c xs = let cut = length-drop (length (distinct_keys xs) - c) (distinct_keys xs) in omega (arith, cut)

pub hits-agree : (t : List ℕ) (r s : ℕ → List ℕ) (n : ℕ) → ((i : ℕ) → r i ≡ s i) → strategy_hits t r n ≡ strategy_hits t s n
hits-agree t r s zero h = refl
hits-agree t r s (suc i) h = rw (hits-agree t r s i h, h i) refl

keys-in : (l : List ℕ) → residents_in (single_queue l) ≡ l
keys-in [] = refl
keys-in (a ∷ l) = ap (λ r. a ∷ r) (keys-in l)

nothing : (l : List ℕ) → length l ≤ 0 → l ≡ []
nothing [] h = refl
nothing (a ∷ l) h = absurd (omega (arith, h))

pub lru-kept : LruStepLaw → (s : QueueSetup) (keys : List ℕ) → s.design ≡ lru → queue_residents s keys ≡ lru_residents s.config.capacity keys
lru-kept stands s keys is =
    let c : ℕ = s.config.capacity in
    elim (cases_lt 0 c) [
      | inl room ↦ ap residents_in (stands s keys 0 is room).0 ∙ keys-in (lru_residents c keys)
      | inr empty ↦ nothing (queue_residents s keys) (omega (arith, residents-fit c (queue_machine s) (queue-keeps s) keys, empty)) ∙ sym (nothing (lru_residents c keys) (omega (arith, lru-fits c keys, empty)))
    ]

-- ---- a larger capacity

lru-among : (c d k : ℕ) (xs : List ℕ) → c ≤ d → has_key k (lru_residents c xs) ≡ true → has_key k (lru_residents d xs) ≡ true
lru-among c d k xs le h =
    let l : List ℕ = distinct_keys xs in
    let n : ℕ = length l - d in
    let more : length l - c ≡ n + (length l - c - n) = omega (arith, le) in
    has-drop k (length l - c - n) (drop n l) (ap (has_key k) (drop-drop (length l - c - n) n l ∙ ap (λ m. drop m l) (sym more)) ∙ h)

hits-more : (t : List ℕ) (r s : ℕ → List ℕ) (n : ℕ) → ((i k : ℕ) → has_key k (r i) ≡ true → has_key k (s i) ≡ true) → strategy_hits t r n ≤ strategy_hits t s n
hits-more t r s zero h = omega arith
hits-more t r s (suc i) h = grind (arith, nat_tests, hits-more t r s i h)

lru-hits : LruStepLaw → (j : Job) (trace : List ℕ) → j.policy ≡ Lru → (stats_on j trace).hits ≡ strategy_hits trace (lru_at j.config.capacity trace) (length trace)
lru-hits stands j trace is =
    let s : QueueSetup = queue_setup lru j in
    sym (all-hits j.config.capacity (queue_residents s) _ (lru-online j is) trace)
    ∙ hits-agree trace (λ i. queue_residents s (take i trace)) (lru_at j.config.capacity trace) (length trace) (λ i. lru-kept stands s (take i trace) refl)

pub lru_hits_grow : LruStepLaw → LruHitsGrow
lru_hits_grow stands small large trace is are le = grind (arith, nat_tests, lru-hits, hits-more, lru-among)
