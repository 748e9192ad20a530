-- The queue from which a key leaves by the next access.
use Rattle.std.proofs.Common.{◌≡◌, ◌∙◌, ℕ, true, false, Option, Some, None, List, ap, sym, refl, arith}
use Rattle.std.proofs.lemmas.Bool.Decides.{nat_tests}
use Rattle.std.specs.Prelude.{option_and_then}
use Rattle.engine_base.specs.Keys.{has_key}
use Rattle.engine_base.specs.declared.outcome.Outcome.TheVariants.{Hit, Kept, Evicted, Rejected}
use Rattle.engine_base.proofs.Limited.{accepted-where}
use Rattle.queue_cache.specs.AdaptiveCache.{AdaptiveCacheState}
use Rattle.clairvoyant.specs.Clairvoyant.{ClairvoyantState, clairvoyant_access, clairvoyant_act, is_next}
use Rattle.clairvoyant.specs.NextAccesses.{clairvoyant_queues}
use Rattle.clairvoyant.specs.declared.optimal_record.OptimalRecord.{OptimalRecord}
use Rattle.clairvoyant.proofs.Belady.{Accesses, hit, kept, rejected, evicted, accesses}
use Rattle.clairvoyant.proofs.NextAccesses.{keys-kept}
use Rattle.segments.specs.KeyRow.{left_key, row_left, row_of}
use Rattle.segments.specs.SegmentKeys.{AreKeys}
use Rattle.queue_cache.specs.QueueCache.{QueueState}
use Rattle.policies.specs.declared.any_policy.AnyPolicy.TheVariants.{Queues, Optimal, Adaptive}
use Rattle.policies.specs.AnyPolicy.{AnyPolicy, Outcome, any_queues}
use Rattle.policies.specs.AnyCounts.{IsOptimalStep, optimal_step}
use Rattle.policies.specs.Accesses.{CanAnswer}
use Rattle.policies.proofs.Machines.{run_of, run-stands}

-- the queues of the policies of queues have keys alone
pub queues-keys : (o : Outcome) (d : QueueState) → CanAnswer o (Queues d) → AreKeys d.queues
queues-keys o d c = (run-stands c.job c.trace c.keys (run_of c.job c.trace c.keys (Queues d) tt c.stands)).nodeless

pub adaptive-keys : (o : Outcome) (d : AdaptiveCacheState) → CanAnswer o (Adaptive d) → AreKeys d.window.queues
adaptive-keys o d c = (run-stands c.job c.trace c.keys (run_of c.job c.trace c.keys (Adaptive d) tt c.stands)).nodeless

-- ---- of the optimal policy: a resident key stands in the one queue, no other key does

row-of-resident : (k : ℕ) (d : ClairvoyantState) → has_key k d.residents ≡ true → row_of k (clairvoyant_queues d) ≡ Some 0
row-of-resident k d h = let all = ap (has_key k) (keys-kept d.trace d.stats.accesses d.residents) in grind (arith, nat_tests)

row-of-other : (k : ℕ) (d : ClairvoyantState) → has_key k d.residents ≡ false → row_of k (clairvoyant_queues d) ≡ None
row-of-other k d h = let all = ap (has_key k) (keys-kept d.trace d.stats.accesses d.residents) in grind (arith, nat_tests)

evicts-resident : (c : ℕ) (t : List ℕ) (i k : ℕ) (r : List ℕ) (u : OptimalRecord) (o : Outcome) (n : List ℕ) → Accesses c t i k r u o n
    → (v : ℕ) → Evicted v ≡ o → has_key v r ≡ true
evicts-resident c t i k r u o n (hit e) v h = absurd (cc h)
evicts-resident c t i k r u o n (kept e few) v h = absurd (cc h)
evicts-resident c t i k r u o n (rejected e) v h = absurd (cc h)
evicts-resident c t i k r u o n (evicted w e there) v h = let same : v ≡ w = cc h in rw same there

rejects-other : (c : ℕ) (t : List ℕ) (i k : ℕ) (r : List ℕ) (u : OptimalRecord) (o : Outcome) (n : List ℕ) → Accesses c t i k r u o n
    → (v : ℕ) → Rejected v ≡ o → has_key v r ≡ false
rejects-other c t i k r u o n (hit e) v h = absurd (cc h)
rejects-other c t i k r u o n (kept e few) v h = absurd (cc h)
rejects-other c t i k r u o n (rejected e) v h = let same : v ≡ k = cc h in rw same e
rejects-other c t i k r u o n (evicted w e there) v h = absurd (cc h)

answer-is : (o : Outcome) (d : ClairvoyantState) (c : CanAnswer o (Optimal d)) → o ≡ (clairvoyant_access c.next d).0
answer-is o d c =
    let s : IsOptimalStep (clairvoyant_act d c.next) o c.after = optimal_step (clairvoyant_act d c.next) o c.after c.answers in
    (accepted-where (is_next d c.next) (clairvoyant_access c.next d) o s.next s.steps).outcome

pub evicted-row : (v : ℕ) (d : ClairvoyantState) → CanAnswer (Evicted v) (Optimal d) → row_of v (clairvoyant_queues d) ≡ Some 0
evicted-row v d c =
    let all = accesses d.capacity d.trace d.stats.accesses c.next d.residents in
    row-of-resident v d (evicts-resident d.capacity d.trace d.stats.accesses c.next d.residents _ _ _ all v (answer-is (Evicted v) d c))

pub rejected-row : (v : ℕ) (d : ClairvoyantState) → CanAnswer (Rejected v) (Optimal d) → row_of v (clairvoyant_queues d) ≡ None
rejected-row v d c =
    let all = accesses d.capacity d.trace d.stats.accesses c.next d.residents in
    row-of-other v d (rejects-other d.capacity d.trace d.stats.accesses c.next d.residents _ _ _ all v (answer-is (Rejected v) d c))

-- ---- by the key that leaves

pub left-in : (o : Outcome) (k : ℕ) (d e : AnyPolicy) → left_key o ≡ Some k → d ≡ e → row_of k (any_queues e) ≡ row_left o (any_queues d)
left-in o k d e left same =
    sym (ap (λ (x : AnyPolicy). row_left o (any_queues x)) same ∙ ap (option_and_then (λ (j : ℕ). row_of j (any_queues e))) left)

pub optimal-left : (o : Outcome) (k : ℕ) (d : ClairvoyantState) (row : Option ℕ) → CanAnswer o (Optimal d) → left_key o ≡ Some k
    → ((v : ℕ) → o ≡ Evicted v → row ≡ Some 0) → ((v : ℕ) → o ≡ Rejected v → row ≡ None) → row ≡ row_left o (any_queues (Optimal d))
optimal-left Hit k d row c left out in_ = absurd (cc left)
optimal-left Kept k d row c left out in_ = absurd (cc left)
optimal-left (Evicted v) k d row c left out in_ = out v refl ∙ sym (evicted-row v d c)
optimal-left (Rejected v) k d row c left out in_ = in_ v refl ∙ sym (rejected-row v d c)
