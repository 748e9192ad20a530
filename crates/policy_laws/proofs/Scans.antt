-- A scan leaves protected as it was.
use Rattle.std.proofs.Common.{◌≡◌, ◌⊎◌, ℕ, Bool, true, false, eqb, None, List, [], ◌∷◌, ap, ◌∙◌, refl, arith}
use Rattle.std.proofs.lemmas.Bool.Decides.{nat_tests}
use Rattle.std.proofs.lemmas.Bool.{lt-ltb, cases_eq}
use Rattle.engine_base.specs.Keys.{has_key}
use Rattle.segments.specs.declared.records.Queue.TheVariants.{Probation}
use Rattle.segments.specs.Items.{Item, nodeless_item}
use Rattle.segments.specs.Queues.{Queues, queue_holding, IsDistinct, residents_in}
use Rattle.segments.proofs.QueueLists.{without-none, stands, first-stands}
use Rattle.replacement.specs.declared.rules.Placement.TheVariants.{Direct}
use Rattle.replacement.specs.Table.{response_without_trial, access}
use Rattle.replacement.proofs.Planned.{access-at}
use Rattle.replacement.proofs.Balance.{stands-once}
use Rattle.replacement.proofs.Residents.{resident-queued}
use Rattle.engine_base.specs.Machine.{state_after_all, KeepsKeys}
use Rattle.engine_base.proofs.Machine.{state-append}
use Rattle.queue_cache.specs.SegmentedLru.{segmented_lru}
use Rattle.queue_cache.specs.TinyLfu.{tiny_lfu}
use Rattle.queue_cache.specs.Design.{Rules, rules_of}
use Rattle.queue_cache.specs.declared.design.QueueSetup.{QueueSetup}
use Rattle.queue_cache.specs.QueueCache.{QueueState, queue_access, queue_machine, empty_queue_state, state_after, IsQueueState}
use Rattle.queue_cache.proofs.Balance.{queue-keeps, after-stands}
use Rattle.policy_laws.proofs.Optimal.{no}
use Rattle.policy_laws.specs.Scans.{IsScan, ScansSpareProtected}

-- ---- a miss of a policy whose new keys join probation

module _ (r : Rules) (admits : ℕ → ℕ → Bool) (i : Item) (s : Queues) (u : IsDistinct s) where
  miss-spares : (response_without_trial r admits Probation i s).queues.protected ≡ s.protected
  miss-spares = grind (arith, nat_tests, first-stands, without-none)

  access-spares : r.placement ≡ Direct Probation → queue_holding i s ≡ None → (access r admits i s).queues.protected ≡ s.protected
  access-spares p none = grind (arith, nat_tests, access-at r admits i s None none, miss-spares)

-- ---- a key that is not resident

not-held : (s : QueueSetup) (k : ℕ) (d : QueueState) → IsQueueState s d → has_key k (residents_in d.queues) ≡ false → queue_holding (nodeless_item k) d.queues ≡ None
not-held s k d h none = grind (arith, nat_tests, stands-once, stands, no, lt-ltb, resident-queued)

-- what else is to be scanned is not resident after the first of the keys
scan-on : (k : ℕ) (r after ks : List ℕ) → ((x : ℕ) → has_key x after ≡ true → (x ≡ k) ⊎ (has_key x r ≡ true)) → has_key k ks ≡ false → IsScan r ks → IsScan after ks
scan-on k r after [] came apart scan = tt
scan-on k r after (a ∷ ks) came apart scan =
    let e : eqb k a ≡ false = grind (arith, nat_tests) in
    let out : has_key a after ≡ false = grind (arith, nat_tests, came a, scan.0, e, cases_eq k a) in
    (out, scan.1, scan-on k r after ks came (rw e at apart) scan.2)

-- ---- the scan

module _ (s : QueueSetup) (places : (rules_of s).placement ≡ Direct Probation) where
  one-spared : (d : QueueState) (k : ℕ) → IsQueueState s d → has_key k (residents_in d.queues) ≡ false → (queue_access k d).1.queues.protected ≡ d.queues.protected
  one-spared d k h none = grind (arith, nat_tests, access-spares, not-held s k d h none)

  all-spared : (d : QueueState) (scan : List ℕ) → IsQueueState s d → IsScan (residents_in d.queues) scan → (state_after_all queue_access d scan).queues.protected ≡ d.queues.protected
  all-spared d [] h scan = refl
  all-spared d (k ∷ ks) h scan =
      let all : KeepsKeys s.config.capacity (queue_machine s) = queue-keeps s in
      let e : QueueState = (queue_access k d).1 in
      let rest : IsScan (residents_in e.queues) ks = scan-on k (residents_in d.queues) (residents_in e.queues) ks (all.accesses k d h).came scan.1 scan.2 in
      all-spared e ks (all.keeps k d h) rest ∙ one-spared d k h scan.0

segmented-places : (s : QueueSetup) → (s.design ≡ segmented_lru) ⊎ (s.design ≡ tiny_lfu segmented_lru) → (rules_of s).placement ≡ Direct Probation
segmented-places s v = grind (arith, nat_tests)

-- the accesses of a scan go on from those before it
pub scans_spare_protected : ScansSpareProtected
scans_spare_protected s keys scan segmented is =
    ap (λ (d : QueueState). d.queues.protected) (state-append queue_access (empty_queue_state s) keys scan)
    ∙ all-spared s (segmented-places s segmented) (state_after s keys) scan (after-stands s keys) is
