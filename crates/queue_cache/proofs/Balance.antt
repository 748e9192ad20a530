-- What a cache of queues keeps of its items, and of its residents.
use Rattle.std.proofs.lemmas.Bool.Decides.{nat_tests}
use Rattle.std.proofs.Common.{ℕ, List, ◌∙◌, sym, refl, arith}
use Rattle.engine_base.specs.Machine.{IsCounting}
use Rattle.engine_base.proofs.Machine.{stands}
use Rattle.segments.specs.Items.{nodeless_item}
use Rattle.segments.specs.Queues.{empty_queues}
use Rattle.replacement.specs.Admission.{admits_in}
use Rattle.replacement.proofs.Balance.{FitsBy, fits-total, IsBalanced, balanced}
use Rattle.replacement.proofs.Residents.{residents-length, resident-queued, resident-once, still-nodeless, queued-from}
use Rattle.queue_cache.specs.declared.design.Layout.{Layout}
use Rattle.queue_cache.specs.Design.{Config, rules_by, rules_of}
use Rattle.queue_cache.specs.QueueCache.{QueueSetup, QueueState, recorded_in, access_response, queue_access, IsQueueState, empty_queue_state, queue_machine, state_after}
use Rattle.queue_cache.specs.Theorems.{QueuesKeep}

pub step-balanced : (s : QueueSetup) (k : ℕ) (d : QueueState) → IsQueueState s d → IsBalanced (rules_of d.setup) (nodeless_item k) d.queues (access_response k d)
step-balanced s k d h = balanced (rules_of d.setup) (admits_in (recorded_in k d.frequency)) (nodeless_item k) d.queues h.once h.sizes

next-state : (s : QueueSetup) (k : ℕ) (d : QueueState) → IsQueueState s d → IsQueueState s (queue_access k d).1
next-state s k d h = grind (arith, nat_tests, step-balanced s k d h, still-nodeless)

empty-fits : (l : Layout) (c : Config) → FitsBy (rules_by l c).placement (rules_by l c) empty_queues
empty-fits v c = grind (arith, nat_tests)

empty-state : (s : QueueSetup) → IsQueueState s (empty_queue_state s)
empty-state s = record {
  setup = refl;
  once = λ i. omega arith;
  nodeless = λ i h. absurd (omega (arith, h));
  sizes = empty-fits s.design.layout s.config;
}

pub queue-counting : (s : QueueSetup) → IsCounting (queue_machine s) (λ d. d.stats)
queue-counting s = record { starts = refl; counts = λ k d. refl }

pub queue-keeps : QueuesKeep
queue-keeps s = record {
  empty = refl;
  starts = empty-state s;
  keeps = next-state s;
  accesses = λ k d h.
      let a : IsBalanced (rules_of d.setup) (nodeless_item k) d.queues (access_response k d) = step-balanced s k d h in
      record {
        hits = a.hit ∙ sym (resident-queued k d.queues h.nodeless);
        counts = grind (arith, nat_tests, a, residents-length);
        came = queued-from k d.queues (access_response k d).queues h.nodeless a.came;
      };
  fits = λ d h. grind (arith, nat_tests, fits-total, residents-length);
  distinct = λ d k h. resident-once k d.queues h.once h.nodeless;
}

-- ---- after a list of accesses

pub after-stands : (s : QueueSetup) (keys : List ℕ) → IsQueueState s (state_after s keys)
after-stands s keys = stands s.config.capacity (queue_machine s) (queue-keeps s) keys
