-- Which item the record of an access moves out.
use Rattle.std.proofs.lemmas.Bool.Decides.{nat_tests}
use Rattle.std.proofs.Common.{arith, ◌≡◌, ℕ, true, List, None, sym, subst}
use Rattle.engine_base.specs.declared.outcome.Outcome.TheVariants.{Hit}
use Rattle.engine_base.specs.Stats.{is_eviction}
use Rattle.engine_base.proofs.Limited.{accepted}
use Rattle.segments.specs.Queues.{IsDistinct}
use Rattle.replacement.specs.PlanMoves.{leaver_in}
use Rattle.replacement.proofs.Leaving.{hit-keeps, leaver-shown, asks-evicts}
use Rattle.queue_cache.specs.QueueCache.{QueueSetup, QueueState, queue_access, StandsFor}
use Rattle.queue_cache.specs.QueueStep.{queue_count, queue_asks, queue_record_of}
use Rattle.queue_cache.specs.Theorems.{HitsKeepAll, RecordsShowLeaver}
use Rattle.queue_cache.proofs.Balance.{after-stands}

-- the record of a hit
pub hit-keeps-all : (d : QueueState) (k : ℕ) → (queue_access k d).0 ≡ Hit → leaver_in (queue_record_of k d).moves ≡ None
hit-keeps-all d k hit = grind (arith, nat_tests, hit-keeps)

pub hits_keep_all : HitsKeepAll
hits_keep_all d k e h = hit-keeps-all d k (sym (accepted queue_count queue_access d k Hit e h).outcome)

distinct : (s : QueueSetup) (keys : List ℕ) (d : QueueState) → StandsFor s keys d → IsDistinct d.queues
distinct s keys d h = subst (λ (x : QueueState). IsDistinct x.queues) (sym h.gives) (after-stands s keys).once

pub records_show_leaver : RecordsShowLeaver
records_show_leaver s keys d k h = grind (arith, nat_tests, leaver-shown, distinct s keys d h)

-- a record that asks for memory is of an access by which an item left
pub queue-asks-evicts : (s : QueueSetup) (keys : List ℕ) (d : QueueState) (k : ℕ) → StandsFor s keys d → queue_asks (queue_record_of k d)
    → is_eviction (queue_record_of k d).outcome ≡ true
queue-asks-evicts s keys d k h asks = grind (arith, nat_tests, asks-evicts, distinct s keys d h)
