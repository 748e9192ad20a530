-- What an actor has of the accesses, batch after batch.
use Rattle.std.proofs.Common.{◌≡◌, ℕ, ◌+◌, ◌*◌, ◌<◌, ◌≤◌, List, [], ◌++◌, length, take, drop, Option, Some, None, IfSome, IsTrue, ⊎_elim, sym, ap, subst, ◌∙◌, arith, append-nil, length-append}
use Rattle.std.specs.Prelude.{◌↔◌}
use Rattle.std.proofs.lemmas.Bool.{cases_lt}
use Rattle.engine_base.specs.declared.limits.TheConstants.{MAX_STEPS}
use Rattle.policy_actors.specs.Following.{Job, CanFollow}
use Rattle.policy_actors.specs.CacheRuns.{CacheRun, IsAfter}
use Rattle.policies.specs.CacheRun.{CanTake, HasTaken}
use Rattle.policies.specs.declared.cache_run.CacheRun.TheVariants.{Cache, Narrow, NextUses, OutOfMemory}
use Rattle.policies.specs.declared.any_policy.AnyPolicy.TheVariants.{Demand}
use Rattle.policies.specs.declared.any_policy.AnyPolicy.{AnyPolicy}
use Rattle.policies.specs.Accesses.{IsNext}
use Rattle.policies.specs.AnyPolicy.{HasAccessed}
use Rattle.policy_actors.specs.ChannelProtocol.{Batch, IsBatch}
use Rattle.policies.proofs.Batches.{taken-more, all-taken}

nothing : (known : Option (List ℕ)) (size : ℕ) → IfSome known (λ all. [] ≡ take (0 * size) all)
nothing None size = tt
nothing (Some all) size = let z : 0 * size ≡ 0 = omega arith in sym (ap (λ (n : ℕ). take n all) z)

-- before the first batch
pub begun : (known : Option (List ℕ)) (most : ℕ) (j : Job) (size : ℕ) (run : CacheRun) → ((trace : List ℕ) → HasTaken j trace [] run) → IsAfter known most j size 0 run
begun known most j size run taken = record { done = []; taken = taken; within = omega arith; few = omega arith; first = nothing known size }

module _ (known : Option (List ℕ)) (most : ℕ) (j : Job) (size k : ℕ) (b : Batch) (is : IsBatch known most size k b) where
  few_more : (done : List ℕ) → length done ≤ k * size → length done ≤ most → length (done ++ b.keys) ≤ most
  few_more done within few = ⊎_elim
      (λ (some : 0 < length b.keys). let h = is.few some in omega (arith, length-append done b.keys, h))
      (λ (none : length b.keys ≤ 0). omega (arith, length-append done b.keys))
      (cases_lt 0 (length b.keys))

  next : most ≤ MAX_STEPS → (d : AnyPolicy) (done : List ℕ) → length done ≤ k * size → length done ≤ most → ((trace : List ℕ) → HasAccessed j trace done d) → IsNext b.keys d
  next room d done within few stands = record {
    job = j;
    trace = done ++ b.keys;
    before = done;
    rest = [];
    stands = stands (done ++ b.keys);
    ahead = ap (λ (l : List ℕ). done ++ l) (sym (append-nil b.keys));
    few = omega (arith, room, few_more done within few);
  }

  -- it is ready for the next batch
  pub ready : most ≤ MAX_STEPS → CanFollow most j → (run : CacheRun) → IsAfter known most j size k run → CanTake b.keys run
  ready room follows (NextUses found) s = omega (arith, length-append s.done b.keys, few_more s.done s.within s.few, follows (s.taken []).0, ap (λ (l : List ℕ). length l) (s.taken []).1)
  ready room follows (Cache d) s = next room d s.done s.within s.few s.taken
  ready room follows (Narrow d) s = next room (Demand d) s.done s.within s.few s.taken
  ready room follows OutOfMemory s = tt

  first_more : (o : Option (List ℕ)) (done : List ℕ) → IfSome o (λ all. done ≡ take (k * size) all)
      → IfSome o (λ all. b.keys ≡ take size (drop (k * size) all)) → IfSome o (λ all. done ++ b.keys ≡ take ((k + 1) * size) all)
  first_more None done f p = tt
  first_more (Some all) done f p = ap (λ (l : List ℕ). l ++ b.keys) f ∙ taken-more size k all b.keys p

  -- and took one more after it
  pub moved : (old new : CacheRun) → IsAfter known most j size k old
      → ((i : Job) (trace done : List ℕ) → HasTaken i trace done old → HasTaken i trace (done ++ b.keys) new) → IsAfter known most j size (k + 1) new
  moved old new s step =
      let more : (k + 1) * size ≡ k * size + size = omega arith in
      record {
        done = s.done ++ b.keys;
        taken = λ trace. step j trace s.done (s.taken trace);
        within = omega (arith, length-append s.done b.keys, is.within, s.within, more);
        few = few_more s.done s.within s.few;
        first = first_more known s.done s.first is.piece;
      }

  -- after the last batch it took all that was fed
  pub ended : (run : CacheRun) → IsAfter known most j size (k + 1) run → IsTrue b.last → (all : List ℕ) → known ≡ Some all → HasTaken j all all run
  ended run s last all e =
      let ends : IsTrue b.last ↔ (length all ≤ k * size + size) = subst (λ o. IfSome o (λ a. IsTrue b.last ↔ (length a ≤ k * size + size))) e is.last in
      let first : s.done ≡ take ((k + 1) * size) all = subst (λ o. IfSome o (λ a. s.done ≡ take ((k + 1) * size) a)) e s.first in
      subst (λ (l : List ℕ). HasTaken j all l run) (first ∙ all-taken size k all (ends.0 last)) (s.taken all)
