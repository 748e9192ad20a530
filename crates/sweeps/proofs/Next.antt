-- Keys that come next in a trace.
use Rattle.std.proofs.Common.{◌≡◌, ℕ, ◌+◌, ◌-◌, ◌≤◌, false, true≢false, List, ◌++◌, inl, inr, length, take, drop, sym, ap, subst, ◌∙◌, arith, length-take, length-drop, take-append-drop}
use Rattle.std.proofs.Math.Seq.{take-add}
use Rattle.std.proofs.lemmas.List.{drop-take, drop-drop, take-take}
use Rattle.engine_base.specs.declared.limits.TheConstants.{MAX_STEPS}
use Rattle.policies.specs.Accesses.{Job, IsNext}
use Rattle.policies.specs.AnyPolicy.{HasAccessed}
use Rattle.policies.specs.Design.{knows_trace}
use Rattle.policies.proofs.Designs.{optimal-knows}
use Rattle.policies.specs.declared.any_policy.AnyPolicy.{AnyPolicy}
use Rattle.policies.specs.declared.any_policy.AnyPolicy.TheVariants.{Adaptive, Demand, Optimal, Queues}
use Rattle.sweeps.specs.Taking.{AreNext, RunsOver}

-- a piece of the keys comes next behind those before it
pub piece-next : (trace keys piece : List ℕ) (n m k : ℕ) → AreNext trace n keys → piece ≡ take k (drop m keys) → m + k ≤ length keys
    → AreNext trace (n + m) piece
piece-next trace keys piece n m k next is within =
    let long : length (drop m keys) ≡ length keys - m = length-drop m keys in
    let size : length piece ≡ k = ap (λ (l : List ℕ). length l) is ∙ length-take k (drop m keys) ∙ omega (arith, long, within) in
    let all : m + (length keys - m) ≡ length keys = omega (arith, within) in
    let inside = next.within in
    record {
      within = omega (arith, size, within, inside);
      piece = is
          ∙ ap (λ (l : List ℕ). take k (drop m l)) next.piece
          ∙ ap (λ (i : ℕ). take k (drop m (take i (drop n trace)))) (sym all)
          ∙ ap (take k) (drop-take m (length keys - m) (drop n trace))
          ∙ take-take k (length keys - m) (drop m (drop n trace)) (omega (arith, within))
          ∙ ap (take k) (drop-drop m n trace)
          ∙ ap (λ (i : ℕ). take i (drop (n + m) trace)) (sym size);
    }

-- what stands behind the first accesses begins with them
pub ahead : (trace keys : List ℕ) (n : ℕ) → AreNext trace n keys → trace ≡ take n trace ++ (keys ++ drop (length keys) (drop n trace))
ahead trace keys n next =
    sym (take-append-drop n trace)
    ∙ ap (λ (l : List ℕ). take n trace ++ l)
    (sym (take-append-drop (length keys) (drop n trace)) ∙ ap (λ (l : List ℕ). l ++ drop (length keys) (drop n trace)) (sym next.piece))

-- so a cache that made the first accesses is ready for them
pub ready : (job : Job) (trace keys : List ℕ) (n : ℕ) (cache : AnyPolicy) → AreNext trace n keys → length trace ≤ MAX_STEPS
    → HasAccessed job trace (take n trace) cache → IsNext keys cache
ready job trace keys n cache next few stands = record {
  job = job;
  trace = trace;
  before = take n trace;
  rest = drop (length keys) (drop n trace);
  stands = stands;
  ahead = ahead trace keys n next;
  few = few;
}

-- and with them it made the first accesses again
pub made : (job : Job) (trace keys : List ℕ) (n : ℕ) (cache : AnyPolicy) → AreNext trace n keys
    → HasAccessed job trace (take n trace ++ keys) cache → HasAccessed job trace (take (n + length keys) trace) cache
made job trace keys n cache next stands =
    subst (λ (l : List ℕ). HasAccessed job trace l cache)
    (ap (λ (l : List ℕ). take n trace ++ l) next.piece ∙ sym (take-add n (length keys) trace)) stands

-- a cache of a policy that does not have to know the whole trace runs its job over any trace
free : (job : Job) (trace other keys : List ℕ) (cache : AnyPolicy) → knows_trace job.policy ≡ false
    → HasAccessed job trace keys cache → HasAccessed job other keys cache
free job trace other keys (Queues d) follows s = s
free job trace other keys (Demand d) follows s = s
free job trace other keys (Adaptive d) follows s = s
free job trace other keys (Optimal d) follows s = absurd (true≢false (sym (optimal-knows job s.design) ∙ follows))

-- so a cache that was opened over one trace runs it over another
pub over : (job : Job) (opened trace keys : List ℕ) (cache : AnyPolicy) → RunsOver opened trace job
    → HasAccessed job opened keys cache → HasAccessed job trace keys cache
over job opened trace keys cache (inl same) s = subst (λ (l : List ℕ). HasAccessed job l keys cache) (sym same) s
over job opened trace keys cache (inr follows) s = free job opened trace keys cache follows s
