use Rattle.std.proofs.Common.{Result, Ok, Err, OnErr, ◌≡◌, ℕ, ◌*◌, ◌++◌, ◌≤◌, List, length, take, drop, ap, sym, ◌∙◌, subst, arith, append_assoc}
use Rattle.std.proofs.lemmas.Grind.{div_ceil_times}
use Rattle.engine_base.specs.declared.limits.TheConstants.{MAX_BATCH}
use Rattle.policies.specs.AnyPolicy.{HasAccessed}
use Rattle.policies.specs.Accesses.{IsStopped}
use Rattle.policies.proofs.Batches.{next-piece, next_rest, taken-more}
use Rattle.policies.proofs.Stretches.{has-made-all, stopped-later}
use Rattle.policies.proofs.trace_run.access_in_batches.Goals as goal

at_error : {T E P : Type 0} (r : Result T E) → P → OnErr r P
at_error (Ok v) h = tt
at_error (Err e) h = h

pub access_all-requires : goal.access_all-requires
access_all-requires g c =
    let n = c.requires in let keys = c.args.keys.now in let m = c.loop-number.number * MAX_BATCH in
    let piece = c.cut.ensures.front ∙ ap (λ (l : List ℕ). take MAX_BATCH l) c.loop-number.invariant.0 in
    record {
      job = n.job;
      trace = n.trace;
      before = n.before ++ take m keys;
      rest = drop MAX_BATCH (drop m keys) ++ n.rest;
      stands = c.loop-number.invariant.1 n.job n.trace n.before n.stands;
      ahead = next-piece n.trace n.before keys n.rest _ m MAX_BATCH piece n.ahead;
      few = n.few;
    }

pub loop-number-preserved : goal.loop-number-preserved
loop-number-preserved g c =
    let keys = c.args.keys.now in let k = c.loop-number.number in
    let piece = c.cut.ensures.front ∙ ap (λ (l : List ℕ). take MAX_BATCH l) c.loop-number.invariant.0 in (
      c.cut.ensures.back ∙ next_rest keys _ MAX_BATCH k c.loop-number.invariant.0,
      λ j trace done s.
          subst (λ l. HasAccessed j trace l c.access_all.new.cache)
          (append_assoc done (take (k * MAX_BATCH) keys) c.cut.result.0.now ∙ ap (λ (l : List ℕ). done ++ l) (taken-more MAX_BATCH k keys _ piece))
          (c.in_ok-access_all.ensures.all j trace (done ++ take (k * MAX_BATCH) keys) (c.loop-number.invariant.1 j trace done s)),
    )

pub returns-clause-all : goal.returns-clause-all
returns-clause-all g c =
    let keys = c.args.keys.now in let k = c.loop-number.number in
    let last : c.div_ceil-number-end.result ≡ k = omega arith in
    let all = subst (λ (n : ℕ). length keys ≤ n * MAX_BATCH) (sym c.div_ceil-number-end.ensures ∙ last) (div_ceil_times (length keys) MAX_BATCH (omega arith)).0 in
    has-made-all keys (k * MAX_BATCH) c.args.cache.now c.loop-number.cache all c.loop-number.invariant.1

pub returns-in_err-access_all-clause-memory : goal.returns-in_err-access_all-clause-memory
returns-in_err-access_all-clause-memory g c =
    let keys = c.args.keys.now in let m = c.loop-number.number * MAX_BATCH in
    let piece = c.cut.ensures.front ∙ ap (λ (l : List ℕ). take MAX_BATCH l) c.loop-number.invariant.0 in
    at_error c.from_residual.result
    (stopped-later keys m MAX_BATCH c.args.cache.now c.loop-number.cache c.access_all.new.cache c.loop-number.invariant.1
    (subst (λ l. IsStopped l c.loop-number.cache c.access_all.new.cache) piece c.in_err-access_all.ensures.memory))
