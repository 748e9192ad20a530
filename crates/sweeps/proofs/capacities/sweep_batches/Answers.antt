use Rattle.std.proofs.Common.{◌≡◌, ℕ, ◌+◌, ◌*◌, ◌^◌, ◌-◌, ◌∙◌, arith, ap, sym, length, min, if◌then◌else◌}
use Rattle.std.specs.Int.{div_ceil}
use Rattle.std.proofs.lemmas.List.{take_all}
use Rattle.engine_base.specs.declared.limits.TheConstants.{MAX_BATCH}
use Rattle.sweeps.specs.Sweep.{gated_jobs}
use Rattle.sweeps.proofs.Rows.{more-gated, one-at-most, saturated}
use Rattle.sweeps.proofs.capacities.sweep_batches.Goals as goal
use Rattle.sweeps.proofs.capacities.sweep_batches.Goals.{then-is_gated, else-is_gated}

pub loop-job-preserved : goal.loop-job-preserved
loop-job-preserved c = let l = c.loop-job in
    let step : c.if-is_gated.gated ≡ l.gated + (if c.is_gated.result then 1 else 0) = elim c.if-is_gated.branch [
      | then-is_gated w ↦ rw w.if-is_gated.true (omega (arith, w.gated-is))
      | else-is_gated w ↦ rw w.if-is_gated.false (omega (arith, w.gated-is))
    ] in (
      step ∙ ap (λ (n : ℕ). n + (if c.is_gated.result then 1 else 0)) l.invariant.0
          ∙ rw c.is_gated.ensures (sym (more-gated c.args.jobs.now _ l.job-index c.loop-job-test.true)),
      omega (arith, step, one-at-most c.is_gated.result, l.invariant.1),
    )

pub returns : goal.returns
returns c = let l = c.loop-job in let jobs = c.args.jobs.now in let many = length c.args.capacities.now in let each = c.div_ceil-each.result in
    let limit : ℕ = 2 ^ 64 - 1 in
    let all : l.gated ≡ gated_jobs jobs = l.invariant.0 ∙ ap gated_jobs (take_all l.job-index jobs c.loop-job-test.false) in
    let whole : each ≡ div_ceil (length c.args.trace.now) MAX_BATCH = c.div_ceil-each.ensures ∙ ap (λ (n : ℕ). div_ceil n MAX_BATCH) c.len.ensures.len in
    c.saturating_mul-2.ensures ∙ ap (λ (n : ℕ). min (n * each) limit) c.saturating_mul.ensures ∙ saturated (l.gated * many) each limit
    ∙ ap (λ (n : ℕ). min (n * many * each) limit) all ∙ ap (λ (n : ℕ). min (gated_jobs jobs * many * n) limit) whole
