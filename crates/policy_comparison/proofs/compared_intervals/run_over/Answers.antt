use Rattle.std.proofs.Common.{inl, refl, ℕ, [], ◌∷◌}
use Rattle.sweeps.specs.Taking.{Job, Task}
use Rattle.policy_comparison.proofs.compared_intervals.run_over.Goals as goal

abbrev both : Job → Job → ℕ → Task
both first second every = record { jobs = first ∷ second ∷ []; every = every }

pub take_trace-requires-after_bounds : goal.take_trace-requires-after_bounds
take_trace-requires-after_bounds g c κs within =
    (both c.args.first.now c.args.second.now c.args.every, c.in_ok-run.ensures c.args.trace.now (inl refl) (inl refl))

pub returns-clause-run : goal.returns-clause-run
returns-clause-run g c =
    c.in_ok-take_trace.ensures (both c.args.first.now c.args.second.now c.args.every) (c.in_ok-run.ensures c.args.trace.now (inl refl) (inl refl))
