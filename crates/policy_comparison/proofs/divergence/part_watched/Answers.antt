use Rattle.std.proofs.Common.{inl, refl, [], ◌∷◌}
use Rattle.sweeps.specs.Taking.{Job, Task}
use Rattle.policy_comparison.proofs.divergence.part_watched.Goals as goal

-- of any length of an interval
abbrev both : Job → Job → Task
both first second = record { jobs = first ∷ second ∷ []; every = 1 }

pub take_trace-requires-after_bounds : goal.take_trace-requires-after_bounds
take_trace-requires-after_bounds g c κs within =
    (both c.args.first.now c.args.second.now, c.in_ok-run.ensures c.args.trace.now (inl refl) (inl refl))

pub returns-clause-part : goal.returns-clause-part
returns-clause-part g c =
    c.found.ensures c.args.first.now c.args.second.now c.args.trace.now
    (c.in_ok-take_trace.ensures (both c.args.first.now c.args.second.now) (c.in_ok-run.ensures c.args.trace.now (inl refl) (inl refl)))
