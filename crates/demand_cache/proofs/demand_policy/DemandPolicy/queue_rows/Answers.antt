use Rattle.std.proofs.Common.{◌∙◌, ap, sym}
use Rattle.demand_cache.specs.DemandPolicy.{DemandPolicy, named_by}
use Rattle.demand_cache.proofs.demand_policy.DemandPolicy.queue_rows.Goals as goal

pub returns-in-Fifo-clause-rows : goal.returns-in-Fifo-clause-rows
returns-in-Fifo-clause-rows c s = ap (λ (p : DemandPolicy). named_by p c.args.own_number s) (sym c.in-Fifo.is)

pub returns-in-Clock-clause-rows : goal.returns-in-Clock-clause-rows
returns-in-Clock-clause-rows c s = ap (λ (p : DemandPolicy). named_by p c.args.own_number s) (sym c.in-Clock.is)

pub returns-in-S3Fifo-clause-rows : goal.returns-in-S3Fifo-clause-rows
returns-in-S3Fifo-clause-rows c s = ap (λ (p : DemandPolicy). named_by p c.args.own_number s) (sym c.in-S3Fifo.is)

pub returns-in-TwoQ-clause-rows : goal.returns-in-TwoQ-clause-rows
returns-in-TwoQ-clause-rows c s = ap (λ (p : DemandPolicy). named_by p c.args.own_number s) (sym c.in-TwoQ.is)

pub returns-in-Arc-clause-rows : goal.returns-in-Arc-clause-rows
returns-in-Arc-clause-rows c s = ap (λ (p : DemandPolicy). named_by p c.args.own_number s) (sym c.in-Arc.is)

pub returns-in-Car-clause-rows : goal.returns-in-Car-clause-rows
returns-in-Car-clause-rows c s = ap (λ (p : DemandPolicy). named_by p c.args.own_number s) (sym c.in-Car.is)

pub returns-in-Sieve-clause-rows : goal.returns-in-Sieve-clause-rows
returns-in-Sieve-clause-rows c s = c.sieve_rows.ensures.rows s ∙ ap (λ (p : DemandPolicy). named_by p c.args.own_number s) (sym c.in-Sieve.is)
