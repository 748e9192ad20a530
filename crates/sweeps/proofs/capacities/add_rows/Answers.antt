use Rattle.std.proofs.lemmas.Grind.{common_steps}
use Rattle.std.proofs.Common.{arith}
use Rattle.sweeps.proofs.Rows.{one-row}
use Rattle.sweeps.proofs.capacities.add_rows.Goals as goal

pub loop-capacity-preserved : goal.loop-capacity-preserved
loop-capacity-preserved c =
    one-row c.args.job.now c.args.capacities.now c.args.rows.now.items c.loop-capacity.rows.items c.push.new.self.items c.with_capacity.result
    c.loop-capacity.capacity-index (omega arith) c.loop-capacity.invariant c.with_capacity.ensures c.in_ok-push.ensures.items

pub returns : goal.returns
returns c = grind (arith, common_steps)
