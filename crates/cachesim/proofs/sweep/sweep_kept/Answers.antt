use Rattle.cachesim.proofs.Accepting.{can_sweep, memory_alone}
use Rattle.cachesim.proofs.sweep.sweep_kept.Goals as goal

pub only_memory-requires : goal.only_memory-requires
only_memory-requires g c =
    memory_alone _ _ (can_sweep c.args.arguments.now _ _ c.requires c.in_ok-jobs.ensures.jobs c.as_slice-capacities.ensures c.in_ok-jobs.ensures.few)
    c.sweep_each-reports.ensures.fault
