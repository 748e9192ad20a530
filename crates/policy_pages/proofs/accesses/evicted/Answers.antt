use Rattle.policy_pages.specs.Leavers.{one_leaver}
use Rattle.policy_pages.proofs.accesses.evicted.Goals as goal

pub returns : goal.returns
returns d e l f o i s a b c u he hl ran again left few own =
    d.miss_after_runs.ensures e l (one_leaver f) o i s a b c u he hl ran again (d.one-left.ensures f b c left few) own
