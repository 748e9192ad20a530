use Rattle.policy_comparison.specs.PartRun.{HasParted}
use Rattle.policy_comparison.proofs.Two.{two-after, two-held}
use Rattle.policy_comparison.proofs.part_run.PartRunTaker.take.Goals as goal

pub returns : goal.returns
returns g c = λ task trace n next has. two-after task.jobs c.take_all.result _ _ (λ first second. c.take_all.ensures first second trace n next) has

pub take_all-requires : goal.take_all-requires
take_all-requires g c =
    let can = c.requires.next.can in
    let both = two-held c.requires.next.task.jobs (λ first second. HasParted first second can.trace can.place c.args.self.now) can.taken in
    (both.0, both.1, record { trace = can.trace; place = can.place; next = can.next; few = can.few; taken = both.2 })
