use Rattle.std.proofs.Common.{[], append-nil, subst, arith}
use Rattle.std.proofs.lemmas.Bool.Decides.{nat_tests}
use Rattle.std.proofs.lemmas.List.{nil_from_length}
use Rattle.policies.specs.AnyPolicy.{outcomes_on}
use Rattle.library_examples.specs.IntervalHits.{AreHitsByInterval}
use Rattle.library_examples.proofs.interval_hits.hits_by_interval.Goals as goal

pub returns : goal.returns
returns c =
    subst (AreHitsByInterval c.args.every (outcomes_on c.args.job.now c.args.trace.now)) (append-nil c.loop-rest.hits.items)
    (c.loop-rest.invariant [] (nil_from_length c.loop-rest.rest.now (grind (arith, nat_tests))))
