use Rattle.std.proofs.Common.{◌∙◌, take}
use Rattle.policy_comparison.proofs.Walked.{ready, moves, answers, warmed}
use Rattle.policy_comparison.proofs.cache_access.hit_at.Goals as goal

pub access-requires : goal.access-requires
access-requires g c =
    let some = c.requires.ready in
    ready some.trace some.place _ some.next c.any_accepts.ensures some.few some.job c.prefetch_at.new.self
    (warmed some.job some.trace (take some.place some.trace) c.args.cache.now c.prefetch_at.new.self c.prefetch_at.ensures some.stands)

pub returns-clause-stands : goal.returns-clause-stands
returns-clause-stands g c = λ j trace n next s.
    moves trace n _ next c.any_step_law.ensures j c.prefetch_at.new.self c.in_ok-outcome.outcome c.access.new.cache
    (warmed j trace (take n trace) c.args.cache.now c.prefetch_at.new.self c.prefetch_at.ensures s) c.in_ok-outcome.ensures.accepted

pub returns-clause-hit : goal.returns-clause-hit
returns-clause-hit g c = λ j trace n next s.
    c.hits.ensures
    ∙ answers trace n _ next c.any_answers.ensures j c.prefetch_at.new.self c.in_ok-outcome.outcome c.access.new.cache
    (warmed j trace (take n trace) c.args.cache.now c.prefetch_at.new.self c.prefetch_at.ensures s) c.in_ok-outcome.ensures.accepted
