use Rattle.std.proofs.Common.{take}
use Rattle.policy_comparison.proofs.Walked.{ready, moves, warmed}
use Rattle.policy_comparison.proofs.LeftKeys.{row-is}
use Rattle.policy_comparison.proofs.left_keys.access_from.Goals as goal

pub access_key-requires-clause-accepted : goal.access_key-requires-clause-accepted
access_key-requires-clause-accepted c =
    let some = c.requires.ready in
    ready some.trace some.place _ some.next c.any_accepts.ensures some.few some.job c.prefetch_at.new.self
    (warmed some.job some.trace (take some.place some.trace) c.args.cache.now c.prefetch_at.new.self c.prefetch_at.ensures some.stands)

pub access_key-requires-clause-ready : goal.access_key-requires-clause-ready
access_key-requires-clause-ready c =
    let some = c.requires.ready in
    record {
      job = some.job;
      trace = some.trace;
      place = some.place;
      next = some.next;
      few = some.few;
      stands = warmed some.job some.trace (take some.place some.trace) c.args.cache.now c.prefetch_at.new.self c.prefetch_at.ensures some.stands;
    }

pub returns-clause-stands : goal.returns-clause-stands
returns-clause-stands c = λ j trace n next s.
    moves trace n _ next c.any_step_law.ensures j c.prefetch_at.new.self c.in_ok-row.ensures.outcome c.access_key.new.cache
    (warmed j trace (take n trace) c.args.cache.now c.prefetch_at.new.self c.prefetch_at.ensures s) c.in_ok-row.ensures.acts

pub returns-clause-row : goal.returns-clause-row
returns-clause-row c = λ j trace n next s.
    row-is j trace n _ next c.any_answers.ensures c.prefetch_at.new.self c.access_key.new.cache c.in_ok-row.row
    (warmed j trace (take n trace) c.args.cache.now c.prefetch_at.new.self c.prefetch_at.ensures s) c.in_ok-row.ensures
