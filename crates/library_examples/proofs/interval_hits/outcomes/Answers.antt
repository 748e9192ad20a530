use Rattle.std.proofs.Common.{ap, ◌∙◌, Err}
use Rattle.library_examples.proofs.NextAccess.{accepted, made}
use Rattle.library_examples.proofs.interval_hits.outcomes.Goals as goal

pub unreachable-requires : goal.unreachable-requires
unreachable-requires c =
    accepted c.args.job.now c.args.trace.now c.any_accepts.ensures c.keys-keys.result.now c.loop-i.i _ c.keys-keys.ensures.keys c.loop-i-test.true
    c.bounded.ensures c.loop-i.invariant.0 (c.access.ensures.not_now.0 (c.in-Err-NotNow.is ∙ ap Err c.in-Err-NotNow.field-0-is))

pub loop-i-preserved : goal.loop-i-preserved
loop-i-preserved c =
    made c.args.job.now c.args.trace.now c.any_step_law.ensures c.any_answers.ensures c.any_covers_trace.ensures c.keys-keys.result.now c.loop-i.i _ _ _ _ _
    c.keys-keys.ensures.keys c.loop-i-test.true c.loop-i.invariant.0 c.in-Ok.ensures.accepted c.loop-i.invariant.1 c.in_ok-push-in-Ok.ensures.items
