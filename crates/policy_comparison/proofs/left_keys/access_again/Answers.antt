use Rattle.std.proofs.Common.{◌≡◌, ◌∙◌, ap, sym, subst, take}
use Rattle.segments.specs.KeyRow.{row_left}
use Rattle.policies.specs.declared.any_policy.AnyPolicy.{AnyPolicy}
use Rattle.policies.specs.AnyPolicy.{HasAccessed, any_queues}
use Rattle.policies.specs.AnyStep.{any_act, any_undone}
use Rattle.policy_comparison.proofs.LeftKeys.{made-again}
use Rattle.policy_comparison.proofs.left_keys.access_again.Goals as goal

pub returns : goal.returns
returns c =
    let ready = c.requires.ready in
    let before : AnyPolicy = any_undone c.args.done c.args.cache.now in
    let same : c.undo.new.cache ≡ before = c.in_ok-undo.ensures in
    record {
      outcome = c.args.outcome;
      acts = made-again c.args.key before c.undo.new.cache c.args.cache.now c.apply.new.cache c.args.outcome _ same c.requires.made c.in_ok-done.ensures.accepted;
      left = c.row_left-row.ensures record {
        job = ready.job;
        trace = ready.trace;
        keys = take ready.place ready.trace;
        next = c.args.key;
        after = c.args.cache.now;
        stands = subst (HasAccessed ready.job ready.trace (take ready.place ready.trace)) (sym same) ready.stands;
        answers = ap (λ (d : AnyPolicy). any_act d c.args.key) same ∙ c.requires.made;
      } ∙ ap (λ (d : AnyPolicy). row_left c.args.outcome (any_queues d)) same;
    }
