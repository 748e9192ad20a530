use Rattle.std.proofs.Common.{◌∙◌, ap, sym, subst}
use Rattle.segments.specs.KeyRow.{row_left}
use Rattle.policies.specs.declared.any_policy.AnyPolicy.{AnyPolicy}
use Rattle.policies.specs.AnyPolicy.{any_queues}
use Rattle.policies.specs.Accesses.{CanAnswer}
use Rattle.policies.proofs.LeftRows.{queues-keys, adaptive-keys, left-in, optimal-left}
use Rattle.policies.proofs.any_policy.AnyPolicy.row_left.Goals as goal

pub returns-in-Queues : goal.returns-in-Queues
returns-in-Queues c = λ a.
    c.row_of.ensures (queues-keys c.args.outcome c.in-Queues.cache (subst (CanAnswer c.args.outcome) c.in-Queues.is a))
    ∙ left-in c.args.outcome c.in_ok-key.key c.args.self.now _ (sym c.left_key.ensures ∙ c.in_ok-key.was) c.in-Queues.is

pub returns-in-Optimal : goal.returns-in-Optimal
returns-in-Optimal c = λ a.
    optimal-left c.args.outcome c.in_ok-key.key c.in-Optimal.field-0 c.optimal_row.result (subst (CanAnswer c.args.outcome) c.in-Optimal.is a)
    (sym c.left_key.ensures ∙ c.in_ok-key.was) c.optimal_row.ensures.evicted c.optimal_row.ensures.rejected
    ∙ ap (λ (d : AnyPolicy). row_left c.args.outcome (any_queues d)) (sym c.in-Optimal.is)

pub returns-in-Adaptive : goal.returns-in-Adaptive
returns-in-Adaptive c = λ a.
    c.row_of-in-Adaptive.ensures (adaptive-keys c.args.outcome c.in-Adaptive.cache (subst (CanAnswer c.args.outcome) c.in-Adaptive.is a))
    ∙ left-in c.args.outcome c.in_ok-key.key c.args.self.now _ (sym c.left_key.ensures ∙ c.in_ok-key.was) c.in-Adaptive.is
