use Rattle.std.proofs.Common.{ap, ◌∙◌}
use Rattle.replacement.specs.Table.{Response}
use Rattle.replacement.proofs.Planned.{evictions_planned}
use Rattle.shell_model.specs.Frequency.{admits}
use Rattle.maintenance.proofs.round_acts.carry_out.Goals as goal

pub returns-clause-lists : goal.returns-clause-lists
unfolding admits
returns-clause-lists c =
    c.evict.ensures.lists
    ∙ ap (λ (r : Response). r.queues) (evictions_planned c.args.rules.now (admits c.args.frequency.now) c.args.queues.now.lists c.requires.distinct)

pub returns-clause-moves : goal.returns-clause-moves
unfolding admits
returns-clause-moves c = c.evict.ensures.record

pub returns-clause-outcome : goal.returns-clause-outcome
unfolding admits
returns-clause-outcome c =
    c.evict.ensures.outcome
    ∙ ap (λ (r : Response). r.outcome) (evictions_planned c.args.rules.now (admits c.args.frequency.now) c.args.queues.now.lists c.requires.distinct)
