use Rattle.std.proofs.Common.{◌∙◌, ap, sym}
use Rattle.demand_cache.proofs.KeyRows.{row_has, row-has}
use Rattle.demand_cache.proofs.demand_cache.has_key.Goals as goal

pub returns-in-Keys : goal.returns-in-Keys
returns-in-Keys c = λ s h.
    c.is_queue.ensures ∙ ap (row_has c.args.key c.args.own_number c.args.queue) (sym c.in-Keys.is) ∙ row-has c.args.key c.args.own_number s c.args.queue h c.args.row

pub returns-in-Counts : goal.returns-in-Counts
returns-in-Counts c = λ s h.
    c.is_queue-in-Counts.ensures ∙ ap (row_has c.args.key c.args.own_number c.args.queue) (sym c.in-Counts.is) ∙ row-has c.args.key c.args.own_number s c.args.queue h c.args.row
