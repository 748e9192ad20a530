use Rattle.std.proofs.Common.{◌∙◌, ap, sym, Some}
use Rattle.segments.proofs.Rows.{three_row, row-three}
use Rattle.segments.proofs.segment_rows.three_queues_row.Goals as goal

pub returns-in-Some-Window : goal.returns-in-Some-Window
returns-in-Some-Window c = λ h. sym (ap three_row (c.in-Some-Window.is ∙ ap Some c.in-Some-Window.field-0-is)) ∙ ap three_row c.queue_of.ensures.queue ∙ row-three c.args.key c.args.segments.now.lists h c.queue_of.ensures.distinct

pub returns-in-Some-Probation : goal.returns-in-Some-Probation
returns-in-Some-Probation c = λ h. sym (ap three_row (c.in-Some-Probation.is ∙ ap Some c.in-Some-Probation.field-0-is)) ∙ ap three_row c.queue_of.ensures.queue ∙ row-three c.args.key c.args.segments.now.lists h c.queue_of.ensures.distinct

pub returns-in-Some-Protected : goal.returns-in-Some-Protected
returns-in-Some-Protected c = λ h. sym (ap three_row (c.in-Some-Protected.is ∙ ap Some c.in-Some-Protected.field-0-is)) ∙ ap three_row c.queue_of.ensures.queue ∙ row-three c.args.key c.args.segments.now.lists h c.queue_of.ensures.distinct

pub returns-in-None : goal.returns-in-None
returns-in-None c = λ h. sym (ap three_row c.in-None.is) ∙ ap three_row c.queue_of.ensures.queue ∙ row-three c.args.key c.args.segments.now.lists h c.queue_of.ensures.distinct
