use Rattle.std.proofs.Common.{◌∙◌, sym, subst}
use Rattle.trace_index.specs.TraceNumbers.{HasNumbers}
use Rattle.trace_index.proofs.Numbers.{known-number, known-keys, new-number, new-kept}
use Rattle.trace_index.proofs.trace_numbers.number_of.Goals as goal

pub returns-then-number-ne0-clause-number : goal.returns-then-number-ne0-clause-number
returns-then-number-ne0-clause-number c keys long has =
    known-number keys c.args.key _ (c.number-number.ensures ∙ has c.args.key) c.if-number-ne0.true

pub returns-then-number-ne0-clause-seen : goal.returns-then-number-ne0-clause-seen
returns-then-number-ne0-clause-seen c keys long has =
    subst (λ keys. HasNumbers keys c.args.seen.now) (sym (known-keys keys c.args.key _ (c.number-number.ensures ∙ has c.args.key) c.if-number-ne0.true)) has

pub returns-clause-number : goal.returns-clause-number
returns-clause-number c keys long has =
    sym long ∙ new-number keys c.args.key _ (c.number-number.ensures ∙ has c.args.key) c.if-number-ne0.false

pub returns-clause-seen : goal.returns-clause-seen
returns-clause-seen c keys long has k =
    new-kept keys c.args.key _ c.args.count k _ _ (c.number-number.ensures ∙ has c.args.key) c.if-number-ne0.false long (c.in_ok-put_number.ensures.updates k) (has k)
