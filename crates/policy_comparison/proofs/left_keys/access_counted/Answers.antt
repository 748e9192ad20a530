use Rattle.std.proofs.Common.{◌∙◌, Some, None, sym, arith}
use Rattle.streams.proofs.Results.{at_success}
use Rattle.policy_comparison.proofs.LeftKeys.{left-more, on-success}
use Rattle.policy_comparison.proofs.left_keys.access_counted.Goals as goal

pub returns-in-Some-clause-stands : goal.returns-in-Some-clause-stands
returns-in-Some-clause-stands c = λ j trace n next stands. on-success c.count_left.result (c.in_ok-row.ensures.stands j trace n next stands)

pub returns-in-Some-clause-left : goal.returns-in-Some-clause-left
returns-in-Some-clause-left c = λ j trace from n le next stands are.
    at_success c.count_left.result _ _
    (left-more j trace from n (Some c.in-Some.row) c.args.left.now.items c.count_left.new.left.items le
    (sym c.in-Some.is ∙ c.in_ok-row.ensures.row j trace n next stands) are)
    c.count_left.ensures

pub returns-in-None-clause-left : goal.returns-in-None-clause-left
returns-in-None-clause-left c = λ j trace from n le next stands are.
    left-more j trace from n None c.args.left.now.items c.args.left.now.items le
    (sym c.in-None.is ∙ c.in_ok-row.ensures.row j trace n next stands) are (λ row. omega arith)
