use Rattle.std.proofs.Common.{arith}
use Rattle.debug_policies.proofs.Facts.{last_is_none, last_is_made}
use Rattle.debug_policies.proofs.views.push_last.Goals as goal

pub returns-then-position-eq0 : goal.returns-then-position-eq0
returns-then-position-eq0 c =
    last_is_none c.extend_from_slice.result c.args.first.now.trace c.args.first.now.job c.args.second.now.job c.args.first.now.at
    c.args.text.now.items c.extend_from_slice.new.self.items (omega (arith, c.position.ensures.at, c.if-position-eq0.true))
    c.extend_from_slice.ensures.items

pub returns : goal.returns
returns c =
    last_is_made c.push_outcomes.result c.args.first.now.trace c.args.first.now.job c.args.second.now.job c.args.first.now.at
    c.args.text.now.items c.push_access.new.text.items c.push_outcomes.new.text.items
    (omega (arith, c.position.ensures.at, c.if-position-eq0.false)) c.in_ok-push_access.ensures c.push_outcomes.ensures
