use Rattle.std.proofs.Common.{rules}
use Rattle.journal.proofs.session.Session.held.Goals as goal

pub returns : goal.returns
returns g c = search rules
