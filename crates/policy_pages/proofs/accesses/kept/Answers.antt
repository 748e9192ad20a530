use Rattle.std.proofs.Common.{false, refl}
use Rattle.policy_pages.proofs.accesses.kept.Goals as goal

pub returns : goal.returns
returns c o i s u own = record { outcome = refl; own_number = refl; carried = c.of_key.ensures false o i c.args.own_number s u own }
