use Rattle.std.proofs.Common.{true, refl}
use Rattle.policy_pages.proofs.accesses.hit.Goals as goal

pub returns : goal.returns
returns c o i s u own = record { outcome = refl; own_number = refl; carried = c.of_key.ensures true o i c.args.own_number s u own }
