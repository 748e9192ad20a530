-- What is left to redo after more entries.
use Rattle.std.proofs.lemmas.Bool.Decides.{nat_tests}
use Rattle.std.proofs.Common.{arith, ◌≡◌, List, ◌++◌}
use Rattle.engine_base.specs.History.{tail_after}

-- entries after entries
pub tail_joined : {E : Type 0} (a b t : List E) → tail_after b (tail_after a t) ≡ tail_after (a ++ b) t
tail_joined v b t = grind (arith, nat_tests)
