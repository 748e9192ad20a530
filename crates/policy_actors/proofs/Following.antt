-- Any job can be run over a trace that is no longer than one that is kept.
use Rattle.std.proofs.Common.{◌≤◌, ℕ, List, [], ◌∷◌}
use Rattle.std.specs.List.{All}
use Rattle.std.proofs.lemmas.List.Elements.{All-nil, All-cons}
use Rattle.engine_base.specs.declared.limits.TheConstants.{MAX_ACCESSES}
use Rattle.policy_actors.specs.Following.{Job, CanFollow}

pub all_follow : (most : ℕ) (jobs : List Job) → most ≤ MAX_ACCESSES → All (CanFollow most) jobs
all_follow most [] few = All-nil (CanFollow most)
all_follow most (j ∷ js) few = All-cons (CanFollow most) j js (λ whole. few) (all_follow most js few)
