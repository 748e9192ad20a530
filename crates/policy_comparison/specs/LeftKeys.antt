-- From which queue of a cache a key leaves by an access, and how many keys left each.
use Rattle.std.specs.Prelude.{◌≡◌, ℕ, ◌-◌, Option, Some, List, get_or}
use Rattle.segments.specs.KeyRow.{Outcome, row_left}
use Rattle.policies.specs.declared.any_policy.AnyPolicy.{AnyPolicy}
use Rattle.policies.specs.AnyPolicy.{Job, any_queues}
use Rattle.policies.specs.AnyStep.{any_act}
use Rattle.policy_comparison.specs.QueueRows.{left_from}

-- an access to the key took the cache from old to new, and a key left the queue of this number by it, or none
pub record IsAccessFrom (key : ℕ) (old : AnyPolicy) (row : Option ℕ) (new : AnyPolicy) : Type 0 where
  pub outcome : Outcome
  pub acts : any_act old key ≡ Some (outcome, new)
  pub left : row ≡ row_left outcome (any_queues old)

-- so many keys left each queue by the accesses behind `from` up to n: none left a queue that has no number yet
abbrev pub AreLeft : Job → List ℕ → ℕ → ℕ → List ℕ → Type 0
AreLeft job trace from n left = (row : ℕ) → get_or left row 0 ≡ left_from job trace row from (n - from)
