-- What an actor has of the accesses while batches come.
use Rattle.std.specs.Prelude.{◌≡◌, ℕ, ◌*◌, ◌≤◌, Option, IfSome, List, length, take}
use Rattle.policies.specs.CacheRun.{Job, HasTaken}
pub use Rattle.policies.specs.declared.cache_run.CacheRun.{CacheRun}

-- it took the accesses of the first k batches, of so many keys each, at most `most` in all; they may be those of any
-- trace
pub record IsAfter (known : Option (List ℕ)) (most : ℕ) (job : Job) (size k : ℕ) (run : CacheRun) : Type 0 where
  pub done : List ℕ
  pub taken : (trace : List ℕ) → HasTaken job trace done run
  pub within : length done ≤ k * size
  pub few : length done ≤ most
  pub first : IfSome known (λ all. done ≡ take (k * size) all)
