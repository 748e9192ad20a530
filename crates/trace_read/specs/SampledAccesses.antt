-- What a sample has so far.
use Rattle.std.specs.Prelude.{◌≡◌, ◌==◌, ◌||◌, ◌++◌, ◌+◌, ℕ, List, [], length}
use Rattle.std.specs.HashSet.{contains}
use Rattle.std.specs.Set.{is_member}
use Rattle.trace_read.specs.Numbers.{numbers_text}
pub use Rattle.trace_read.specs.declared.sampled_accesses.SampledAccesses.{SampledAccesses}

-- it counts these accesses and their blocks too
pub record KeepsCount (old new : SampledAccesses) (more : List ℕ) : Type 0 where
  pub accesses : new.accesses ≡ old.accesses + length more
  pub blocks : (q : ℕ) → contains (λ a b. a == b) new.blocks q
      ≡ (contains (λ a b. a == b) old.blocks q || is_member (λ a b. a == b) more q)

-- and has their text too
pub record Keeps (old new : SampledAccesses) (more : List ℕ) : Type 0 where
  pub text : new.text.items ≡ old.text.items ++ numbers_text more
  pub count : KeepsCount old new more

-- nothing yet
pub record HasNothing (sample : SampledAccesses) : Type 0 where
  pub accesses : sample.accesses ≡ 0
  pub blocks : sample.blocks.keys ≡ []
  pub text : sample.text.items ≡ []
