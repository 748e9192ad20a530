-- The protocol of an actor's channel: it holds the batches from the one after the last taken to the last given, in
-- order.
use Rattle.std.specs.Prelude.{◌≡◌, ℕ, ◌+◌, ◌*◌, ◌<◌, ◌≤◌, ◌↔◌, IsTrue, IfSome, Bool, true, Option, List, [], ◌∷◌}
use Rattle.std.specs.Prelude.{length, take, drop}
use mathlib.Core.Option.{some}
use lib.ListN.{get_elem?}
pub use Rattle.policy_actors.specs.declared.channel_protocol.ChannelLog.{ChannelLog}
pub use Rattle.policy_actors.specs.declared.channel_protocol.Batch.{Batch}

abbrev pub channel_log : Bool → Bool → ℕ → ℕ → ChannelLog
channel_log gives takes given taken = record { gives = gives; takes = takes; given = given; taken = taken }

-- b is batch number k of what is fed, which has at most `most` keys, `size` to a batch: all of it, where the keys are
-- known beforehand
pub record IsBatch (known : Option (List ℕ)) (most size k : ℕ) (b : Batch) : Type 0 where
  pub number : b.number ≡ k
  pub within : length b.keys ≤ size
  pub few : 0 < length b.keys → k * size + length b.keys ≤ most
  pub last : IfSome known (λ all. IsTrue b.last ↔ (length all ≤ k * size + size))
  pub piece : IfSome known (λ all. b.keys ≡ take size (drop (k * size) all))

-- the batches from number k to number j, j left out
abbrev pub AreBatches : Option (List ℕ) → ℕ → ℕ → ℕ → List Batch → ℕ → Type 0
AreBatches known most size k [] j = k ≡ j
AreBatches known most size k (b ∷ bs) j = IsBatch known most size k b × AreBatches known most size (k + 1) bs j

-- the one giver knows how many were given, the one taker how many were taken
abbrev pub FitsRule : ℕ → ℕ → ℕ → ℕ → ℕ → ChannelLog → Type 0
FitsRule giver taker given taken pass v =
    (v.gives ≡ true → (pass ≡ giver) × (v.given ≡ given))
    × (v.takes ≡ true → (pass ≡ taker) × (v.taken ≡ taken))

abbrev pub AreKept : Option (List ℕ) → ℕ → ℕ → List Batch → List ChannelLog → Type 0
AreKept known most size items views =
    (giver : ℕ) × (taker : ℕ) × (given : ℕ) × (taken : ℕ) × AreBatches known most size taken items given
    × ((pass : ℕ) (v : ChannelLog) → get_elem? views pass ≡ some v → FitsRule giver taker given taken pass v)
