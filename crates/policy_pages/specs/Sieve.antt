-- SIEVE (Zhang and others, NSDI 2024): a hit sets its key's visited bit. A hand goes over the queue from old to new. In
-- a full cache it clears the bits that are set until it finds one that is clear, and that key leaves. A bit is a count
-- of 0 or 1.
use Rattle.std.specs.Prelude.{ℕ, zero, suc, nat_lt, if◌then◌else◌, eqb, List, [], ◌∷◌, ◌++◌, length}
use Rattle.engine_base.specs.Keys.{has_key}
pub use Rattle.engine_base.specs.declared.outcome.Outcome.{Outcome}
use Rattle.engine_base.specs.declared.outcome.Outcome.TheVariants as outcome
use Rattle.policy_pages.specs.Residents.{AreResidents}
use Rattle.policy_pages.specs.CountedKeys.{CountedKey, uncounted_key, counted_less, keys_of, with_count}
use Rattle.policy_pages.specs.CountedKeys.{AreCounted, total_count, oldest_count}

-- the queue: the keys that the hand has passed, which are older, and those ahead of it
pub record SieveState : Type 0 where
  pub passed : List CountedKey
  pub ahead : List CountedKey

abbrev pub empty_sieve : SieveState
empty_sieve = record { passed = []; ahead = [] }

abbrev pub sieve_residents : SieveState → List ℕ
sieve_residents s = keys_of (s.passed ++ s.ahead)

-- ---- the hand

-- where nothing is ahead of the hand, it goes back to the oldest key
abbrev pub after_wrap : List CountedKey → List CountedKey → SieveState
after_wrap passed [] = record { passed = []; ahead = passed }
after_wrap passed (e ∷ ahead) = record { passed = passed; ahead = e ∷ ahead }

-- the hand passes a key, and clears its bit
abbrev pub after_pass : List CountedKey → List CountedKey → SieveState
after_pass passed [] = record { passed = passed; ahead = [] }
after_pass passed (e ∷ ahead) = after_wrap (passed ++ counted_less e ∷ []) ahead

-- how many keys it passes until it is at one whose bit is clear, where it passes at most n
abbrev pub pass_count_within : ℕ → SieveState → ℕ
pass_count_within zero s = 0
pass_count_within (suc n) s =
    if eqb (oldest_count s.ahead) 0 then 0 else suc (pass_count_within n (after_pass s.passed s.ahead))

-- how many there are: no more than bits are set
abbrev pub pass_count : SieveState → ℕ
pass_count s = pass_count_within (total_count (s.passed ++ s.ahead)) s

abbrev pub after_passes : ℕ → SieveState → SieveState
after_passes zero s = s
after_passes (suc n) s = after_passes n (after_pass s.passed s.ahead)

-- ---- an access

abbrev pub sieve_with_key : ℕ → SieveState → SieveState
sieve_with_key k s = record { passed = s.passed; ahead = s.ahead ++ uncounted_key k ∷ [] }

-- k comes to a full cache, and the hand is at a key whose bit is clear: that key leaves
abbrev pub sieve_eviction : ℕ → List CountedKey → List CountedKey → Outcome × SieveState
sieve_eviction k passed [] = (outcome.Kept, record { passed = passed; ahead = uncounted_key k ∷ [] })
sieve_eviction k passed (e ∷ ahead) = (outcome.Evicted e.key, sieve_with_key k (after_wrap passed ahead))

-- the state with n as the count of k
abbrev pub sieve_with_count : ℕ → ℕ → SieveState → SieveState
sieve_with_count k n s = record { passed = with_count k n s.passed; ahead = with_count k n s.ahead }

-- an access to k at capacity c: its outcome, and the state after it
abbrev pub sieve_act : ℕ → ℕ → SieveState → Outcome × SieveState
sieve_act c k s =
    if has_key k (sieve_residents s)
    then (outcome.Hit, sieve_with_count k 1 s)
    else if nat_lt (length (sieve_residents s)) c
    then (outcome.Kept, sieve_with_key k s)
    else sieve_eviction k (after_passes (pass_count s) s).passed (after_passes (pass_count s) s).ahead

-- ---- what holds of it

-- there is a key ahead of the hand, unless the cache is empty
abbrev pub HasAhead : List CountedKey → List CountedKey → Type 0
HasAhead passed (e ∷ ahead) = Unit {0}
HasAhead [] [] = Unit {0}
HasAhead (e ∷ passed) [] = ⊥

-- a state of a cache of capacity c
pub record IsSieve (c : ℕ) (s : SieveState) : Type 0 where
  pub residents : AreResidents c (sieve_residents s)
  pub bits : AreCounted 1 (s.passed ++ s.ahead)
  pub hand : HasAhead s.passed s.ahead
