-- Turns keep the keys, and end at a key without count.
use Rattle.std.proofs.Common.{◌≡◌, ℕ, zero, suc, ◌≤◌, false, eqb, List, length, ◌∙◌, refl, arith, length-append}
use Rattle.std.proofs.lemmas.Bool.Decides.{nat_tests}
use Rattle.policy_pages.specs.Residents.{times}
use Rattle.policy_pages.specs.CountedKeys.{CountedKey, keys_of, AreCounted, total_count, oldest_count}
use Rattle.policy_pages.specs.Turns.{after_turn, turn_count_within, turn_count, after_turns}
use Rattle.policy_pages.proofs.Residents.{times-append}
use Rattle.policy_pages.proofs.CountedKeys.{keys-append, counted-append, total-append}
use Rattle.std.proofs.lemmas.Bool.{eqb-false}

-- ---- the end

pub turned-total : (queue : List CountedKey) → eqb (oldest_count queue) 0 ≡ false → suc (total_count (after_turn queue)) ≡ total_count queue
turned-total v h = grind (arith, nat_tests, eqb-false, total-append)

pub oldest-few : (queue : List CountedKey) → oldest_count queue ≤ total_count queue
oldest-few v = grind (arith, nat_tests)

pub turn-count-few : (n : ℕ) (queue : List CountedKey) → turn_count_within n queue ≤ n
turn-count-few zero queue = omega arith
turn-count-few (suc n) queue = grind (arith, nat_tests, turn-count-few n (after_turn queue))

-- as many turns as all counts together suffice
turns-settle : (n : ℕ) (queue : List CountedKey) → total_count queue ≤ n → oldest_count (after_turns (turn_count_within n queue) queue) ≡ 0
turns-settle zero queue h = omega (arith, oldest-few queue)
turns-settle (suc n) queue h = grind (arith, nat_tests, turns-settle n (after_turn queue), turned-total queue)

pub settled : (queue : List CountedKey) → oldest_count (after_turns (turn_count queue) queue) ≡ 0
settled queue = turns-settle (total_count queue) queue (omega arith)

-- ---- the keys and counts stay

pub turns-times : (x n : ℕ) (queue : List CountedKey) → times x (keys_of (after_turns n queue)) ≡ times x (keys_of queue)
turns-times x zero queue = refl
turns-times x (suc n) queue = turns-times x n (after_turn queue) ∙ (grind (arith, nat_tests, keys-append, times-append))

pub turned-length : (queue : List CountedKey) → length (after_turn queue) ≡ length queue
turned-length v = grind (arith, nat_tests, length-append)

pub turns-length : (n : ℕ) (queue : List CountedKey) → length (after_turns n queue) ≡ length queue
turns-length zero queue = refl
turns-length (suc n) queue = turns-length n (after_turn queue) ∙ turned-length queue

pub turned-counted : (m : ℕ) (queue : List CountedKey) → AreCounted m queue → AreCounted m (after_turn queue)
turned-counted m v h = grind (arith, nat_tests, counted-append)

pub turns-counted : (m n : ℕ) (queue : List CountedKey) → AreCounted m queue → AreCounted m (after_turns n queue)
turns-counted m zero queue h = h
turns-counted m (suc n) queue h = turns-counted m n (after_turn queue) (turned-counted m queue h)
