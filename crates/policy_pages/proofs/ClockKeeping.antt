-- CLOCK: what it keeps.
use Rattle.std.proofs.lemmas.Bool.Decides.{nat_tests}
use Rattle.std.proofs.Common.{◌≡◌, ℕ, ◌≤◌, false, nat_lt, List, [], ◌∷◌, ◌++◌, length, ap, sym, ◌∙◌, refl, arith}
use Rattle.std.proofs.lemmas.Bool.{cond_both, ltb-false}
use Rattle.engine_base.specs.Keys.{has_key}
use Rattle.policy_pages.specs.Residents.{Outcome, times, IsAccess, KeepsResidents}
use Rattle.policy_pages.specs.CountedKeys.{CountedKey, keys_of, AreCounted, total_count}
use Rattle.policy_pages.specs.Turns.{turn_count, after_turns}
use Rattle.policy_pages.specs.Clock.{marked_key, clock_eviction, clock_act, IsClock}
use Rattle.policy_pages.proofs.Residents.{hit-stays, miss-joins, miss-replaces, access-keeps, none-held}
use Rattle.policy_pages.proofs.CountedKeys.{joined-times, joined-length, length-keys, total-few, keys-with, counted-append, counted-with}
use Rattle.policy_pages.proofs.Turns.{turn-count-few, turns-times, turns-length, turns-counted}

pub turns_few : (c : ℕ) (queue : List CountedKey) → IsClock c queue → turn_count queue ≤ c
turns_few c queue s = let fits = s.residents.fits in omega (arith, fits, length-keys queue, total-few 1 queue s.bits, turn-count-few (total_count queue) queue)

-- ---- its residents and bits

evicts : (c k : ℕ) (old : List ℕ) (queue : List CountedKey) → 1 ≤ c → has_key k old ≡ false → nat_lt (length old) c ≡ false → ((x : ℕ) → times x (keys_of queue) ≡ times x old) → length (keys_of queue) ≡ length old → IsAccess c k old (clock_eviction k queue).0 (keys_of (clock_eviction k queue).1)
evicts c k old v h e f m n = grind (arith, nat_tests, ltb-false, miss-replaces, joined-times, joined-length)

access : (c k : ℕ) (queue : List CountedKey) → 1 ≤ c → IsAccess c k (keys_of queue) (clock_act c k queue).0 (keys_of (clock_act c k queue).1)
access c k queue h =
    let P : Outcome × List CountedKey → Type 0 = λ r. IsAccess c k (keys_of queue) r.0 (keys_of r.1) in
    let after : List CountedKey = after_turns (turn_count queue) queue in
    cond_both (has_key k (keys_of queue)) _ _ P (λ e. rw (keys-with k 1 queue) (hit-stays c k (keys_of queue) e))
    (λ e. cond_both (nat_lt (length queue) c) _ _ P
    (λ f. miss-joins c k (keys_of queue) (keys_of (queue ++ marked_key k ∷ [])) e (ap (λ n. nat_lt n c) (length-keys queue) ∙ f) (λ x. joined-times x (marked_key k) queue) (joined-length (marked_key k) queue))
    (λ f. evicts c k (keys_of queue) after h e (ap (λ n. nat_lt n c) (length-keys queue) ∙ f) (λ x. turns-times x (turn_count queue) queue) (length-keys after ∙ turns-length (turn_count queue) queue ∙ sym (length-keys queue))))

counted : (c k : ℕ) (queue : List CountedKey) → AreCounted 1 queue → AreCounted 1 (clock_act c k queue).1
counted c k queue h = grind (arith, nat_tests, cond_both, counted-with, counted-append, turns-counted)

pub keeps : (c : ℕ) → 1 ≤ c → KeepsResidents c [] (clock_act c) keys_of (IsClock c)
keeps c h = record {
  starts = (record { residents = none-held c; bits = tt }, refl);
  keeps = λ k queue s. record {
    residents = access-keeps c k (keys_of queue) _ _ (access c k queue h) s.residents;
    bits = counted c k queue s.bits;
  };
  accesses = λ k queue s. access c k queue h;
  holds = λ queue s. s.residents;
}
