-- S3-FIFO: what it keeps.
use Rattle.std.proofs.lemmas.Bool.Decides.{nat_tests}
use Rattle.std.proofs.Common.{Bool, ◌≡◌, ℕ, zero, suc, ◌+◌, ◌<◌, ◌≤◌, false, nat_lt, List, [], ◌∷◌, ◌++◌, length, ◌∙◌, refl, arith, length-append}
use Rattle.std.proofs.lemmas.Bool.{cond_both, ltb-true, ltb-false}
use Rattle.engine_base.specs.Keys.{has_key}
use Rattle.policy_pages.specs.Residents.{Outcome, times, keys_evicted, IsAccess, KeepsResidents}
use Rattle.policy_pages.specs.CountedKeys.{CountedKey, keys_of, count_of, AreCounted}
use Rattle.policy_pages.specs.Turns.{after_turn}
use Rattle.policy_pages.specs.S3Fifo.{S3FifoState, s3_fifo_residents, s3_fifo_main_size, main_gives, after_promotion, after_move, is_settled, main_eviction, small_eviction, s3_fifo_departure, s3_fifo_eviction_within, most_moves, s3_fifo_room, without_ghost_key, s3_fifo_with_key, hit_count, s3_fifo_act, IsS3Fifo, empty_s3_fifo}
use Rattle.policy_pages.proofs.Residents.{hit-stays, miss-joins, miss-replaces, access-keeps, none-held, times-append}
use Rattle.policy_pages.proofs.CountedKeys.{keys-times, length-keys, joined-times, keys-with-both, counted-append, counted-first, counted-second, counted-both, keys-append}
use Rattle.policy_pages.proofs.Turns.{turned-length, turned-counted}
use Rattle.policy_pages.proofs.Ghost.{with-times, with-fits, without-length, still-apart}

lengths : (a b : List CountedKey) → length (keys_of (a ++ b)) ≡ length a + length b
lengths a b = length-keys (a ++ b) ∙ length-append a b

abbrev pub made : List CountedKey → List CountedKey → List ℕ → S3FifoState
made small main ghost = record { small = small; main = main; ghost = ghost }

-- ---- the moves of an eviction

-- they led from residents and a ghost to the state s
pub record IsMoved (residents ghost : List ℕ) (s : S3FifoState) : Type 0 where
  pub keys : (x : ℕ) → times x (s3_fifo_residents s) ≡ times x residents
  pub many : length (s3_fifo_residents s) ≡ length residents
  pub small : AreCounted 3 s.small
  pub main : AreCounted 3 s.main
  pub same_ghost : s.ghost ≡ ghost

pub unmoved : (s : S3FifoState) → AreCounted 3 (s.small ++ s.main) → IsMoved (s3_fifo_residents s) s.ghost s
unmoved s h = grind (arith, nat_tests, counted-first 3 s.small s.main h, counted-second 3 s.small s.main h)

module _ (residents ghost : List ℕ) where
  turned : (small main : List CountedKey) (l : List ℕ) → IsMoved residents ghost (made small main l) → IsMoved residents ghost (made small (after_turn main) l)
  turned small main l h = grind (arith, nat_tests, keys-times, keys-append, times-append, lengths, turned-length, turned-counted)

  pub promoted : (small main : List CountedKey) (l : List ℕ) → IsMoved residents ghost (made small main l) → IsMoved residents ghost (after_promotion small main l)
  promoted v main l h = grind (arith, nat_tests, keys-times, joined-times, lengths, length-append, counted-append)

  moved : (size : ℕ) (s : S3FifoState) → IsMoved residents ghost s → IsMoved residents ghost (after_move size s)
  moved size s h = search (arith, cond_both, turned s.small s.main s.ghost h, promoted s.small s.main s.ghost h)

-- ---- the key comes in

pub join-times : (x k : ℕ) (remembered : Bool) (s : S3FifoState) → times x (s3_fifo_residents (s3_fifo_with_key remembered k s)) ≡ times x (s3_fifo_residents s) + times x (k ∷ [])
join-times x k v s = grind (arith, nat_tests, keys-times, joined-times)

join-length : (k : ℕ) (remembered : Bool) (s : S3FifoState) → length (s3_fifo_residents (s3_fifo_with_key remembered k s)) ≡ suc (length (s3_fifo_residents s))
join-length k v s = grind (arith, nat_tests, lengths, length-append)

join-ghost : (k : ℕ) (remembered : Bool) (s : S3FifoState) → (s3_fifo_with_key remembered k s).ghost ≡ s.ghost
join-ghost k v s = grind (arith, nat_tests)

-- ---- room for it

-- residents and a ghost of the given size at most have become the state r.1, which k joins, with the outcome r.0
pub record IsRoom (size c k : ℕ) (remembered : Bool) (residents ghost : List ℕ) (r : Outcome × S3FifoState) : Type 0 where
  pub access : IsAccess c k residents r.0 (s3_fifo_residents (s3_fifo_with_key remembered k r.1))
  pub small : AreCounted 3 r.1.small
  pub main : AreCounted 3 r.1.main
  pub fits : length ghost ≤ size → length r.1.ghost ≤ size
  pub grows : (x : ℕ) → times x r.1.ghost ≤ times x ghost + times x (keys_evicted r.0)

small-some : (size : ℕ) (small main : List CountedKey) (l : List ℕ) → main_gives size (made small main l) ≡ false → 1 ≤ length small
small-some size v main l h = grind (arith, nat_tests)

module _ (size c k : ℕ) (remembered : Bool) (residents ghost : List ℕ) (some : 1 ≤ c) (absent : has_key k residents ≡ false) (full : nat_lt (length residents) c ≡ false) where
  abbrev IsMade : Outcome × S3FifoState → Type 0
  IsMade r = IsRoom size c k remembered residents ghost r

  main-evicts : (small main : List CountedKey) (l : List ℕ) → 1 ≤ length main → IsMoved residents ghost (made small main l) → IsMade (main_eviction small main l)
  main-evicts small v l n h = grind (arith, nat_tests, miss-replaces, join-times, keys-times, join-length, lengths)

  small-evicts : (small main : List CountedKey) (l : List ℕ) → 1 ≤ length small → IsMoved residents ghost (made small main l) → IsMade (small_eviction size small main l)
  small-evicts v main l n h =
      grind (arith, nat_tests, miss-replaces, join-times, keys-times, join-length, lengths, with-fits, with-times)

  departs : (s : S3FifoState) → IsMoved residents ghost s → IsMade (s3_fifo_departure size s)
  departs s h =
      let many : c ≤ length residents = ltb-false (length residents) c full in
      cond_both (main_gives size s) _ _ IsMade
      (λ e. main-evicts s.small s.main s.ghost (grind (arith, nat_tests, length-keys, ltb-true)) h)
      (λ e. small-evicts s.small s.main s.ghost (small-some size s.small s.main s.ghost e) h)

  within : (n : ℕ) (s : S3FifoState) → IsMoved residents ghost s → IsMade (s3_fifo_eviction_within n size s)
  within zero s h = departs s h
  within (suc n) s h =
      cond_both (is_settled size s) _ _ IsMade (λ e. departs s h) (λ e. within n (after_move size s) (moved residents ghost size s h))

pub room-made : (part c k : ℕ) (remembered : Bool) (s : S3FifoState) → 1 ≤ c → has_key k (s3_fifo_residents s) ≡ false → AreCounted 3 (s.small ++ s.main)
    → IsRoom (s3_fifo_main_size part c) c k remembered (s3_fifo_residents s) s.ghost (s3_fifo_room part c s)
room-made part c k remembered s some absent counts =
    let size : ℕ = s3_fifo_main_size part c in
    let start = unmoved s counts in
    cond_both (nat_lt (length (s3_fifo_residents s)) c) _ _ (IsRoom size c k remembered (s3_fifo_residents s) s.ghost)
    (λ f. record {
      access = miss-joins c k (s3_fifo_residents s) (s3_fifo_residents (s3_fifo_with_key remembered k s)) absent f (λ x. join-times x k remembered s) (join-length k remembered s);
      small = start.small;
      main = start.main;
      fits = λ h. h;
      grows = λ x. omega arith;
    })
    (λ f. within size c k remembered (s3_fifo_residents s) s.ghost some absent f (most_moves s) s start)

-- ---- an access

hit-few : (n : ℕ) → hit_count n ≤ 3
hit-few n = cond_both (nat_lt n 3) _ _ (λ m. m ≤ 3) (λ e. let few : n < 3 = ltb-true n 3 e in omega arith) (λ e. omega arith)

module _ (part c k : ℕ) (s : S3FifoState) (some : 1 ≤ c) (state : IsS3Fifo part c s) where
  -- an access with the outcome r.0, after which the state is r.1
  record IsNext (r : Outcome × S3FifoState) : Type 0 where
    access : IsAccess c k (s3_fifo_residents s) r.0 (s3_fifo_residents r.1)
    counts : AreCounted 3 (r.1.small ++ r.1.main)
    ghost_fits : length r.1.ghost ≤ s3_fifo_main_size part c
    apart : (x : ℕ) → times x r.1.ghost + times x (s3_fifo_residents r.1) ≤ 1

  next : IsNext (s3_fifo_act part c k s)
  next =
      let n : ℕ = hit_count (count_of k (s.small ++ s.main)) in
      let t : S3FifoState = without_ghost_key k s in
      let remembered : Bool = has_key k s.ghost in
      let r : Outcome × S3FifoState = s3_fifo_room part c t in
      cond_both (has_key k (s3_fifo_residents s)) _ _ IsNext
      (λ e. record {
        access = rw (keys-with-both k n s.small s.main) (hit-stays c k (s3_fifo_residents s) e);
        counts = counted-both 3 k n s.small s.main (hit-few (count_of k (s.small ++ s.main))) state.counts;
        ghost_fits = state.ghost_fits;
        apart = λ x. rw (keys-with-both k n s.small s.main) (state.apart x);
      })
      (λ e.
      let room = room-made part c k remembered t some e state.counts in
      let ghost : (s3_fifo_with_key remembered k r.1).ghost ≡ r.1.ghost = join-ghost k remembered r.1 in
      record {
        access = room.access;
        counts = (grind (arith, nat_tests, counted-append));
        ghost_fits = rw ghost (room.fits (omega (arith, state.ghost_fits, without-length k s.ghost)));
        apart = λ x. rw ghost (still-apart x k s.ghost (s3_fifo_residents s) r.1.ghost (s3_fifo_residents (s3_fifo_with_key remembered k r.1)) r.0 e (state.apart x) (room.grows x) (room.access.moves x));
      })

pub keeps : (part c : ℕ) → 1 ≤ c → KeepsResidents c empty_s3_fifo (s3_fifo_act part c) s3_fifo_residents (IsS3Fifo part c)
keeps part c h = record {
  starts = (record { residents = none-held c; counts = tt; ghost_fits = omega arith; apart = λ k. omega arith }, refl);
  keeps = λ k s state.
      let a = next part c k s h state in
      record { residents = access-keeps c k (s3_fifo_residents s) _ _ a.access state.residents; counts = a.counts; ghost_fits = a.ghost_fits; apart = a.apart };
  accesses = λ k s state. (next part c k s h state).access;
  holds = λ s state. state.residents;
}
