-- The residents and what leaves.
use Rattle.std.proofs.Common.{◌≡◌, ℕ, suc, zero, ◌+◌, ◌<◌, ◌≤◌, true, false, eqb, nat_lt, ◌⊎◌, inl, inr, List, [], ◌∷◌, length, get_or, ap, ◌∙◌, sym, refl, arith}
use Rattle.std.proofs.lemmas.Bool.{cases_Bool, cases_eq, eq-eqb, ne_eqb, ltb-true}
use Rattle.std.proofs.lemmas.Bool.Decides.{nat_tests}
use Rattle.engine_base.specs.declared.outcome.Outcome.{Outcome}
use Rattle.engine_base.specs.declared.outcome.Outcome.TheVariants as outcome
use Rattle.engine_base.specs.Keys.{has_key, keys_without}
use Rattle.engine_base.specs.Stats.{is_hit, is_miss, is_eviction, one_if}
use Rattle.clairvoyant.specs.declared.optimal_record.OptimalRecord.TheVariants.{Hit, Kept, Evicted, Rejected}
use Rattle.clairvoyant.specs.Keys.{residents_with, IsAscendingKeys}
use Rattle.clairvoyant.specs.Ranks.{rank, key_at}
use Rattle.clairvoyant.specs.Belady.{leaves_first, farthest, belady_residents_after, belady_answer, belady_residents}
use Rattle.clairvoyant.specs.OptimalRecord.{OptimalRecord, use_record_of}
use Rattle.clairvoyant.proofs.Keys.{has-put, has-without, ascending-put, ascending-without, length-put, length-without, without-put}
use Rattle.clairvoyant.proofs.Ranked.{IsSeen, seen-own, seen-more, named, leaves-rank}

-- ---- the key that leaves is a resident or the accessed one

pub later : (x a : ℕ) (l : List ℕ) → has_key x l ≡ true → has_key x (a ∷ l) ≡ true
later x a l h = grind (arith, h)

pub soon : (x a : ℕ) (l : List ℕ) → (x ≡ a) ⊎ (has_key x l ≡ true) → has_key x (a ∷ l) ≡ true
soon x a l h = elim h [ inl f ↦ rw (eq-eqb x a f) refl | inr f ↦ later x a l f ]

pub put-has : (x k : ℕ) (r : List ℕ) → has_key x (residents_with k r) ≡ true → (x ≡ k) ⊎ (has_key x r ≡ true)
put-has x k r h = grind (arith, nat_tests, has-put x k r, cases_eq x k)

pub without-has : (x v : ℕ) (r : List ℕ) → has_key x (keys_without v r) ≡ true → has_key x r ≡ true
without-has x v r h = let is = has-without x v r in grind (arith, is, h)

farthest-among : (t : List ℕ) (i b : ℕ) (l : List ℕ) → has_key (farthest t i b l) (b ∷ l) ≡ true
farthest-among t i b [] = rw (eq-eqb b b refl) refl
farthest-among t i b (a ∷ l) = search (arith, farthest-among t i a l, farthest-among t i b l, cases_Bool)

pub farthest-in : (t : List ℕ) (i k : ℕ) (r : List ℕ) → has_key (farthest t i k r) (residents_with k r) ≡ true
farthest-in t i k r = has-put (farthest t i k r) k r ∙ farthest-among t i k r

-- ---- the ways of an access

-- An access to k at place i of a cache of capacity c with residents r: its record, its outcome and the residents after it.
pub data Accesses (c : ℕ) (t : List ℕ) (i k : ℕ) (r : List ℕ) : OptimalRecord → Outcome → List ℕ → Type 0 where
  hit : has_key k r ≡ true → Accesses c t i k r Hit outcome.Hit r
  kept : has_key k r ≡ false → length r < c → Accesses c t i k r Kept outcome.Kept (residents_with k r)
  rejected : has_key k r ≡ false → Accesses c t i k r (Rejected k) (outcome.Rejected k) r
  evicted : (v : ℕ) → has_key k r ≡ false → has_key v r ≡ true
      → Accesses c t i k r (Evicted record { key = v; rank = rank t (suc i) v }) (outcome.Evicted v) (keys_without v (residents_with k r))

pub accesses : (c : ℕ) (t : List ℕ) (i k : ℕ) (r : List ℕ) → Accesses c t i k r (use_record_of c t i k r) (belady_answer c t i k r) (belady_residents_after c t i k r)
accesses c t i k r =
    elim (cases_Bool (has_key k r)) as (λ _. Accesses c t i k r (use_record_of c t i k r) (belady_answer c t i k r) (belady_residents_after c t i k r)) [
      | inl e ↦ rw e (hit e)
      | inr e ↦ elim (cases_Bool (nat_lt (length r) c)) as (λ _. Accesses c t i k r (use_record_of c t i k r) (belady_answer c t i k r) (belady_residents_after c t i k r)) [
        | inl f ↦ rw (e, f) (kept e (ltb-true (length r) c f))
        | inr f ↦ elim (cases_eq k (farthest t i k r)) as (λ _. Accesses c t i k r (use_record_of c t i k r) (belady_answer c t i k r) (belady_residents_after c t i k r)) [
          | inl g ↦ rw (e, f, ← g, eq-eqb k k refl, without-put k r e) (rejected e)
          | inr n ↦
              let there : has_key (farthest t i k r) r ≡ true = (let among = farthest-among t i k r in grind (arith, nat_tests, among, n)) in
              rw (e, f, ne_eqb k (farthest t i k r) n) (evicted (farthest t i k r) e there)
        ]
      ]
    ]

pub full-length : (t : List ℕ) (i k : ℕ) (r : List ℕ) → IsAscendingKeys r → has_key k r ≡ false → length (keys_without (farthest t i k r) (residents_with k r)) ≡ length r
full-length t i k r s e = (omega (arith, length-without (farthest t i k r) (residents_with k r) (ascending-put k r s e) (farthest-in t i k r), length-put k r))

module _ {c : ℕ} {t : List ℕ} {i k : ℕ} {r : List ℕ} where
  stays-ascending : {d : OptimalRecord} {o : Outcome} {l : List ℕ} → Accesses c t i k r d o l → IsAscendingKeys r → IsAscendingKeys l
  stays-ascending v s = grind (arith, nat_tests, ascending-put, ascending-without)

  pub access-counts : {d : OptimalRecord} {o : Outcome} {l : List ℕ} → Accesses c t i k r d o l → IsAscendingKeys r → length l + one_if (is_eviction o) ≡ length r + one_if (is_miss o)
  access-counts v s = grind (arith, nat_tests, length-put, length-without, ascending-put, has-put, later)

  stays-within : {d : OptimalRecord} {o : Outcome} {l : List ℕ} → Accesses c t i k r d o l → IsAscendingKeys r → length r ≤ c → length l ≤ c
  stays-within v s h = grind (arith, nat_tests, length-put, length-without, ascending-put, has-put, later)

pub served-has : (c : ℕ) (t : List ℕ) (i k x : ℕ) (r : List ℕ) → has_key x (belady_residents_after c t i k r) ≡ true → (x ≡ k) ⊎ (has_key x r ≡ true)
served-has c t i k x r h = (grind (arith, nat_tests, put-has, without-has))

pub hit-resident : (c : ℕ) (t : List ℕ) (i k : ℕ) (r : List ℕ) → is_hit (belady_answer c t i k r) ≡ has_key k r
hit-resident c t i k r = (grind (arith, nat_tests))

module _ (c : ℕ) (t : List ℕ) where
  pub residents-ascending : (i : ℕ) → IsAscendingKeys (belady_residents c t i)
  residents-ascending zero = tt
  residents-ascending (suc i) = stays-ascending (accesses c t i (get_or t i 0) (belady_residents c t i)) (residents-ascending i)

  pub residents-seen : (i x : ℕ) → has_key x (belady_residents c t i) ≡ true → IsSeen t i x
  residents-seen zero x h = absurd (cc (h))
  residents-seen (suc i) x h =
      elim (served-has c t i (get_or t i 0) x (belady_residents c t i) h) [
        | inl e ↦ rw e (seen-own t i)
        | inr g ↦ seen-more t i x (residents-seen i x g)
      ]

  pub residents-fit : (i : ℕ) → length (belady_residents c t i) ≤ c
  residents-fit zero = omega arith
  residents-fit (suc i) = stays-within (accesses c t i (get_or t i 0) (belady_residents c t i)) (residents-ascending i) (residents-fit i)

-- ---- what leaves ranks least

farthest-least : (t : List ℕ) (i b : ℕ) (l : List ℕ) → i < length t → ((a : ℕ) → has_key a (b ∷ l) ≡ true → IsSeen t (suc i) a) → (x : ℕ) → has_key x (b ∷ l) ≡ true → rank t (suc i) (farthest t i b l) ≤ rank t (suc i) x
farthest-least t i b [] h seen x g = let same : b ≡ x = grind (arith, nat_tests, g) in rw same (omega arith)
farthest-least t i b (a ∷ l) h seen x g =
    let own : eqb b b ≡ true = eq-eqb b b refl in
    let test : leaves_first t i a b ≡ nat_lt (rank t (suc i) a) (rank t (suc i) b) = leaves-rank t i a b h (seen a (grind arith)) (seen b (grind (arith, own))) in
    let one = farthest-least t i a l h (λ y k. seen y (later y b (a ∷ l) k)) in
    let other = farthest-least t i b l h (λ y k. seen y (grind (arith, k))) in
    let near = one a (grind arith) in
    let far = other b (grind (arith, own)) in
    grind (arith, nat_tests, test, near, far, one x, other x, g, cases_eq x a, cases_eq x b)

-- what ranks least is what leaves
pub farthest-is : (t : List ℕ) (i b : ℕ) (l : List ℕ) (y : ℕ) → i < length t → ((a : ℕ) → has_key a (b ∷ l) ≡ true → IsSeen t (suc i) a) → has_key y (b ∷ l) ≡ true
    → ((x : ℕ) → has_key x (b ∷ l) ≡ true → rank t (suc i) y ≤ rank t (suc i) x) → farthest t i b l ≡ y
farthest-is t i b l y h seen among least =
    let v : ℕ = farthest t i b l in
    let in_it : has_key v (b ∷ l) ≡ true = farthest-among t i b l in
    let same : rank t (suc i) v ≡ rank t (suc i) y = omega (arith, farthest-least t i b l h seen y among, least v in_it) in
    sym (named t (suc i) v (omega arith) (seen v in_it)).key ∙ ap (key_at t) same ∙ (named t (suc i) y (omega arith) (seen y among)).key
