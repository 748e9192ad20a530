-- What the keys of a queue weigh, where each key has a weight. A queue's length, and how often a key is in it, are such
-- weights, so one equation for all weights says which keys came and which left.
use Rattle.std.proofs.Common.{◌≡◌, ℕ, ◌+◌, ◌≤◌, true, false, cond, eqb, nat_lt, List, [], ◌∷◌, ◌++◌, length, drop, ap, sym, ◌∙◌, refl, arith}
use Rattle.std.proofs.lemmas.Bool.{cases_eq}
use Rattle.std.proofs.lemmas.Bool.Decides.{nat_tests}
use Rattle.engine_base.specs.Keys.{has_key, keys_without}
use Rattle.engine_base.specs.Stats.{is_hit, is_eviction, is_rejection, one_if}
use Rattle.engine_base.specs.declared.outcome.Outcome.TheVariants.{Hit, Kept, Evicted, Rejected}
use Rattle.policy_pages.specs.Residents.{Outcome, times, keys_evicted, IsAccess}
use Rattle.policy_pages.specs.CountedKeys.{CountedKey, counted_less, keys_of}
use Rattle.policy_pages.specs.Turns.{after_turn}
use Rattle.policy_pages.proofs.Residents.{no-times}
use Rattle.policy_pages.proofs.CountedKeys.{keys-append, length-keys}

abbrev pub weight : (ℕ → ℕ) → List ℕ → ℕ
weight f [] = 0
weight f (a ∷ l) = f a + weight f l

pub length-weight : (l : List ℕ) → length l ≡ weight (λ _. 1) l
length-weight [] = refl
length-weight (a ∷ l) = let rest : length l ≡ weight (λ _. 1) l = length-weight l in omega (arith, rest)

pub times-weight : (x : ℕ) (l : List ℕ) → times x l ≡ weight (λ y. one_if (eqb x y)) l
times-weight x [] = refl
times-weight x (a ∷ l) = ap (λ n. one_if (eqb x a) + n) (times-weight x l)

pub weight-append : (f : ℕ → ℕ) (l m : List ℕ) → weight f (l ++ m) ≡ weight f l + weight f m
weight-append f [] m = omega arith
weight-append f (a ∷ l) m = let rest : weight f (l ++ m) ≡ weight f l + weight f m = weight-append f l m in omega (arith, rest)

pub weight-push : (f : ℕ → ℕ) (l : List ℕ) (k : ℕ) → weight f (l ++ k ∷ []) ≡ weight f l + f k
weight-push f l k = omega (arith, weight-append f l (k ∷ []))

-- the oldest key gone
pub weight-first : (f : ℕ → ℕ) (l : List ℕ) (v : ℕ) (r : List ℕ) → l ≡ v ∷ r → weight f (drop 1 l) + f v ≡ weight f l
weight-first f l v r e = rw e (omega arith)

-- a key taken out, where it is there
pub weight-without : (f : ℕ → ℕ) (k : ℕ) (l : List ℕ) → times k l ≤ 1 → weight f (keys_without k l) + cond (has_key k l) (f k) 0 ≡ weight f l
weight-without f k [] d = refl
weight-without f k (a ∷ l) d = grind (arith, nat_tests, weight-without f k l, no-times k l, cases_eq k a)

pub weight-out : (f : ℕ → ℕ) (k : ℕ) (l : List ℕ) → times k l ≤ 1 → has_key k l ≡ true → weight f (keys_without k l) + f k ≡ weight f l
weight-out f k l d h = rw h at (weight-without f k l d)

pub weight-renewed : (f : ℕ → ℕ) (k : ℕ) (l : List ℕ) → times k l ≤ 1 → has_key k l ≡ true → weight f (keys_without k l ++ k ∷ []) ≡ weight f l
weight-renewed f k l d h = weight-push f (keys_without k l) k ∙ weight-out f k l d h

-- ---- of a queue of keys with counts

abbrev pub total_weight : (ℕ → ℕ) → List CountedKey → ℕ
total_weight f l = weight f (keys_of l)

pub length-total : (l : List CountedKey) → length l ≡ total_weight (λ _. 1) l
length-total l = sym (length-keys l) ∙ length-weight (keys_of l)

pub total-append : (f : ℕ → ℕ) (l m : List CountedKey) → total_weight f (l ++ m) ≡ total_weight f l + total_weight f m
total-append f l m = ap (weight f) (keys-append l m) ∙ weight-append f (keys_of l) (keys_of m)

pub total-push : (f : ℕ → ℕ) (l : List CountedKey) (e : CountedKey) → total_weight f (l ++ e ∷ []) ≡ total_weight f l + f e.key
total-push f l e = omega (arith, total-append f l (e ∷ []))

pub total-turned : (f : ℕ → ℕ) (l : List CountedKey) → total_weight f (after_turn l) ≡ total_weight f l
total-turned f [] = refl
total-turned f (e ∷ l) = omega (arith, total-push f l (counted_less e))

-- ---- the two ways of an access, by weight

pub hit-moves : (c k : ℕ) (old new : List ℕ) → has_key k old ≡ true → ((f : ℕ → ℕ) → weight f new ≡ weight f old) → IsAccess c k old Hit new
hit-moves c k old new h w = grind (arith, nat_tests, times-weight, length-weight)

times-moved : (x k : ℕ) (old new out : List ℕ) → ((f : ℕ → ℕ) → weight f new + weight f out ≡ weight f old + f k) → times x new + times x out ≡ times x old + times x (k ∷ [])
times-moved x k old new out w = let e = w (λ y. one_if (eqb x y)) in omega (arith, e, times-weight x)

length-moved : (k : ℕ) (old new out : List ℕ) → ((f : ℕ → ℕ) → weight f new + weight f out ≡ weight f old + f k) → length new + length out ≡ length old + 1
length-moved k old new out w = let e = w (λ _. 1) in omega (arith, e, length-weight)

pub miss-moves : (c k : ℕ) (old new : List ℕ) (o : Outcome) → has_key k old ≡ false → is_hit o ≡ false → is_rejection o ≡ false → is_eviction o ≡ cond (nat_lt (length old) c) false true → ((f : ℕ → ℕ) → weight f new + weight f (keys_evicted o) ≡ weight f old + f k) → IsAccess c k old o new
miss-moves c k old new Hit h m r e w = absurd (cc (m))
miss-moves c k old new Kept h m r e w = record { hits = sym h; evicts = rw h e; rejects = refl; moves = λ x. times-moved x k old new [] w; counts = length-moved k old new [] w }
miss-moves c k old new (Evicted v) h m r e w = record { hits = sym h; evicts = rw h e; rejects = refl; moves = λ x. times-moved x k old new (v ∷ []) w; counts = length-moved k old new (v ∷ []) w }
miss-moves c k old new (Rejected v) h m r e w = absurd (cc (r))

pub has-append : (k : ℕ) (l m : List ℕ) → has_key k (l ++ m) ≡ cond (has_key k l) true (has_key k m)
has-append k [] m = refl
has-append k (a ∷ l) m = grind (arith, nat_tests, has-append k l m)
