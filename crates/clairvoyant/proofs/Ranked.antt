-- The ranks of the residents, one key more or less, and one access further or back.
use Rattle.std.proofs.Common.{◌≡◌, ℕ, suc, ◌-◌, ◌*◌, ◌<◌, ◌≤◌, false, eqb, nat_lt, Option, Some, None, IfSome, List, length, get_or, refl, arith, Bool, true, cond, ap, ◌∙◌, sym}
use Rattle.std.proofs.lemmas.Bool.{cases_Bool, eqb-true, eq-eqb, le-ltb, lt-ltb, cases_eq, ne_eqb}
use Rattle.std.proofs.lemmas.Bool.Decides.{nat_tests}
use Rattle.trace_index.specs.Uses.{next_from}
use Rattle.clairvoyant.specs.Ranks.{last_before, rank, rank_by, key_at}
use Rattle.clairvoyant.specs.Belady.{further, leaves_first}
use Rattle.trace_index.proofs.Uses.{next-found, next-own, next-other, next-within}
use Rattle.engine_base.specs.Keys.{has_key, keys_without}
use Rattle.clairvoyant.specs.Keys.{residents_with}
use Rattle.clairvoyant.specs.Bits.{is_in_set}
use Rattle.clairvoyant.specs.RankSet.{is_ranked, IsTied}
use Rattle.clairvoyant.proofs.Keys.{has-put, has-without}

-- ---- ranks from one access to the next

pub rank-own : (t : List ℕ) (i : ℕ) → i < length t → rank t i (get_or t i 0) ≡ 2 * length t - 1 - i
rank-own t i h = rw (next-own t i h) refl

pub rank-other : (t : List ℕ) (i x : ℕ) → i < length t → eqb x (get_or t i 0) ≡ false → rank t (suc i) x ≡ rank t i x
rank-other t i x h e = rw (e, next-other t i x h e) refl

-- x came before place i
pub record IsSeen (t : List ℕ) (i x : ℕ) : Type 0 where
  pub below : last_before t i x < i
  pub there : get_or t (last_before t i x) 0 ≡ x

pub seen-own : (t : List ℕ) (i : ℕ) → IsSeen t (suc i) (get_or t i 0)
seen-own t i = grind (arith, nat_tests, eq-eqb (get_or t i 0) (get_or t i 0) refl)

pub seen-more : (t : List ℕ) (i x : ℕ) → IsSeen t i x → IsSeen t (suc i) x
seen-more t i x s = grind (arith, nat_tests, cases_Bool (eqb x (get_or t i 0)), eqb-true, seen-own t i)

-- a rank names its key
pub record IsNamed (t : List ℕ) (i x : ℕ) : Type 0 where
  pub within : rank t i x < 2 * length t
  pub key : key_at t (rank t i x) ≡ x

named-by : (t : List ℕ) (i x : ℕ) (o : Option ℕ) → i ≤ length t → IsSeen t i x → next_from t i x ≡ o → IsNamed t i x
named-by t i x None h s e = grind (arith, nat_tests, lt-ltb (last_before t i x) (length t) (omega (arith, s.below)))
named-by t i x (Some n) h s e = grind (arith, nat_tests, next-found t i x n h e, le-ltb)

pub named : (t : List ℕ) (i x : ℕ) → i ≤ length t → IsSeen t i x → IsNamed t i x
named t i x h s = named-by t i x (next_from t i x) h s refl

-- the farther of two next uses in a trace of n accesses ranks lower
further-rank : (n : ℕ) (o p : Option ℕ) (a b : ℕ) → a < n → b < n → IfSome o (λ m. m < n) → IfSome p (λ m. m < n) → further o p a b ≡ nat_lt (rank_by n o a) (rank_by n p b)
further-rank n v w a b h g s u = grind (arith, nat_tests)

-- what leaves first is what ranks lower
pub leaves-rank : (t : List ℕ) (i a b : ℕ) → i < length t → IsSeen t (suc i) a → IsSeen t (suc i) b → leaves_first t i a b ≡ nat_lt (rank t (suc i) a) (rank t (suc i) b)
leaves-rank t i a b h s u =
    further-rank (length t) (next_from t (suc i) a) (next_from t (suc i) b) (last_before t (suc i) a) (last_before t (suc i) b) (omega (arith, s.below)) (omega (arith, u.below))
    (next-within t (suc i) a _ (omega arith) refl) (next-within t (suc i) b _ (omega arith) refl)

-- ---- one key more

-- the keys s are the keys m and k, which is none of m
pub record IsMore (m : List ℕ) (k : ℕ) (s : List ℕ) : Type 0 where
  pub new : has_key k m ≡ false
  pub has : (x : ℕ) → has_key x s ≡ cond (eqb x k) true (has_key x m)

pub more-there : (m : List ℕ) (k : ℕ) (s : List ℕ) → IsMore m k s → has_key k s ≡ true
more-there m k s more = more.has k ∙ ap (λ b. cond b true (has_key k m)) (eq-eqb k k refl)

fewer : (m : List ℕ) (k : ℕ) (s : List ℕ) → IsMore m k s → (x : ℕ) → has_key x m ≡ cond (eqb x k) false (has_key x s)
fewer m k s more x = grind (arith, nat_tests, more.has x, more.new, cases_eq x k)

pub with-more : (k : ℕ) (r : List ℕ) → has_key k r ≡ false → IsMore r k (residents_with k r)
with-more k r none = record { new = none; has = λ x. has-put x k r }

pub without-more : (k : ℕ) (r : List ℕ) → has_key k r ≡ true → IsMore (keys_without k r) k r
without-more k r there = grind (arith, nat_tests, has-without, cases_eq)

-- k came and v left
pub swap-more : (k v : ℕ) (r : List ℕ) → has_key k r ≡ false → has_key v r ≡ true → IsMore (keys_without v r) k (keys_without v (residents_with k r))
swap-more k v r none there = grind (arith, nat_tests, ne_eqb, has-without k v r, has-without, has-put, cases_eq)

-- ---- the ranks that are held

-- the set g is h with one number put in, or taken out
pub record IsEdited (h : List Bool) (a : ℕ) (b : Bool) (g : List Bool) : Type 0 where
  pub size : length g ≡ length h
  pub tests : (q : ℕ) → is_in_set g q ≡ cond (eqb q a) b (is_in_set h q)

module _ (t : List ℕ) (i v : ℕ) (key : key_at t (rank t i v) ≡ v) (b : Bool) (r s : List ℕ) (has : (x : ℕ) → has_key x s ≡ cond (eqb x v) b (has_key x r)) where
  ranked-edited : (q : ℕ) → is_ranked t i s q ≡ cond (eqb q (rank t i v)) b (is_ranked t i r q)
  ranked-edited q = grind (arith, nat_tests, cases_eq q (rank t i v), cases_eq (key_at t q) v, has (key_at t q), key)

  tied-edited : (h g : List Bool) (a : ℕ) → a ≡ rank t i v → IsEdited h a b g → IsTied t i r h → IsTied t i s g
  tied-edited h g a is edit tied = grind (arith, nat_tests, ranked-edited)

module _ (t : List ℕ) (i v : ℕ) (key : key_at t (rank t i v) ≡ v) (m s : List ℕ) (more : IsMore m v s) (h g : List Bool) (a : ℕ) (is : a ≡ rank t i v) where
  pub tied-put : IsEdited h a true g → IsTied t i m h → IsTied t i s g
  tied-put = tied-edited t i v key true m s more.has h g a is

  pub tied-taken : IsEdited h a false g → IsTied t i s h → IsTied t i m g
  tied-taken = tied-edited t i v key false s m (fewer m v s more) h g a is

-- one access further and one back, where its key is no resident
module _ (t : List ℕ) (i : ℕ) (lt : i < length t) (r : List ℕ) (none : has_key (get_or t i 0) r ≡ false) where
  ranked-on : (q : ℕ) → is_ranked t (suc i) r q ≡ is_ranked t i r q
  ranked-on q = grind (arith, nat_tests, cases_eq (key_at t q) (get_or t i 0), none, rank-other t i (key_at t q) lt)

  pub tied-on : (h : List Bool) → IsTied t i r h → IsTied t (suc i) r h
  tied-on h tied = record { size = tied.size; ranks = λ q w. tied.ranks q w ∙ sym (ranked-on q) }

  pub tied-back : (h : List Bool) → IsTied t (suc i) r h → IsTied t i r h
  tied-back h tied = record { size = tied.size; ranks = λ q w. tied.ranks q w ∙ ranked-on q }
