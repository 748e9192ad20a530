-- How many of the accesses are to some keys, and the keys to which most are.
use Rattle.std.proofs.Common.{◌≡◌, ℕ, zero, suc, ◌+◌, ◌*◌, ◌≤◌, true, List, [], ◌∷◌, ◌++◌, length, ap, ◌∙◌, sym, refl, subst, arith, inl, inr}
use Rattle.std.proofs.Math.Nat.{mul-add, add-mul, mul_left_comm, mul-le-mul_left, le_of_mul-le-mul_left}
use Rattle.std.proofs.lemmas.Bool.{cases_lt}
use Rattle.std.proofs.lemmas.Bool.Decides.{nat_tests}
use Rattle.engine_base.specs.Keys.{has_key}
use Rattle.clairvoyant.proofs.Belady.{later}
use Rattle.queue_cache.proofs.Recency.{IsDistinct}
use Rattle.policy_pages.specs.Residents.{times}
use Rattle.policy_pages.proofs.Residents.{times-append}

-- how many of the accesses xs are to the keys ks
abbrev pub load : List ℕ → List ℕ → ℕ
load [] xs = 0
load (a ∷ ks) xs = times a xs + load ks xs

pub load-none : (ks : List ℕ) → load ks [] ≡ 0
load-none [] = refl
load-none (a ∷ ks) = let rest = load-none ks in omega (arith, rest)

pub load-next : (ks xs : List ℕ) (k : ℕ) → load ks (xs ++ k ∷ []) ≡ load ks xs + times k ks
load-next [] xs k = refl
load-next (a ∷ ks) xs k = grind (arith, nat_tests, load-next ks xs k, times-append a xs (k ∷ []))

-- ---- the key with the fewest accesses

record Lightest (xs ws : List ℕ) : Type 0 where
  key : ℕ
  others : List ℕ
  distinct : IsDistinct others
  among : (x : ℕ) → has_key x others ≡ true → has_key x ws ≡ true
  size : suc (length others) ≡ length ws
  sum : load ws xs ≡ times key xs + load others xs
  least : length others * times key xs ≤ load others xs

lightest : (xs : List ℕ) (w : ℕ) (ws : List ℕ) → IsDistinct (w ∷ ws) → Lightest xs (w ∷ ws)
lightest xs w [] d = record { key = w; others = []; distinct = tt; among = λ x h. absurd (cc (h)); size = refl; sum = refl; least = omega arith }
lightest xs w (v ∷ ws) d =
    let l : Lightest xs (v ∷ ws) = lightest xs v ws d.1 in
    let n : ℕ = length l.others in
    let least : n * times l.key xs ≤ load l.others xs = l.least in
    let size : suc n ≡ length (v ∷ ws) = l.size in
    let sum : load (v ∷ ws) xs ≡ times l.key xs + load l.others xs = l.sum in
    let more : suc n ≡ n + 1 = omega arith in
    elim (cases_lt (times l.key xs) (times w xs)) [
      | inl f ↦
          let once : suc n * times l.key xs ≡ n * times l.key xs + 1 * times l.key xs = ap (λ m. m * times l.key xs) more ∙ add-mul n 1 (times l.key xs) in
          record {
            key = l.key;
            others = w ∷ l.others;
            distinct = (grind (arith, nat_tests, l.among w, d.0), l.distinct);
            among = λ x h. grind (arith, nat_tests, l.among x);
            size = ap suc size;
            sum = omega (arith, sum);
            least = omega (arith, once, least, f);
          }
      | inr f ↦
          let few : n * times w xs ≤ n * times l.key xs = mul-le-mul_left n f in
          let once : length (v ∷ ws) * times w xs ≡ n * times w xs + 1 * times w xs = ap (λ m. m * times w xs) (sym size ∙ more) ∙ add-mul n 1 (times w xs) in
          record {
            key = w;
            others = v ∷ ws;
            distinct = d.1;
            among = λ x h. later x w (v ∷ ws) h;
            size = refl;
            sum = refl;
            least = omega (arith, once, few, least, sum, f);
          }
    ]

-- ---- the h keys with the most

-- their share of the accesses is at least their share of the keys
pub record Heaviest (xs ws : List ℕ) (h : ℕ) : Type 0 where
  pub keys : List ℕ
  pub distinct : IsDistinct keys
  pub size : length keys ≡ h
  pub share : h * load ws xs ≤ length ws * load keys xs

-- one key more
shared : (h r f rest kept : ℕ) → h ≤ r → r * f ≤ rest → h * rest ≤ r * kept → h * (f + rest) ≤ suc r * kept
shared h zero f rest kept le least share = let none : h ≡ 0 = omega (arith, le) in rw none (omega arith)
shared h (suc m) f rest kept le least share =
    let r : ℕ = suc m in
    let more : suc r ≡ r + 1 = omega arith in
    let light : h * (r * f + r * rest) ≤ h * (rest + r * rest) = mul-le-mul_left h (omega (arith, least)) in
    let once : h * (rest + r * rest) ≡ h * rest + r * (h * rest) = mul-add h rest (r * rest) ∙ ap (λ x. h * rest + x) (mul_left_comm h r rest) in
    let scaled : r * (h * rest) ≤ r * (r * kept) = mul-le-mul_left r share in
    let right : r * (suc r * kept) ≡ r * (r * kept) + r * kept = ap (λ x. r * x) (ap (λ n. n * kept) more ∙ add-mul r 1 kept) ∙ (mul-add r (r * kept) (1 * kept) ∙ ap (λ x. r * (r * kept) + r * x) (omega arith)) in
    let all : r * (h * (f + rest)) ≤ r * (suc r * kept) = omega (arith, light, once, scaled, right, share) in
    le_of_mul-le-mul_left all (omega arith)

pub heaviest : (xs : List ℕ) (h d : ℕ) (ws : List ℕ) → IsDistinct ws → length ws ≡ h + d → Heaviest xs ws h
heaviest xs h zero ws e n = grind (arith, nat_tests)
heaviest xs h (suc d) [] e n = absurd (omega (arith, n))
heaviest xs h (suc d) (w ∷ ws) e n =
    let l : Lightest xs (w ∷ ws) = lightest xs w ws e in
    let size : suc (length l.others) ≡ length (w ∷ ws) = l.size in
    let best : Heaviest xs l.others h = heaviest xs h d l.others l.distinct (omega (arith, size, n)) in
    let all = shared h (length l.others) (times l.key xs) (load l.others xs) (load best.keys xs) (omega (arith, size, n)) l.least best.share in
    record {
      keys = best.keys;
      distinct = best.distinct;
      size = best.size;
      share = rw l.sum (subst (λ m. h * (times l.key xs + load l.others xs) ≤ m * load best.keys xs) size all);
    }
