-- What one access more does to the counts of a trace.
use Rattle.std.proofs.Common.{◌≡◌, ◌∙◌, ◌==◌, ◌&&◌, ◌||◌, ◌+◌, ◌++◌, ℕ, zero, suc, Bool, true, false, not, cond, List, [], ◌∷◌, length, Option, Some, None, refl, ap, sym, arith, ◌≤◌, ◌<◌, ◌-◌, is_some}
use Rattle.std.specs.List.{count_by, list_any}
use Rattle.std.specs.Set.{distinct_count, is_member, unique_keys}
use Rattle.std.proofs.lemmas.Bool.{ne_eqb}
use Rattle.std.proofs.lemmas.Bool.Decides.{nat_tests}
use Rattle.std.proofs.lemmas.List.Folds.{list_any-append}
use Rattle.std.proofs.lemmas.List.Sums.{count_by-le-length, sum_by-cons}
use Rattle.std.proofs.lemmas.List.{length_push}
use Rattle.std.proofs.lemmas.Map.Made.{distinct_count-le}
use Rattle.trace_index.specs.FootprintCounter.{AreFewer, footprint_with, mark}
use Rattle.trace_index.specs.Footprint.{Footprint, footprint_of, times}

count-cons : (p : ℕ → Bool) (x : ℕ) (xs : List ℕ) → count_by p (x ∷ xs) ≡ cond (p x) 1 0 + count_by p xs
count-cons p x xs = sum_by-cons (λ y. cond (p y) 1 0) x xs

-- a test of one key more
pub count-push : (p : ℕ → Bool) (xs : List ℕ) (k : ℕ) → count_by p (xs ++ k ∷ []) ≡ count_by p xs + cond (p k) 1 0
count-push p [] k = refl
count-push p (x ∷ xs) k =
    let more = count-push p xs k in
    let first = count-cons p x (xs ++ k ∷ []) in
    let all = count-cons p x xs in
    omega (arith, more, first, all)

-- the same keys pass the same tests
same-count : (p q : ℕ → Bool) → ((x : ℕ) → p x ≡ q x) → (xs : List ℕ) → count_by p xs ≡ count_by q xs
same-count p q e xs = λ i. count_by (λ x. e x i) xs

-- those of one key beside all others
abbrev others : (ℕ → Bool) → ℕ → ℕ → Bool
others p k x = p x && not (x == k)

apart-one : (px pk is : Bool) (c o t : ℕ) → (is ≡ true → px ≡ pk) → c ≡ o + cond pk t 0
    → cond px 1 0 + c ≡ (cond (px && not is) 1 0 + o) + cond pk (cond is 1 0 + t) 0
apart-one true true true c o t same e = omega (arith, e)
apart-one true true false c o t same e = omega (arith, e)
apart-one true false true c o t same e = absurd (cc (same refl))
apart-one true false false c o t same e = omega (arith, e)
apart-one false true true c o t same e = absurd (cc (same refl))
apart-one false true false c o t same e = omega (arith, e)
apart-one false false true c o t same e = omega (arith, e)
apart-one false false false c o t same e = omega (arith, e)

apart : (p : ℕ → Bool) (k : ℕ) (xs : List ℕ) → count_by p xs ≡ count_by (others p k) xs + cond (p k) (times k xs) 0
apart p k [] = apart-none (p k)
  where
    apart-none : (b : Bool) → 0 ≡ 0 + cond b 0 0
    apart-none true = refl
    apart-none false = refl
apart p k (x ∷ xs) =
    let rest = apart-one (p x) (p k) (x == k) (count_by p xs) (count_by (others p k) xs) (times k xs) (λ is. let e : x ≡ k = grind (arith, nat_tests) in ap p e) (apart p k xs) in
    count-cons p x xs ∙ rest
    ∙ ap (λ n. n + cond (p k) (cond (x == k) 1 0 + times k xs) 0) (sym (count-cons (others p k) x xs))
    ∙ ap (λ n. count_by (others p k) (x ∷ xs) + cond (p k) n 0) (sym (count-cons (λ y. y == k) x xs))

-- ---- blocks that are accessed once

abbrev is_once : List ℕ → ℕ → Bool
is_once keys key = times key keys == 1

pub times-push : (block : ℕ) (xs : List ℕ) (k : ℕ) → times block (xs ++ k ∷ []) ≡ times block xs + cond (k == block) 1 0
times-push block xs k = count-push (λ key. key == block) xs k

and-false : (b : Bool) → (b && false) ≡ false
and-false true = refl
and-false false = refl

same-one : (t c : ℕ) (is : Bool) → (is ≡ false → c ≡ 0) → ((t + c == 1) && not is) ≡ ((t == 1) && not is)
same-one t c true none = and-false (t + c == 1) ∙ sym (and-false (t == 1))
same-one t c false none = let same : t + c ≡ t = omega (arith, none refl) in ap (λ n. (n == 1) && true) same

same-others : (xs : List ℕ) (k x : ℕ) → others (is_once (xs ++ k ∷ [])) k x ≡ others (is_once xs) k x
same-others xs k x =
    ap (λ n. (n == 1) && not (x == k)) (times-push x xs k)
    ∙ same-one (times x xs) (cond (k == x) 1 0) (x == k) (λ no. grind (arith, nat_tests))

-- one block more where the access is its first, one fewer where it is its second
abbrev pub after-one : ℕ → ℕ → ℕ → Type 0
after-one zero old new = new ≡ old + 1
after-one (suc zero) old new = new + 1 ≡ old
after-one (suc (suc n)) old new = new ≡ old

once-cases : (t a old new : ℕ) → old ≡ a + cond (t == 1) t 0 → new ≡ (a + cond (t + 1 == 1) t 0) + cond (t + 1 == 1) 1 0 → after-one t old new
once-cases zero a old new o n = omega (arith, o, n)
once-cases (suc zero) a old new o n = omega (arith, o, n)
once-cases (suc (suc t)) a old new o n =
    let now : (suc (suc t) == 1) ≡ false = ne_eqb _ _ (λ e. omega arith) in
    let then : (suc (suc t) + 1 == 1) ≡ false = ne_eqb _ _ (λ e. omega arith) in
    let o' : old ≡ a + 0 = o ∙ ap (λ b. a + cond b (suc (suc t)) 0) now in
    let n' : new ≡ (a + 0) + 0 = n ∙ ap (λ b. (a + cond b (suc (suc t)) 0) + cond b 1 0) then in
    omega (arith, o', n')

pub once-push : (xs : List ℕ) (k : ℕ) → after-one (times k xs) (count_by (is_once xs) xs) (count_by (is_once (xs ++ k ∷ [])) (xs ++ k ∷ []))
once-push xs k =
    let keys = xs ++ k ∷ [] in
    let self : times k keys ≡ times k xs + 1 = let more = times-push k xs k in grind (arith, nat_tests) in
    let new = count-push (is_once keys) xs k ∙ ap (λ n. n + cond (is_once keys k) 1 0)
    (apart (is_once keys) k xs ∙ ap (λ n. n + cond (is_once keys k) (times k xs) 0) (same-count _ _ (same-others xs k) xs)) in
    once-cases (times k xs) (count_by (others (is_once xs) k) xs) _ _ (apart (is_once xs) k xs)
    (new ∙ ap (λ t. (count_by (others (is_once xs) k) xs + cond (t == 1) (times k xs) 0) + cond (t == 1) 1 0) self)

-- ---- distinct blocks

abbrev blocks : List ℕ → ℕ
blocks = distinct_count (λ a b. a == b)

abbrev has : List ℕ → ℕ → Bool
has = is_member (λ a b. a == b)

-- a block is among the keys where it is accessed
accessed : (k : ℕ) (xs : List ℕ) → has xs k ≡ not (times k xs == 0)
accessed k [] = refl
accessed k (x ∷ xs) =
    let rest = accessed k xs in
    let all = count-cons (λ y. y == k) x xs in
    grind (arith, nat_tests)

blocks-cons : (x : ℕ) (xs : List ℕ) → blocks (x ∷ xs) ≡ cond (has xs x) 0 1 + blocks xs
blocks-cons x xs = by-cases (has xs x) (unique_keys (λ a b. a == b) xs)
  where
    by-cases : (b : Bool) (us : List ℕ) → length (cond b us (x ∷ us)) ≡ cond b 0 1 + length us
    by-cases true us = omega arith
    by-cases false us = omega arith

blocks-push : (xs : List ℕ) (k : ℕ) → blocks (xs ++ k ∷ []) ≡ blocks xs + cond (has xs k) 0 1
blocks-push [] k = refl
blocks-push (x ∷ xs) k =
    let rest = blocks-push xs k in
    let first = blocks-cons x (xs ++ k ∷ []) in
    let old = blocks-cons x xs in
    let in-more : has (xs ++ k ∷ []) x ≡ (has xs x || (x == k || false)) = list_any-append (λ y. x == y) xs (k ∷ []) in
    pushed x k (has xs x) (has xs k) _ _ _ _ (λ e. ap (has xs) e) in-more rest first _ old
  where
    pushed : (x k : ℕ) (here there : Bool) (more : Bool) (b c d : ℕ) → (x ≡ k → here ≡ there) → more ≡ (here || (x == k || false))
        → b ≡ c + cond there 0 1 → d ≡ cond more 0 1 + b → (e : ℕ) → e ≡ cond here 0 1 + c → d ≡ e + cond (k == x || there) 0 1
    pushed x k here there more b c d same m e f g h = grind (arith, nat_tests)

pub blocks-after : (xs : List ℕ) (k : ℕ) → blocks (xs ++ k ∷ []) ≡ blocks xs + cond (times k xs == 0) 1 0
blocks-after xs k = blocks-push xs k ∙ ap (λ n. blocks xs + n) (ap (λ (b : Bool). cond {A = ℕ} b 0 1) (accessed k xs) ∙ turned (times k xs == 0))
  where
    turned : (b : Bool) → cond {A = ℕ} (not b) 0 1 ≡ cond b 1 0
    turned true = refl
    turned false = refl

-- ---- all of them

abbrev of_three : ℕ → ℕ → ℕ → Footprint
of_three accesses blocks once = record { accesses = accesses; blocks = blocks; once = once }

with-cases : (t l b o l' b' o' : ℕ) → l' ≡ l + 1 → b' ≡ b + cond {A = ℕ} (t == 0) 1 0 → after-one t o o'
    → footprint_with (mark t) (of_three l b o) ≡ of_three l' b' o'
with-cases zero l b o l' b' o' long block one = rw (long, block, one) refl
with-cases (suc zero) l b o l' b' o' long block one =
    let same : b' ≡ b = omega (arith, block) in
    let fewer : o' ≡ o - 1 = omega (arith, one) in
    rw (long, same, fewer) refl
with-cases (suc (suc t)) l b o l' b' o' long block one =
    let no : (suc (suc t) == 0) ≡ false = ne_eqb _ _ (λ e. omega arith) in
    let zero-more : b' ≡ b + 0 = block ∙ ap (λ (x : Bool). b + cond {A = ℕ} x 1 0) no in
    let same : b' ≡ b = omega (arith, zero-more) in
    rw (long, same, one) refl

-- the footprint of one access more
pub footprint-more : (done : List ℕ) (k : ℕ) → footprint_with (mark (times k done)) (footprint_of done) ≡ footprint_of (done ++ k ∷ [])
unfolding footprint_of
footprint-more done k =
    with-cases (times k done) (length done) (blocks done) (count_by (is_once done) done) _ _ _
    (length_push done k) (blocks-after done k) (once-push done k)

-- no number is larger than how many accesses there are
pub footprint-few : (done : List ℕ) (n : ℕ) → length done < n → AreFewer n (footprint_of done)
unfolding footprint_of
footprint-few done n few = record {
  accesses = few;
  blocks = let least = distinct_count-le (λ a b. a == b) done in omega (arith, least, few);
  once = let least = count_by-le-length (is_once done) done in omega (arith, least, few);
}

some-once : (done : List ℕ) (k t : ℕ) → t ≡ times k done → mark t ≡ Some false → 1 ≤ count_by (is_once done) done
some-once done k zero is e = absurd (cc e)
some-once done k (suc zero) is e =
    let all : count_by (is_once done) done ≡ count_by (others (is_once done) k) done + 1 =
    apart (is_once done) k done ∙ ap (λ t. count_by (others (is_once done) k) done + cond (t == 1) t 0) (sym is) in
    omega (arith, all)
some-once done k (suc (suc t)) is e = absurd (cc e)

-- where a block was accessed once, one is
pub footprint-once : (done : List ℕ) (k : ℕ) → mark (times k done) ≡ Some false → 1 ≤ (footprint_of done).once
unfolding footprint_of
footprint-once done k e = some-once done k (times k done) refl e

-- ---- marks

mark-again : (t : ℕ) → Some (is_some (mark t)) ≡ mark (t + 1)
mark-again zero = refl
mark-again (suc zero) = refl
mark-again (suc (suc t)) = let more : suc (suc t) + 1 ≡ suc (suc (suc t)) = omega arith in rw more refl

-- the mark of a block with one access more
pub mark-more : (done : List ℕ) (k block : ℕ) (old : Option Bool) → old ≡ mark (times k done)
    → cond (k == block) (Some (is_some old)) (mark (times block done)) ≡ mark (times block (done ++ k ∷ []))
mark-more done k block old is =
    let more = times-push block done k in
    by-cases (k == block) more (λ e. let same : k ≡ block = grind (arith, nat_tests) in is ∙ ap (λ q. mark (times q done)) same)
  where
    by-cases : (b : Bool) → times block (done ++ k ∷ []) ≡ times block done + cond b 1 0 → (b ≡ true → old ≡ mark (times block done))
        → cond b (Some (is_some old)) (mark (times block done)) ≡ mark (times block (done ++ k ∷ []))
    by-cases true more old-is = ap (λ m. Some (is_some m)) (old-is refl) ∙ mark-again (times block done) ∙ ap mark (sym more)
    by-cases false more old-is = let same : times block done ≡ times block (done ++ k ∷ []) = omega (arith, more) in ap mark same
