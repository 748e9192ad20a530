-- Numbers of keys by their first coming.
use Rattle.std.proofs.Common.{◌≡◌, ◌≢◌, ℕ, suc, ◌+◌, ◌-◌, ◌<◌, ◌≤◌, true, cond, nat_eq, if◌then◌else◌, List, [], ◌∷◌, ◌++◌, length, take, map, get_or, ap, ◌∙◌, sym, refl, arith}
use mir.Val.{bool_byte}
use Rattle.std.proofs.lemmas.Bool.{cases_eq}
use Rattle.std.proofs.lemmas.Bool.Decides.{nat_tests}
use Rattle.std.proofs.lemmas.List.{take_more, map-append}
use Rattle.engine_base.specs.Keys.{has_key}
use Rattle.trace_index.specs.TraceNumbers.{keys_with, first_comings, count_before, NumbersDiffer}

-- ---- one key more

-- the number that is kept for a key
abbrev pub kept : List ℕ → ℕ → ℕ
kept keys k = if has_key k keys then suc (count_before keys k) else 0

pub known-number : (keys : List ℕ) (k n : ℕ) → n ≡ kept keys k → n ≢ 0 → n - 1 ≡ count_before (keys_with keys k) k
known-number keys k n is some = grind (arith, nat_tests)

pub known-keys : (keys : List ℕ) (k n : ℕ) → n ≡ kept keys k → n ≢ 0 → keys_with keys k ≡ keys
known-keys keys k n is some = grind (arith, nat_tests)

pub new-number : (keys : List ℕ) (k n : ℕ) → n ≡ kept keys k → n ≡ 0 → length keys ≡ count_before (keys_with keys k) k
new-number keys k n is none = grind (arith, nat_tests)

pub new-kept : (keys : List ℕ) (k n count x v w : ℕ) → n ≡ kept keys k → n ≡ 0 → length keys ≡ count → v ≡ cond (nat_eq k x) (suc count) w → w ≡ kept keys x → v ≡ kept (keys_with keys k) x
new-kept keys k n count x v w is none long h was = grind (arith, nat_tests, cases_eq k x)

-- ---- the keys of a trace

number-below : (keys : List ℕ) (k : ℕ) → has_key k keys ≡ true → count_before keys k < length keys
number-below [] k h = absurd (cc h)
number-below (a ∷ keys) k h = grind (arith, nat_tests, cases_eq k a, number-below keys k)

counts-differ : (keys : List ℕ) (a b : ℕ) → has_key a keys ≡ true → has_key b keys ≡ true → count_before keys a ≡ count_before keys b → a ≡ b
counts-differ [] a b ha hb same = absurd (cc ha)
counts-differ (x ∷ keys) a b ha hb same = grind (arith, nat_tests, cases_eq a x, cases_eq b x, number-below keys a, number-below keys b, counts-differ keys a b)

kept-on : (keys trace : List ℕ) (k : ℕ) → has_key k keys ≡ true → has_key k (first_comings keys trace) ≡ true
kept-on keys [] k h = h
kept-on keys (a ∷ trace) k h = kept-on (keys_with keys a) trace k (grind (arith, nat_tests, cases_eq k a))

all-there : (keys trace : List ℕ) (k : ℕ) → has_key k trace ≡ true → has_key k (first_comings keys trace) ≡ true
all-there keys [] k h = absurd (cc h)
all-there keys (a ∷ trace) k h = grind (arith, nat_tests, cases_eq k a, kept-on (keys_with keys a) trace k, all-there (keys_with keys a) trace k)

pub numbers_differ : (trace : List ℕ) → NumbersDiffer trace
numbers_differ trace a b ha hb same = counts-differ (first_comings [] trace) a b (all-there [] trace a ha) (all-there [] trace b hb) same

-- ---- one access more

comings-append : (keys trace : List ℕ) (k : ℕ) → first_comings keys (trace ++ k ∷ []) ≡ keys_with (first_comings keys trace) k
comings-append keys [] k = refl
comings-append keys (a ∷ trace) k = comings-append (keys_with keys a) trace k

-- a key that came has the number that it had
number-stands : (keys : List ℕ) (k x : ℕ) → has_key x keys ≡ true → count_before (keys_with keys k) x ≡ count_before keys x
number-stands keys k x h = grind (arith, nat_tests, cases_eq x k)

numbers-stand : (keys : List ℕ) (k : ℕ) (trace : List ℕ) → ((x : ℕ) → has_key x trace ≡ true → has_key x keys ≡ true)
    → map (count_before (keys_with keys k)) trace ≡ map (count_before keys) trace
numbers-stand keys k [] all = refl
numbers-stand keys k (a ∷ trace) all = grind (arith, nat_tests, number-stands keys k a, all a, numbers-stand keys k trace (λ x h. all x (grind (arith, nat_tests))))

pub next-comings : (t : List ℕ) (i : ℕ) → i < length t → first_comings [] (take (i + 1) t) ≡ keys_with (first_comings [] (take i t)) (get_or t i 0)
next-comings t i below = ap (first_comings []) (take_more t i 0 below) ∙ comings-append [] (take i t) (get_or t i 0)

pub next-numbers : (t : List ℕ) (i n : ℕ) → i < length t → n ≡ count_before (keys_with (first_comings [] (take i t)) (get_or t i 0)) (get_or t i 0)
    → map (count_before (first_comings [] (take i t))) (take i t) ++ n ∷ [] ≡ map (count_before (first_comings [] (take (i + 1) t))) (take (i + 1) t)
next-numbers t i n below is =
    let k = get_or t i 0 in
    let keys : List ℕ = first_comings [] (take i t) in
    let number : List ℕ → ℕ → ℕ = λ ks x. count_before ks x in
    ap (λ l. l ++ n ∷ []) (sym (numbers-stand keys k (take i t) (all-there [] (take i t))))
    ∙ ap (λ x. map (number (keys_with keys k)) (take i t) ++ x ∷ []) is
    ∙ sym (map-append (number (keys_with keys k)) (take i t) (k ∷ []))
    ∙ ap (map (number (keys_with keys k))) (sym (take_more t i 0 below))
    ∙ ap (λ ks. map (number ks) (take (i + 1) t)) (sym (next-comings t i below))

-- one more key has a number where this one gets the next
pub next-count : (keys : List ℕ) (k n count : ℕ) → length keys ≡ count → n ≡ count_before (keys_with keys k) k → length (keys_with keys k) ≡ count + bool_byte (nat_eq n count)
next-count keys k n count long is = grind (arith, nat_tests, number-below keys k)

pub count-within : (n count i : ℕ) → count ≤ i → count + bool_byte (nat_eq n count) ≤ i + 1
count-within n count i h = grind (arith, nat_tests)
