-- Lists of items, and of what has one.
use Rattle.std.proofs.Common.{◌≡◌, ◌+◌, ◌≤◌, true, false, Option, Some, None, option_map, List, [], ◌∷◌, ◌++◌, length, drop, map, refl, arith, ◌⊎◌, inl}
use Rattle.std.proofs.lemmas.Bool.Decides.{nat_tests}
use Rattle.queue_table.specs.Items.{Item, is_same_item, occurrences, items_without, oldest_of, newest_from, newest_of, put_behind_by}

pub same-true : (a b : Item) → is_same_item a b ≡ true → a ≡ b
same-true a b h = grind (arith, nat_tests)

pub same-refl : (a : Item) → is_same_item a a ≡ true
same-refl a = grind (arith, nat_tests)

pub same-sym : (a b : Item) → is_same_item a b ≡ false → is_same_item b a ≡ false
same-sym a b h = grind (arith, nat_tests)

pub times-append : (i : Item) (xs ys : List Item) → occurrences i (xs ++ ys) ≡ occurrences i xs + occurrences i ys
times-append i [] ys = omega arith
times-append i (x ∷ xs) ys = let h : occurrences i (xs ++ ys) ≡ occurrences i xs + occurrences i ys = times-append i xs ys in omega (arith, h)

pub times-one : (i : Item) → occurrences i (i ∷ []) ≡ 1
times-one i = let e = same-refl i in rw e refl

-- taking out

pub times-without : (i j : Item) (l : List Item) → occurrences j (items_without i l) ≤ occurrences j l
times-without i j [] = omega arith
times-without i j (x ∷ l) = let r = times-without i j l in grind (arith, nat_tests)

pub times-gone : (i : Item) (l : List Item) → occurrences i (items_without i l) ≡ 0
times-gone i [] = refl
times-gone i (x ∷ l) = let r = times-gone i l in grind (arith, nat_tests)

pub length-without : (i : Item) (l : List Item) → length (items_without i l) + occurrences i l ≡ length l
length-without i [] = refl
length-without i (x ∷ l) = let r = length-without i l in grind (arith, nat_tests)

pub without-none : (i : Item) (l : List Item) → occurrences i l ≡ 0 → items_without i l ≡ l
without-none i [] h = refl
without-none i (x ∷ l) h = let r = without-none i l in grind (arith, nat_tests)

pub without-append : (i : Item) (xs ys : List Item) → items_without i (xs ++ ys) ≡ items_without i xs ++ items_without i ys
without-append i [] ys = refl
without-append i (x ∷ xs) ys = let r = without-append i xs ys in grind (arith, nat_tests)

pub without-one : (i : Item) → items_without i (i ∷ []) ≡ []
without-one i = let e = same-refl i in rw e refl

-- an item that stands nowhere else
pub without-at : (i : Item) (xs ys : List Item) → occurrences i xs ≡ 0 → occurrences i ys ≡ 0 → items_without i (xs ++ i ∷ ys) ≡ xs ++ ys
without-at i xs ys g h = cc (same-refl i, without-append i xs (i ∷ ys), without-none i xs g, without-none i ys h)

-- ends

pub newest-append : {A : Type 0} (found : Option A) (xs ys : List A) → newest_from found (xs ++ ys) ≡ newest_from (newest_from found xs) ys
newest-append found [] ys = refl
newest-append found (x ∷ xs) ys = newest-append (Some x) xs ys

pub newest-map : {A B : Type 0} (f : A → B) (found : Option A) (l : List A) → newest_from (option_map f found) (map f l) ≡ option_map f (newest_from found l)
newest-map f found [] = refl
newest-map f found (x ∷ l) = newest-map f (Some x) l

last-some : {A : Type 0} (x : A) (l : List A) → newest_from (Some x) l ≡ None → ⊥
last-some x [] h = cc
last-some x (y ∷ l) h = last-some y l h

pub last-none : {A : Type 0} (l : List A) → newest_of l ≡ None → l ≡ []
last-none [] h = refl
last-none (x ∷ l) h = absurd (last-some x l h)

-- what is last is the one given before, or stands in the list
last-among : (a x : Item) (l : List Item) → newest_from (Some x) l ≡ Some a → (x ≡ a) ⊎ (1 ≤ occurrences a l)
last-among a x [] h = inl (cc)
last-among a x (y ∷ l) h = let same = same-refl a in let r = last-among a y l h in grind (arith, nat_tests)

pub last-stands : (i : Item) (l : List Item) → newest_of l ≡ Some i → 1 ≤ occurrences i l
last-stands i [] h = absurd (cc (h))
last-stands i (x ∷ l) h = let same = same-refl i in let a = last-among i x l h in grind (arith, nat_tests)

pub first-stands : (i : Item) (l : List Item) → oldest_of l ≡ Some i → 1 ≤ occurrences i l
first-stands i v h = grind (arith, nat_tests)

pub without-first : (i : Item) (l : List Item) → oldest_of l ≡ Some i → occurrences i l ≤ 1 → items_without i l ≡ drop 1 l
without-first i v h n = grind (arith, nat_tests, without-none)

-- what is put back between its neighbours
pub put_behind-at : {A : Type 0} (of : A → Item) (older : Option Item) (x : A) (xs ys : List A) → ((j : Item) → occurrences j (map of xs) ≤ 1) → newest_of (map of xs) ≡ older
    → put_behind_by of older x (xs ++ ys) ≡ xs ++ x ∷ ys
put_behind-at of None x [] ys u h = refl
put_behind-at of None x (y ∷ xs) ys u h = absurd (last-some (of y) (map of xs) h)
put_behind-at of (Some a) x [] ys u h = absurd (cc (h))
put_behind-at of (Some a) x (y ∷ []) ys u h = let e : of y ≡ a = cc in let s : is_same_item a (of y) ≡ true = rw e (same-refl a) in rw s refl
put_behind-at of (Some a) x (y ∷ (z ∷ xs)) ys u h =
    grind (arith, nat_tests, u a, same-refl a, last-among a (of z) (map of xs) h, put_behind-at of (Some a) x (z ∷ xs) ys (λ j. omega (arith, u j)) h)
