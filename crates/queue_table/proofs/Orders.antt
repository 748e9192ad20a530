-- The ring and the order of the sections in it.
use Rattle.std.proofs.Common.{◌≡◌, ℕ, suc, zero, ◌+◌, ◌<◌, ◌≤◌, true, false, cond, eqb, nat_lt, List, [], ◌∷◌, ◌++◌, ap, ◌∙◌, sym, refl, arith, append_assoc, ◌⊎◌, inl, inr}
use Rattle.std.proofs.Math.Path.{fun_ext}
use Rattle.std.proofs.lemmas.Bool.{cases_eq, cases_lt, ne_eqb, eq-eqb, lt-ltb, le-ltb}
use Rattle.std.proofs.lemmas.Bool.Decides.{nat_tests}
use Rattle.queue_table.specs.Queues.{QUEUES}
use Rattle.queue_table.specs.Ring.{count, IsRing, ring_of, put_before, moved_before, SECTIONS, FIRST, Order, ring, ring_from, used, used_below, with_section, until, past, order_in, order_without, sent, IsShort, IsPlace}
use Rattle.engine_base.specs.Keys.{keys_without}
use Rattle.queue_table.proofs.Splices.{count-append, count-here}
use Rattle.queue_table.proofs.Turning.{ring-is, without-append, put-sentinel, put-past, put-there, gone, count-left, count-without}

until-at : (b : ℕ) (xs ys : List ℕ) → count b xs ≡ 0 → until b (xs ++ b ∷ ys) ≡ xs
until-at b [] ys h = grind (arith, nat_tests)
until-at b (x ∷ xs) ys h = let r = until-at b xs ys in grind (arith, nat_tests)

past-none : (b : ℕ) (xs ys : List ℕ) → count b xs ≡ 0 → past b (xs ++ ys) ≡ past b ys
past-none b [] ys h = refl
past-none b (x ∷ xs) ys h = let r = past-none b xs ys in grind (arith, nat_tests)

-- sections by number

ring-same : (n k : ℕ) (o p : Order) → ((j : ℕ) → k ≤ j → o j ≡ p j) → ring_from n k o ≡ ring_from n k p
ring-same zero k o p h = refl
ring-same (suc n) k o p h =
    let a : o k ≡ p k = h k (omega arith) in
    rw (a, ring-same n (suc k) o p (λ j m. h j (omega (arith, m)))) refl

pub with-other : (s j : ℕ) (l : List ℕ) (o : Order) → (j ≡ s → ⊥) → with_section s l o j ≡ o j
with-other s j l o d = grind (arith, nat_tests)

-- the ring around one section
pub record IsCut (n k s : ℕ) (o : Order) : Type 0 where
  pub pre : List ℕ
  pub post : List ℕ
  pub whole : (l : List ℕ) → ring_from n k (with_section s l o) ≡ pre ++ (l ++ suc s ∷ post)

pub cut : (n k s : ℕ) (o : Order) → k ≤ s → s < k + n → IsCut n k s o
cut zero k s o a b = absurd (omega (arith, a, b))
cut (suc n) k s o a b =
    elim (cases_eq k s) [
      | inl e ↦ record {
        pre = [];
        post = ring_from n (suc k) o;
        whole = λ l. (
            let r = ring-same n (suc k) (with_section s l o) o (λ j m. with-other s j l o (λ z. omega arith)) in
            grind (arith, nat_tests));
      }
      | inr d ↦
          let c = cut n (suc k) s o (omega (arith, a, d)) (omega (arith, b)) in
          record {
            pre = o k ++ suc k ∷ c.pre;
            post = c.post;
            whole = λ l. (
                let w = c.whole l in
                let a = append_assoc (o k) (suc k ∷ c.pre) (l ++ suc s ∷ c.post) in
                grind (arith, nat_tests));
          }
    ]

ring-cut : (n k s : ℕ) (o : Order) (c : IsCut n k s o) → ring_from n k o ≡ c.pre ++ (o s ++ suc s ∷ c.post)
ring-cut n k s o c = sym (ring-same n k (with_section s (o s) o) o (λ j m. (grind (arith, nat_tests)))) ∙ c.whole (o s)

count-parts : (j s : ℕ) (xs l ys : List ℕ) → count j (xs ++ (l ++ suc s ∷ ys)) ≡ count j xs + (count j l + (cond (eqb j (suc s)) 1 0 + count j ys))
count-parts j s xs l ys = omega (arith, count-append j xs (l ++ suc s ∷ ys), count-append j l (suc s ∷ ys))

-- around a section of the whole ring
pub cut_at_section : (s : ℕ) (o : Order) → s < SECTIONS → IsCut SECTIONS 0 s o
cut_at_section s o h = cut SECTIONS 0 s o (omega arith) (omega (arith, h))

pub ring-at : (s : ℕ) (o : Order) (c : IsCut SECTIONS 0 s o) → ring o ≡ c.pre ++ (o s ++ suc s ∷ c.post)
ring-at s o c = ring-cut SECTIONS 0 s o c

pub count-cut : (j s : ℕ) (o : Order) (c : IsCut SECTIONS 0 s o) → count j (ring o) ≡ count j c.pre + (count j (o s) + (cond (eqb j (suc s)) 1 0 + count j c.post))
count-cut j s o c = ap (count j) (ring-at s o c) ∙ count-parts j s c.pre (o s) c.post

pub section-ring : (j s : ℕ) (o : Order) → s < SECTIONS → count j (o s) ≤ count j (ring o)
section-ring j s o h = let c = count-cut j s o (cut_at_section s o h) in omega (arith, c)

-- each slot stands once
abbrev pub IsOnce : Order → Type 0
IsOnce o = (k : ℕ) → count k (0 ∷ ring o) ≤ 1

pub section-few : (s : ℕ) (o : Order) (k : ℕ) → s < SECTIONS → IsOnce o → count k (o s) ≤ 1
section-few s o k h u = let c = section-ring k s o h in let n = u k in omega (arith, c, n)

-- a slot stands in one section alone
pub section-alone : (s t k : ℕ) (o : Order) → s < SECTIONS → t < SECTIONS → (t ≡ s → ⊥) → IsOnce o → 1 ≤ count k (o s) → count k (o t) ≡ 0
section-alone s t k o h g d u n =
    let c = cut_at_section s o h in
    let p : Order = with_section s [] o in
    let a = count-cut k s o c in
    let b = ap (count k) (c.whole []) ∙ count-parts k s c.pre [] c.post in
    let e = section-ring k t p g in
    let f = ap (count k) (with-other s t [] o d) in
    let w = u k in
    omega (arith, a, b, e, f, w, n)

-- no more sections

pub order-short : (l : List ℕ) → IsShort (order_in l)
order-short l s h = grind (arith, nat_tests)

pub short-without : (k : ℕ) (o : Order) → IsShort o → IsShort (order_without k o)
short-without k o h s w = ap (keys_without k) (h s w)

pub short-with : (s : ℕ) (l : List ℕ) (o : Order) → s < SECTIONS → IsShort o → IsShort (with_section s l o)
short-with s l o a h t w = with-other s t l o (λ e. omega (arith, e, a, w)) ∙ h t w

pub short-sent : (k s b : ℕ) (o : Order) → s < SECTIONS → IsShort o → IsShort (sent k s b o)
short-sent k s b o a h = short-with s (put_before k b (keys_without k (o s))) (order_without k o) a (short-without k o h)

-- the slots between the sections

abbrev marks : ℕ → ℕ → ℕ → ℕ
marks zero k j = 0
marks (suc n) k j = cond (eqb j (suc k)) 1 0 + marks n (suc k) j

-- how often a slot stands in sections
abbrev in_sections : ℕ → ℕ → ℕ → Order → ℕ
in_sections j zero k o = 0
in_sections j (suc n) k o = count j (o k) + in_sections j n (suc k) o

count-from : (j n k : ℕ) (o : Order) → count j (ring_from n k o) ≡ in_sections j n k o + marks n k j
count-from j zero k o = refl
count-from j (suc n) k o = omega (arith, count-append j (o k) (suc k ∷ ring_from n (suc k) o), count-from j n (suc k) o)

marks-some : (n k j : ℕ) → k < j → j ≤ k + n → 1 ≤ marks n k j
marks-some zero k j a b = absurd (omega (arith, a, b))
marks-some (suc n) k j a b = let r = marks-some n (suc k) j in let e = cases_eq j (suc k) in grind (arith, nat_tests)

marks-none : (n k j : ℕ) → k + n < j → marks n k j ≡ 0
marks-none zero k j a = refl
marks-none (suc n) k j a = let r = marks-none n (suc k) j (omega arith) in grind (arith, nat_tests)

in-used : (j : ℕ) (o : Order) → in_sections j SECTIONS 0 o ≡ count j (o 0) + count j (used o)
in-used j o = omega (arith, count-append)

-- the sections that the ring shows

section-at : (n k s : ℕ) (o : Order) → k ≤ s → s < k + n → ((j : ℕ) → count j (k ∷ ring_from n k o) ≤ 1) → until (suc s) (past s (k ∷ ring_from n k o)) ≡ o s
section-at zero k s o a b u = absurd (omega (arith, a, b))
section-at (suc n) k s o a b u =
    elim (cases_eq s k) as (λ _. until (suc s) (cond (eqb s k) (o k ++ suc k ∷ ring_from n (suc k) o) (past s (o k ++ suc k ∷ ring_from n (suc k) o))) ≡ o s) [
      | inl e ↦ grind (arith, nat_tests, eq-eqb s k e, until-at, count-append (suc k) (o k) (suc k ∷ ring_from n (suc k) o), count-here (suc k) (ring_from n (suc k) o))
      | inr d ↦
          let f : eqb s k ≡ false = ne_eqb s k d in
          let none : count s (o k) ≡ 0 = omega (arith, u s, count-from s (suc n) k o, marks-some (suc n) k s (omega arith) (omega arith)) in
          let less : (j : ℕ) → count j (suc k ∷ ring_from n (suc k) o) ≤ 1 = λ j. (let w = u j in let c = count-append j (o k) (suc k ∷ ring_from n (suc k) o) in omega (arith, w, c)) in
          rw f (ap (until (suc s)) (past-none s (o k) (suc k ∷ ring_from n (suc k) o) none) ∙ section-at n (suc k) s o (omega (arith, a, d)) (omega (arith, b)) less)
    ]

pub order-ring : (o : Order) → IsShort o → IsOnce o → order_in (ring o) ≡ o
order-ring o h u = fun_ext (λ s. elim (cases_lt s SECTIONS) as (λ _. cond (nat_lt s SECTIONS) (until (suc s) (past s (0 ∷ ring o))) [] ≡ o s) [
  | inl w ↦ let f : nat_lt s SECTIONS ≡ true = lt-ltb s SECTIONS w in rw f (section-at SECTIONS 0 s o (omega arith) (omega (arith, w)) u)
  | inr w ↦ let f : nat_lt s SECTIONS ≡ false = le-ltb s SECTIONS (omega (arith, w)) in rw f (sym (h s (omega (arith, w))))
])

pub order-is : (ns os : List ℕ) (o : Order) → IsShort o → IsRing ns os (ring o) → order_in (ring_of ns) ≡ o
order-is ns os o h r = ap order_in (ring-is ns os (ring o) r) ∙ order-ring o h r.once

-- how often a slot stands in it

pub count-ring : (j : ℕ) (o : Order) → FIRST ≤ j → count j (ring o) ≡ count j (o 0) + count j (used o)
count-ring j o h = omega (arith, count-from j SECTIONS 0 o, in-used j o, marks-none SECTIONS 0 j (omega (arith, h)))

pub count-parts-ring : (j : ℕ) (o : Order) → count j (o 0) + count j (used o) ≤ count j (ring o)
count-parts-ring j o = omega (arith, count-from j SECTIONS 0 o, in-used j o)

-- the slots in use and the free ones are none of those between the sections
pub real : (k : ℕ) (o : Order) → IsOnce o → 1 ≤ count k (used o) + count k (o 0) → FIRST ≤ k
real k o u h = grind (arith, nat_tests, count-from k SECTIONS 0 o, in-used k o, marks-some SECTIONS 0 k, cases_eq k 0)

pub used-few : (o : Order) (k : ℕ) → IsOnce o → count k (used o) ≤ 1
used-few o k u = let c = count-parts-ring k o in let n = u k in omega (arith, c, n)

pub used-real : (o : Order) (k : ℕ) → IsOnce o → 1 ≤ count k (used o) → FIRST ≤ k
used-real o k u h = real k o u (omega (arith, h))

section-below : (n q k : ℕ) (o : Order) → q < n → count k (o (suc q)) ≤ count k (used_below n o)
section-below zero q k o h = absurd (omega (arith, h))
section-below (suc n) q k o h = grind (arith, nat_tests, count-append, section-below n q k o, cases_eq)

pub section-in : (q k : ℕ) (o : Order) → q < QUEUES → count k (o (suc q)) ≤ count k (used o)
section-in q k o h = section-below QUEUES q k o h

pub section-used : (q k : ℕ) (o : Order) → q < QUEUES → 1 ≤ count k (o (suc q)) → 1 ≤ count k (used o)
section-used q k o h n = let a = section-in q k o h in omega (arith, a, n)

-- no slot that closes a section stands in one
pub closing-none : (s t : ℕ) (o : Order) → s < SECTIONS → t < SECTIONS → IsOnce o → count (suc s) (o t) ≡ 0
closing-none s t o h g u =
    let c = count-cut (suc s) t o (cut_at_section t o g) in
    let n = u (suc s) in
    let a = count-from (suc s) SECTIONS 0 o in
    let b = in-used (suc s) o in
    let m = marks-some SECTIONS 0 (suc s) (omega arith) (omega (arith, h)) in
    let i = section-in-all t (suc s) o g in
    omega (arith, n, a, b, m, i)
  where
    section-in-all : (t k : ℕ) (o : Order) → t < SECTIONS → count k (o t) ≤ count k (o 0) + count k (used o)
    section-in-all zero k o g = omega arith
    section-in-all (suc q) k o g = let r = section-in q k o (omega (arith, g)) in omega (arith, r)

-- without a slot

pub ring-without : (x n k : ℕ) (o : Order) → k + n < x → keys_without x (ring_from n k o) ≡ ring_from n k (order_without x o)
ring-without x zero k o h = refl
ring-without x (suc n) k o h = grind (arith, nat_tests, without-append, ring-without x n (suc k) o (omega arith))

pub once-without : (k : ℕ) (o : Order) → IsOnce o → IsOnce (order_without k o)
once-without k o u j = grind (arith, nat_tests, count-append, count-without)

-- put in place

pub put-end : (k b : ℕ) (l : List ℕ) → count b l ≡ 0 → put_before k b l ≡ l ++ k ∷ []
put-end k b [] h = refl
put-end k b (x ∷ l) h = let r = put-end k b l in grind (arith, nat_tests)

put-in : (k b e : ℕ) (l m : List ℕ) → (1 ≤ count b l) ⊎ ((b ≡ e) × (count b l ≡ 0)) → put_before k b (l ++ e ∷ m) ≡ put_before k b l ++ e ∷ m
put-in k b e l m v = grind (arith, nat_tests, put-there, put-sentinel, put-end)

place-parts : (b s : ℕ) (o : Order) (c : IsCut SECTIONS 0 s o) → IsOnce o → IsPlace b s o → (count b c.pre ≡ 0) × ((1 ≤ count b (o s)) ⊎ ((b ≡ suc s) × (count b (o s) ≡ 0)))
place-parts b s o c u (inl h) = grind (arith, nat_tests, count-cut b s o c)
place-parts b s o c u (inr h) = grind (arith, nat_tests, count-cut b s o c)

put-ring : (k b s : ℕ) (o : Order) → s < SECTIONS → IsOnce o → IsPlace b s o → put_before k b (ring o) ≡ ring (with_section s (put_before k b (o s)) o)
put-ring k b s o w u h =
    let c = cut_at_section s o w in
    let p = place-parts b s o c u h in
    ap (put_before k b) (ring-at s o c)
    ∙ (put-past k b c.pre (o s ++ suc s ∷ c.post) p.0
    ∙ (ap (λ t. c.pre ++ t) (put-in k b (suc s) (o s) c.post p.1)
    ∙ sym (c.whole (put_before k b (o s)))))

pub ring-sent : (k b s : ℕ) (o : Order) → s < SECTIONS → IsOnce o → FIRST ≤ k → IsPlace b s (order_without k o) → moved_before k b (ring o) ≡ ring (sent k s b o)
ring-sent k b s o w u r h = ap (put_before k b) (ring-without k SECTIONS 0 o (omega (arith, r))) ∙ put-ring k b s (order_without k o) w (once-without k o u) h

-- how often a slot stands in use afterwards

pub count-put : (j k b : ℕ) (l : List ℕ) → count j (put_before k b l) ≡ cond (eqb j k) 1 0 + count j l
count-put j k b [] = refl
count-put j k b (x ∷ l) = let r = count-put j k b l in grind (arith, nat_tests)

pub used-same : (n : ℕ) (o p : Order) → ((q : ℕ) → q < n → o (suc q) ≡ p (suc q)) → used_below n o ≡ used_below n p
used-same zero o p h = refl
used-same (suc n) o p h =
    let a = h n (omega arith) in
    rw (a, used-same n o p (λ q w. h q (omega (arith, w)))) refl

-- without a slot the others are in use that were
pub used-without : (j k : ℕ) (o : Order) → count j (used (order_without k o)) ≡ cond (eqb j k) 0 (count j (used o))
used-without j k o = grind (arith, nat_tests, count-append, gone, count-left, cases_eq)

pub used-gone : (k : ℕ) (o : Order) → count k (used (order_without k o)) ≡ 0
used-gone k o = let a = used-without k k o in grind (arith, nat_tests)

pub used-other : (j k : ℕ) (o : Order) → (j ≡ k → ⊥) → count j (used (order_without k o)) ≡ count j (used o)
used-other j k o d = let a = used-without j k o in grind (arith, nat_tests)

pub used-sent : (j k b q : ℕ) (o : Order) → q < QUEUES → count j (used (sent k (suc q) b o)) ≡ cond (eqb j k) 1 0 + count j (used (order_without k o))
used-sent j k b q o w = search (arith, count-append, used-same, with-other, cases_eq, count-put)

pub used-freed : (k b : ℕ) (o : Order) → used (sent k 0 b o) ≡ used (order_without k o)
used-freed k b o = used-same QUEUES (sent k 0 b o) (order_without k o) (λ q w. with-other 0 (suc q) (put_before k b (keys_without k (o 0))) (order_without k o) (λ z. omega (arith, z)))

-- a slot in use that is sent elsewhere stays in use
pub used-kept : (j k b q : ℕ) (o : Order) → q < QUEUES → count k (used o) ≡ 1 → count j (used (sent k (suc q) b o)) ≡ count j (used o)
used-kept j k b q o w h = grind (arith, nat_tests, used-sent j k b q o w, used-without j k o, cases_eq j k)

-- one free slot more
pub used-free : (k : ℕ) (l : List ℕ) (o : Order) → used (with_section 0 l o) ≡ used o
used-free k l o = used-same QUEUES (with_section 0 l o) o (λ q w. with-other 0 (suc q) l o (λ z. omega (arith, z)))
