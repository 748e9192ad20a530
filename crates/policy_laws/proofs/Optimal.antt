-- Belady's policy beside another strategy.
use Rattle.std.proofs.Common.{◌≡◌, ℕ, ◌+◌, ◌≤◌, Bool, true, false, cond, eqb, List, [], ◌∷◌, length, refl, arith, suc, ◌<◌, nat_lt, Option, Some, None, get_or, ap, ◌∙◌, sym, inl, inr, ◌⊎◌, zero}
use Rattle.std.proofs.lemmas.Bool.{eq-eqb, cases_eq, cases_Bool, eqb-true, lt-ltb, le-ltb, cond_both, cases_lt, ltb-false}
use Rattle.std.proofs.lemmas.Bool.Decides.{nat_tests}
use Rattle.engine_base.specs.Stats.{one_if}
use Rattle.engine_base.specs.Keys.{has_key, keys_without}
use Rattle.clairvoyant.specs.Keys.{IsAscendingKeys, residents_with}
use Rattle.clairvoyant.proofs.Keys.{has-without, below-none, has-put, ascending-put, ascending-without}
use Rattle.clairvoyant.proofs.Belady.{later, residents-ascending, put-has, without-has, served-has, soon, farthest-in, full-length, hit-resident, residents-fit}
use Rattle.engine_base.proofs.Counting.{one-few, stats-snoc}
use Rattle.trace_index.specs.Uses.{next_from}
use Rattle.clairvoyant.specs.Belady.{further, leaves_first, farthest, belady_residents_after, belady_residents, belady_outcome, belady_outcomes}
use Rattle.trace_index.proofs.Uses.{next-own, next-other, next-found}
use Rattle.engine_base.specs.declared.stats.Stats.{Stats}
use Rattle.policy_laws.specs.Strategy.{IsStrategy, strategy_hits}
use Rattle.policy_laws.specs.Optimality.{belady_hits, BeladyIsOptimal, BeladyIsStrategy, BeladyHitsGrow}

-- ---- how many distinct keys of a list pass a test

-- how many distinct keys of a list pass the test p
abbrev pub count_keys : (ℕ → Bool) → List ℕ → ℕ
count_keys p [] = 0
count_keys p (a ∷ xs) = cond (has_key a xs) 0 (one_if (p a)) + count_keys p xs

pub no : true ≡ false → (A : Type 0) → A
no h A = absurd (cc (h))

pub head-has : (a : ℕ) (xs : List ℕ) → has_key a (a ∷ xs) ≡ true
head-has a xs = let e : eqb a a ≡ true = eq-eqb a a refl in rw e refl

pub count-short : (p : ℕ → Bool) (xs : List ℕ) → count_keys p xs ≤ length xs
count-short p [] = omega arith
count-short p (a ∷ xs) = let rest = count-short p xs in let one = one-few (p a) in grind (arith, rest, one)

pub count-without : (p : ℕ → Bool) (v : ℕ) (xs : List ℕ) → count_keys p (keys_without v xs) + cond (has_key v xs) (one_if (p v)) 0 ≡ count_keys p xs
count-without p v [] = refl
count-without p v (a ∷ xs) = grind (arith, nat_tests, count-without p v xs, has-without a v xs)

-- where ys has all keys of xs that pass
pub count-passing : (p : ℕ → Bool) (xs ys : List ℕ) → ((x : ℕ) → has_key x xs ≡ true → p x ≡ true → has_key x ys ≡ true) → count_keys p xs ≤ count_keys p ys
count-passing p [] ys h = omega arith
count-passing p (a ∷ xs) ys h =
    let rest : count_keys p xs ≤ count_keys p ys = count-passing p xs ys (λ x g. h x (later x a xs g)) in
    let others : has_key a xs ≡ false → count_keys p xs ≤ count_keys p (keys_without a ys) =
    λ e. count-passing p xs (keys_without a ys)
    (λ x g r. grind (arith, nat_tests, has-without x a ys, h x (later x a xs g) r, cases_eq x a)) in
    grind (arith, nat_tests, rest, others, h a (head-has a xs), count-without p a ys)

pub count-subset : (p : ℕ → Bool) (xs ys : List ℕ) → ((x : ℕ) → has_key x xs ≡ true → has_key x ys ≡ true) → count_keys p xs ≤ count_keys p ys
count-subset p xs ys h = count-passing p xs ys (λ x g r. h x g)

pub count-agree : (p q : ℕ → Bool) (xs : List ℕ) → ((x : ℕ) → has_key x xs ≡ true → p x ≡ q x) → count_keys p xs ≡ count_keys q xs
count-agree p q [] h = refl
count-agree p q (a ∷ xs) h = rw (h a (head-has a xs), count-agree p q xs (λ x g. h x (later x a xs g))) refl

pub count-none : (p : ℕ → Bool) (xs : List ℕ) → ((x : ℕ) → p x ≡ false) → count_keys p xs ≡ 0
count-none p [] h = refl
count-none p (a ∷ xs) h = rw (h a, count-none p xs h) (grind arith)

pub count-all : (p : ℕ → Bool) (xs : List ℕ) → IsAscendingKeys xs → ((x : ℕ) → has_key x xs ≡ true → p x ≡ true) → count_keys p xs ≡ length xs
count-all p [] s h = refl
count-all p (a ∷ xs) s h =
    rw (below-none a xs s.0, h a (head-has a xs), count-all p xs s.1 (λ x g. h x (later x a xs g))) (omega arith)

-- ---- whether a key is used before a place

-- there is a next use, and it is below place n
abbrev pub is_below : Option ℕ → ℕ → Bool
is_below None n = false
is_below (Some m) n = nat_lt m n

-- the key x is used at some place from i on and below n
abbrev pub is_due : List ℕ → ℕ → ℕ → ℕ → Bool
is_due t i n x = is_below (next_from t i x) n

due-other : (t : List ℕ) (i n x : ℕ) → i < length t → eqb x (get_or t i 0) ≡ false → is_due t (suc i) n x ≡ is_due t i n x
due-other t i n x h e = ap (λ o. is_below o n) (sym (next-other t i x h e))

never-by : (t : List ℕ) (i n x : ℕ) (o : Option ℕ) → i ≤ length t → n ≤ i → next_from t i x ≡ o → is_below o n ≡ false
never-by t i n x None h l e = refl
never-by t i n x (Some m) h l e = let from : i ≤ m = (next-found t i x m h e).from in le-ltb m n (omega arith)

-- no key is used from i on and below i
pub due-never : (t : List ℕ) (i n x : ℕ) → i ≤ length t → n ≤ i → is_due t i n x ≡ false
due-never t i n x h l = never-by t i n x (next_from t i x) h l refl

-- ---- the farthest next use

further-due : (o q : Option ℕ) (x y n : ℕ) → further o q x y ≡ true → is_below o n ≡ true → is_below q n ≡ true
further-due v q x y n f h = grind (arith, nat_tests)

nearer-due : (o q : Option ℕ) (x y n : ℕ) → further o q x y ≡ false → is_below q n ≡ true → is_below o n ≡ true
nearer-due o v x y n f h = grind (arith, nat_tests)

-- where the key that leaves is used before place n, all of them are
pub record AreDue (t : List ℕ) (i n b : ℕ) (l : List ℕ) : Type 0 where
  pub first : is_due t i n b ≡ true
  pub rest : (x : ℕ) → has_key x l ≡ true → is_due t i n x ≡ true

due-head : (t : List ℕ) (i n a : ℕ) (l : List ℕ) → is_due t i n a ≡ true → ((x : ℕ) → has_key x l ≡ true → is_due t i n x ≡ true) → (x : ℕ) → has_key x (a ∷ l) ≡ true → is_due t i n x ≡ true
due-head t i n a l f r x h = grind (arith, nat_tests, eqb-true)

pub farthest-due : (t : List ℕ) (i n b : ℕ) (l : List ℕ) → is_due t (suc i) n (farthest t i b l) ≡ true → AreDue t (suc i) n b l
farthest-due t i n b [] h = record { first = h; rest = λ x g. absurd (cc g) }
farthest-due t i n b (a ∷ l) h =
    elim (cases_Bool (leaves_first t i a b)) [
      | inl e ↦
          let all : AreDue t (suc i) n a l = farthest-due t i n a l (rw e at h) in
          record {
            first = further-due (next_from t (suc i) a) (next_from t (suc i) b) _ _ n e all.first;
            rest = due-head t (suc i) n a l all.first all.rest;
          }
      | inr e ↦
          let all : AreDue t (suc i) n b l = farthest-due t i n b l (rw e at h) in
          let near : is_due t (suc i) n a ≡ true = nearer-due (next_from t (suc i) a) (next_from t (suc i) b) _ _ n e all.first in
          record { first = all.first; rest = due-head t (suc i) n a l near all.rest }
    ]

-- ---- one access

pub apart : (x k : ℕ) (r : List ℕ) → has_key x (keys_without k r) ≡ true → eqb x k ≡ false
apart x k r h = let out = has-without x k r in grind (arith, out, h)

-- An access to the key at place i: that key was due, and is a hit now where it was resident. It is due again where it is
-- used again. So hits and keys due rise together by the same number, whatever the residents are.
pub due-gain : (t : List ℕ) (i n : ℕ) (r : List ℕ) → i < length t → i < n →
    one_if (has_key (get_or t i 0) r) + count_keys (is_due t (suc i) n) (get_or t i 0 ∷ r) ≡ count_keys (is_due t i n) r + one_if (is_due t (suc i) n (get_or t i 0))
due-gain t i n r h l =
    let k : ℕ = get_or t i 0 in
    let here : eqb k k ≡ true = eq-eqb k k refl in
    let all : count_keys (is_due t (suc i) n) (keys_without k r) + one_if (is_due t (suc i) n k) ≡ count_keys (is_due t (suc i) n) (k ∷ r) = rw here at (count-without (is_due t (suc i) n) k (k ∷ r)) in
    let own : one_if (is_due t i n k) ≡ 1 = ap one_if (ap (λ o. is_below o n) (next-own t i h) ∙ lt-ltb i n l) in
    let before : count_keys (is_due t i n) (keys_without k r) + cond (has_key k r) (one_if (is_due t i n k)) 0 ≡ count_keys (is_due t i n) r = count-without (is_due t i n) k r in
    let left : count_keys (is_due t i n) (keys_without k r) + one_if (has_key k r) ≡ count_keys (is_due t i n) r = ap (λ m. count_keys (is_due t i n) (keys_without k r) + cond (has_key k r) m 0) (sym own) ∙ before in
    let same : count_keys (is_due t (suc i) n) (keys_without k r) ≡ count_keys (is_due t i n) (keys_without k r) = count-agree (is_due t (suc i) n) (is_due t i n) (keys_without k r) (λ x g. due-other t i n x h (apart x k r g)) in
    omega (arith, all, left, same)

-- ---- the residents after an access, in a full cache

-- Of the residents and the accessed key k, those that are used before place n: Belady's policy keeps all of them, or has
-- as many as fit.
full-keeps : (t : List ℕ) (i n k : ℕ) (r : List ℕ) → IsAscendingKeys r → has_key k r ≡ false →
    (count_keys (is_due t (suc i) n) (k ∷ r) ≤ count_keys (is_due t (suc i) n) (keys_without (farthest t i k r) (residents_with k r)))
    ⊎ (length r ≤ count_keys (is_due t (suc i) n) (keys_without (farthest t i k r) (residents_with k r)))
full-keeps t i n k r s e =
    let v : ℕ = farthest t i k r in
    let all : count_keys (is_due t (suc i) n) (k ∷ r) ≤ count_keys (is_due t (suc i) n) (residents_with k r) = count-subset (is_due t (suc i) n) (k ∷ r) (residents_with k r) (λ x h. has-put x k r ∙ h) in
    let out : count_keys (is_due t (suc i) n) (keys_without v (residents_with k r)) + cond (has_key v (residents_with k r)) (one_if (is_due t (suc i) n v)) 0 ≡ count_keys (is_due t (suc i) n) (residents_with k r) = count-without (is_due t (suc i) n) v (residents_with k r) in
    let left : count_keys (is_due t (suc i) n) (keys_without v (residents_with k r)) + one_if (is_due t (suc i) n v) ≡ count_keys (is_due t (suc i) n) (residents_with k r) = rw (farthest-in t i k r) at out in
    grind (arith, nat_tests, cases_Bool (is_due t (suc i) n v), farthest-due, put-has, without-has, ascending-without v (residents_with k r) (ascending-put k r s e), ascending-put k r s e, count-all, full-length t i k r s e)

belady-keeps : (c : ℕ) (t : List ℕ) (i n k : ℕ) (r : List ℕ) → IsAscendingKeys r →
    (count_keys (is_due t (suc i) n) (k ∷ r) ≤ count_keys (is_due t (suc i) n) (belady_residents_after c t i k r))
    ⊎ (c ≤ count_keys (is_due t (suc i) n) (belady_residents_after c t i k r))
belady-keeps c t i n k r s =
    cond_both (has_key k r) _ _ Keeps (λ e. inl (rw e (omega arith))) (λ e.
    cond_both (nat_lt (length r) c) _ _ Keeps
    (λ f. inl (count-subset (is_due t (suc i) n) (k ∷ r) (residents_with k r) (λ x h. has-put x k r ∙ h)))
    (λ f. elim (full-keeps t i n k r s e) [ inl g ↦ inl g | inr g ↦ inr (omega (arith, g, ltb-false (length r) c f)) ]))
  where
    Keeps : List ℕ → Type 0
    Keeps l = (count_keys (is_due t (suc i) n) (k ∷ r) ≤ count_keys (is_due t (suc i) n) l) ⊎ (c ≤ count_keys (is_due t (suc i) n) l)

-- ---- hits

belady-hits-next : (c : ℕ) (t : List ℕ) (i : ℕ) → belady_hits c t (suc i) ≡ belady_hits c t i + one_if (has_key (get_or t i 0) (belady_residents c t i))
belady-hits-next c t i =
    ap (λ (s : Stats). s.hits) (stats-snoc (belady_outcomes c t i) (belady_outcome c t i)) ∙ ap (λ b. belady_hits c t i + one_if b) (hit-resident c t i (get_or t i 0) (belady_residents c t i))

-- ---- the strategies side by side

module _ (c : ℕ) (t : List ℕ) (residents : ℕ → List ℕ) (strategy : IsStrategy c t residents) where
  -- before the access at place i, hits and residents that are used before n
  record Leads (i : ℕ) : Type 0 where
    leads : (n : ℕ) → strategy_hits t residents i + count_keys (is_due t i n) (residents i) ≤ belady_hits c t i + count_keys (is_due t i n) (belady_residents c t i)

  all-gains : (i n : ℕ) → i < length t → i < n → Leads i →
      strategy_hits t residents (suc i) + count_keys (is_due t (suc i) n) (get_or t i 0 ∷ residents i) ≤ belady_hits c t (suc i) + count_keys (is_due t (suc i) n) (get_or t i 0 ∷ belady_residents c t i)
  all-gains i n h l before = grind (arith, nat_tests, belady-hits-next, due-gain)

  more-hits : (i : ℕ) → i < length t → Leads i → strategy_hits t residents (suc i) ≤ belady_hits c t (suc i)
  more-hits i h before =
      let all = all-gains i (suc i) h (omega arith) before in
      let none = count-none (is_due t (suc i) (suc i)) (get_or t i 0 ∷ residents i) (λ x. due-never t (suc i) (suc i) x (omega arith) (omega arith)) in
      let none_here = count-none (is_due t (suc i) (suc i)) (get_or t i 0 ∷ belady_residents c t i) (λ x. due-never t (suc i) (suc i) x (omega arith) (omega arith)) in
      omega (arith, all, none, none_here)

  leads-next : (i : ℕ) → i < length t → Leads i → Leads (suc i)
  leads-next i h before = record {
    leads = λ n. elim (cases_lt i n) [
      | inl l ↦
          let own : count_keys (is_due t (suc i) n) (residents (suc i)) ≤ count_keys (is_due t (suc i) n) (get_or t i 0 ∷ residents i) = count-subset (is_due t (suc i) n) (residents (suc i)) (get_or t i 0 ∷ residents i) (λ x g. soon x (get_or t i 0) (residents i) (strategy.on_demand i x h g)) in
          let few : count_keys (is_due t (suc i) n) (residents (suc i)) ≤ c = (let short = count-short (is_due t (suc i) n) (residents (suc i)) in let fits : length (residents (suc i)) ≤ c = strategy.fits (suc i) (omega arith) in omega (arith, short, fits)) in
          let keeps = belady-keeps c t i n (get_or t i 0) (belady_residents c t i) (residents-ascending c t i) in
          grind (arith, own, few, keeps, all-gains i n h l before, more-hits i h before)
      | inr g ↦
          let none : count_keys (is_due t (suc i) n) (residents (suc i)) ≡ 0 = count-none (is_due t (suc i) n) (residents (suc i)) (λ x. due-never t (suc i) n x (omega arith) (omega arith)) in
          omega (arith, none, more-hits i h before)
    ];
  }

  leads-always : (i : ℕ) → i ≤ length t → Leads i
  leads-always zero h = record { leads = λ n. rw strategy.empty (omega arith) }
  leads-always (suc i) h = leads-next i (omega arith) (leads-always i (omega arith))

pub optimal : BeladyIsOptimal
optimal c t residents i strategy h =
    let always : Leads c t residents strategy i = leads-always c t residents strategy i h in
    let all : strategy_hits t residents i + count_keys (is_due t i 0) (residents i) ≤ belady_hits c t i + count_keys (is_due t i 0) (belady_residents c t i) = always.leads 0 in
    let none : count_keys (is_due t i 0) (belady_residents c t i) ≡ 0 = count-none (is_due t i 0) (belady_residents c t i) (λ x. due-never t i 0 x h (omega arith)) in
    omega (arith, all, none)

-- ---- Belady's policy as a strategy

hits-are : (c : ℕ) (t : List ℕ) (i : ℕ) → strategy_hits t (belady_residents c t) i ≡ belady_hits c t i
hits-are c t zero = refl
hits-are c t (suc i) = let rest : strategy_hits t (belady_residents c t) i ≡ belady_hits c t i = hits-are c t i in omega (arith, rest, belady-hits-next c t i)

pub is_strategy : BeladyIsStrategy
is_strategy c t = grind (arith, nat_tests, served-has, residents-fit, hits-are c t)

pub hits_grow : BeladyHitsGrow
hits_grow c d t i le h = grind (arith, nat_tests, is_strategy c t, residents-fit, optimal, hits-are c t i)
