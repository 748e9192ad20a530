-- What an access does to the residents, and what that makes of a policy's definition.
use Rattle.std.proofs.Common.{◌≡◌, ◌⊎◌, ℕ, suc, ◌+◌, ◌≤◌, true, false, eqb, nat_lt, List, [], ◌∷◌, ◌++◌, length, count_by, ap, sym, ◌∙◌, refl, arith}
use Rattle.std.proofs.lemmas.Bool.{cases_Bool, cases_eq, eqb-true}
use Rattle.std.proofs.lemmas.Bool.Decides.{nat_tests}
use Rattle.engine_base.specs.Keys.{has_key}
use Rattle.engine_base.specs.Machine.{IsServed, KeepsKeys}
use Rattle.engine_base.specs.Stats.{one_if}
use Rattle.engine_base.specs.declared.outcome.Outcome.TheVariants.{Hit, Kept, Evicted}
use Rattle.engine_base.proofs.Counting.{count-cons}
use Rattle.policy_pages.specs.Residents.{Outcome, times, keys_brought, IsAccess, AreResidents, KeepsResidents}
use Rattle.policy_pages.specs.PolicyPage.{PolicyPage, page_machine}

pub times-append : (x : ℕ) (a b : List ℕ) → times x (a ++ b) ≡ times x a + times x b
times-append x [] b = omega arith
times-append x (y ∷ a) b = omega (arith, times-append x a b)

-- it is there no time
pub times-none : (k : ℕ) (l : List ℕ) → has_key k l ≡ false → times k l ≡ 0
times-none k [] h = refl
times-none k (a ∷ l) h = grind (arith, nat_tests, times-none k l)

pub times-some : (k : ℕ) (l : List ℕ) → has_key k l ≡ true → 1 ≤ times k l
times-some k [] h = absurd (cc (h))
times-some k (a ∷ l) h = grind (arith, nat_tests, times-some k l)

pub no-times : (k : ℕ) (l : List ℕ) → times k l ≤ 0 → has_key k l ≡ false
no-times k l h = grind (arith, nat_tests, times-some k l)

-- the key that comes in is the accessed one
pub brought-few : (x k : ℕ) (o : Outcome) → times x (keys_brought k o) ≤ one_if (eqb x k)
brought-few x k v = grind (arith, nat_tests)

-- ---- the three ways of an access

pub hit-stays : (c k : ℕ) (l : List ℕ) → has_key k l ≡ true → IsAccess c k l Hit l
hit-stays c k l h = record { hits = sym h; evicts = rw h refl; rejects = refl; moves = λ x. refl; counts = refl }

pub miss-joins : (c k : ℕ) (old new : List ℕ) → has_key k old ≡ false → nat_lt (length old) c ≡ true → ((x : ℕ) → times x new ≡ times x old + times x (k ∷ [])) → length new ≡ suc (length old) → IsAccess c k old Kept new
miss-joins c k old new h f m n = record { hits = sym h; evicts = rw (h, f) refl; rejects = refl; moves = λ x. omega (arith, m x); counts = omega arith }

pub miss-replaces : (c k v : ℕ) (old new : List ℕ) → has_key k old ≡ false → nat_lt (length old) c ≡ false → ((x : ℕ) → times x new + times x (v ∷ []) ≡ times x old + times x (k ∷ [])) → length new ≡ length old → IsAccess c k old (Evicted v) new
miss-replaces c k v old new h f m n = record { hits = sym h; evicts = rw (h, f) refl; rejects = refl; moves = m; counts = omega arith }

-- ---- what an access keeps

access-distinct : (c k : ℕ) (old : List ℕ) (o : Outcome) (new : List ℕ) → IsAccess c k old o new → ((x : ℕ) → times x old ≤ 1) → (x : ℕ) → times x new ≤ 1
access-distinct c k old v new a d x = grind (arith, nat_tests, cases_eq, times-none)

pub access-keeps : (c k : ℕ) (old : List ℕ) (o : Outcome) (new : List ℕ) → IsAccess c k old o new → AreResidents c old → AreResidents c new
access-keeps c k old o new a r = record { fits = (grind (arith, nat_tests)); distinct = access-distinct c k old o new a r.distinct }

pub none-held : (c : ℕ) → AreResidents c []
none-held c = record { fits = omega arith; distinct = λ k. omega arith }

-- no key comes in but the accessed one
came-from : (c k x : ℕ) (old : List ℕ) (o : Outcome) (new : List ℕ) → IsAccess c k old o new → has_key x new ≡ true → (x ≡ k) ⊎ (has_key x old ≡ true)
came-from c k x old o new a h =
    grind (arith, nat_tests, cases_Bool (eqb x k), eqb-true, cases_Bool (has_key x old), times-some x new h, times-none)

pub served : (c k : ℕ) (old : List ℕ) (o : Outcome) (new : List ℕ) → IsAccess c k old o new → IsServed k old o new
served c k old o new a = record { hits = a.hits; counts = a.counts; came = λ x h. came-from c k x old o new a h }

times-by : (x : ℕ) (l : List ℕ) → count_by (eqb x) l ≡ times x l
times-by x [] = refl
times-by x (a ∷ l) = count-cons (eqb x) a l ∙ ap (λ n. one_if (eqb x a) + n) (times-by x l)

pub each-once : (c k : ℕ) (l : List ℕ) → AreResidents c l → count_by (eqb k) l ≤ 1
each-once c k l r = omega (arith, times-by k l, r.distinct k)

-- a definition that keeps each missed key is a machine that keeps its residents
pub page-keeps : (g : PolicyPage) (c : ℕ) → KeepsResidents c g.start (g.act c) g.residents (g.IsState c) → KeepsKeys c (page_machine g c)
page-keeps g c all = record {
  empty = all.starts.1;
  starts = all.starts.0;
  keeps = all.keeps;
  accesses = λ k s h. served c k _ _ _ (all.accesses k s h);
  fits = λ s h. (all.holds s h).fits;
  distinct = λ s k h. each-once c k _ (all.holds s h);
}
