-- A cache that knows no access before it is made is a strategy that fetches on demand.
use Rattle.std.proofs.lemmas.Bool.Decides.{nat_tests}
use Rattle.std.proofs.Common.{◌≡◌, ◌⊎◌, ℕ, zero, suc, ◌+◌, ◌≤◌, true, cond, List, [], ◌∷◌, ◌++◌, length, take, get_or, count_by, ap, ◌∙◌, sym, refl, arith}
use Rattle.std.proofs.Math.Seq.{take-suc}
use Rattle.std.proofs.lemmas.List.{take_all}
use Rattle.std.proofs.lemmas.List.Sums.{sum_by-append}
use Rattle.engine_base.specs.Keys.{has_key}
use Rattle.engine_base.specs.declared.outcome.Outcome.{Outcome}
use Rattle.engine_base.specs.Machine.{Machine, after, outcomes, KeepsKeys}
use Rattle.engine_base.specs.Stats.{is_hit, one_if}
use Rattle.engine_base.proofs.Machine.{next, outcomes-append, stands, residents-fit}
use Rattle.policy_laws.specs.Strategy.{IsStrategy, strategy_hits}

-- what a cache of capacity c holds after some accesses, and how many of them were hits: a hit is an access to a resident
-- key, and no key comes in but the accessed one
pub record IsOnline (c : ℕ) (held : List ℕ → List ℕ) (hits : List ℕ → ℕ) : Type 0 where
  pub starts : (held [] ≡ []) × (hits [] ≡ 0)
  pub came : (keys : List ℕ) (k x : ℕ) → has_key x (held (keys ++ k ∷ [])) ≡ true → (x ≡ k) ⊎ (has_key x (held keys) ≡ true)
  pub counts : (keys : List ℕ) (k : ℕ) → hits (keys ++ k ∷ []) ≡ hits keys + one_if (has_key k (held keys))
  pub fits : (keys : List ℕ) → length (held keys) ≤ c

pub hits-by : (c : ℕ) (held : List ℕ → List ℕ) (f g : List ℕ → ℕ) → IsOnline c held f → ((keys : List ℕ) → g keys ≡ f keys) → IsOnline c held g
hits-by c held f g is same = grind (arith, nat_tests)

module _ (c : ℕ) (held : List ℕ → List ℕ) (hits : List ℕ → ℕ) (is : IsOnline c held hits) (t : List ℕ) where
  pub strategy : IsStrategy c t (λ i. held (take i t))
  strategy = record {
    empty = is.starts.0;
    on_demand = λ i x h g. is.came (take i t) (get_or t i 0) x (ap (λ l. has_key x (held l)) (sym (take-suc t i 0 h)) ∙ g);
    fits = λ i h. is.fits (take i t);
  }

  pub hits-are : (i : ℕ) → i ≤ length t → strategy_hits t (λ i. held (take i t)) i ≡ hits (take i t)
  hits-are zero h = sym is.starts.1
  hits-are (suc i) h = grind (arith, nat_tests, take-suc t i 0 (omega (arith, h)), hits-are i (omega (arith, h)))

  pub all-hits : strategy_hits t (λ i. held (take i t)) (length t) ≡ hits t
  all-hits = hits-are (length t) (omega arith) ∙ ap hits (take_all (length t) t (omega arith))

-- ---- a machine that keeps its residents

more-hits : (os : List Outcome) (o : Outcome) → count_by is_hit (os ++ o ∷ []) ≡ count_by is_hit os + one_if (is_hit o)
more-hits os o = sum_by-append (λ x. cond (is_hit x) 1 0) os (o ∷ []) ∙ omega arith

module _ (c : ℕ) (m : Machine) (all : KeepsKeys c m) where
  next-residents : (keys : List ℕ) (k : ℕ) → m.residents (m.access k (after m keys)).1 ≡ m.residents (after m (keys ++ k ∷ []))
  next-residents keys k = ap m.residents (sym (next m keys k))

  pub served : IsOnline c (λ keys. m.residents (after m keys)) (λ keys. count_by is_hit (outcomes m keys))
  served = record {
    starts = (all.empty, refl);
    came = λ keys k x there. (all.accesses k (after m keys) (stands c m all keys)).came x (ap (has_key x) (next-residents keys k) ∙ there);
    counts = λ keys k.
        ap (count_by is_hit) (outcomes-append m.access m.start keys (k ∷ []))
        ∙ more-hits (outcomes m keys) (m.access k (after m keys)).0
        ∙ ap (λ b. count_by is_hit (outcomes m keys) + one_if b) (all.accesses k (after m keys) (stands c m all keys)).hits;
    fits = residents-fit c m all;
  }
