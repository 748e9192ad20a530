use Rattle.std.proofs.lemmas.Grind.{common_steps}
use Rattle.std.proofs.Common.{◌≡◌, ℕ, ◌+◌, ◌-◌, ◌==◌, Bool, List, ◌∷◌, ◌++◌, [], Some, get_or, drop, ap, sym, ◌∙◌, add-one, drop-cons, inl, inr, arith, refl}
use Rattle.std.specs.List.{filter, slice_get}
use Rattle.std.specs.Prelude.{unwrap_or}
use Rattle.std.proofs.lemmas.Bool.{cases_Bool}
use Rattle.std.proofs.lemmas.List.{append_assoc}
use Rattle.std.proofs.lemmas.Option.{slice_get_within, unwrap_or-slice_get}
use Rattle.workers.proofs.driven.Driven.list.Goals as goal

-- what the test lets through of one item and of those behind it
filter_first : {X : Type 0} (test : X → Bool) (x : X) (xs : List X) → filter test (x ∷ []) ++ filter test xs ≡ filter test (x ∷ xs)
filter_first test x xs = elim (cases_Bool (test x)) [
  | inl t ↦ rw t refl
  | inr t ↦ rw t refl
]

first_left : {X : Type 0} (xs : List X) (i : ℕ) (x : X) → slice_get xs i ≡ Some x → drop i xs ≡ x ∷ drop (i + 1) xs
first_left xs i x is =
    let within = slice_get_within xs i x is in
    let item : get_or xs i x ≡ x = sym (unwrap_or-slice_get xs i x) ∙ ap (λ o. unwrap_or o x) is in
    let cut : drop i xs ≡ get_or xs i x ∷ drop (i + 1) xs = rw (add-one, drop-cons xs i x) in
    cut ∙ ap (λ y. y ∷ drop (i + 1) xs) item

more : {X : Type 0} (test : X → Bool) (xs list list' : List X) (i : ℕ) (x : X) → slice_get xs i ≡ Some x → list' ≡ list ++ filter test (x ∷ [])
    → list' ++ filter test (drop (i + 1) xs) ≡ list ++ filter test (drop i xs)
more test xs list list' i x is added =
    ap (λ l. l ++ filter test (drop (i + 1) xs)) added ∙ append_assoc list (filter test (x ∷ [])) (filter test (drop (i + 1) xs))
    ∙ ap (λ l. list ++ l) (filter_first test x (drop (i + 1) xs)) ∙ ap (λ l. list ++ filter test l) (sym (first_left xs i x is))

pub loop-n-preserved : goal.loop-n-preserved
loop-n-preserved c =
    let same : c.loop-n.n + 1 - 1 ≡ c.loop-n.n = omega arith in
    let here = ap (slice_get c.args.self.now.session.kept) (sym same) ∙ c.in-Some.ensures in
    more (λ e. e.step.worker == c.args.worker) _ _ _ c.loop-n.n c.in-Some.entry.now here c.in_ok-push_own.ensures ∙ c.loop-n.invariant

pub returns : goal.returns
returns c = grind (arith, common_steps)

pub returns-in_err-push_own : goal.returns-in_err-push_own
returns-in_err-push_own c = grind (arith, common_steps)
