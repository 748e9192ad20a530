-- The rows of several jobs, made side by side and then joined.
use Rattle.std.proofs.Common.{◌≡◌, ◌∙◌, IfOk, MatchResult, Result, Ok, Err, List, [], ◌∷◌, map, refl, ap, sym, subst}
use Rattle.std.specs.List.{AllZip}
use denote.Ref.{Bor}

-- what a parallel map of calls that may fail gives, where none failed
module _ {E X Y : Type 0} (post : Bor X → Result Y E → Type 0) where
  returned : (zs : List (Bor X)) (ys : List Y) → AllZip post zs (map Ok ys)
      → AllZip (λ x y. (z : Bor X) × (z.now ≡ x) × post z (Ok y)) (map (λ (z : Bor X). z.now) zs) ys
  returned [] [] h = tt
  returned [] (y ∷ ys) h = absurd h
  returned (z ∷ zs) [] h = absurd h
  returned (z ∷ zs) (y ∷ ys) h = ((z, refl, h.0), returned zs ys h.1)

  pub each_returned : {V : Type 0} (items : V → List Y) (Q : E → Type 0) (zs : List (Bor X)) (s : List X) → map (λ (z : Bor X). z.now) zs ≡ s
      → (rs : List (Result Y E)) → AllZip post zs rs → (r : Result V E)
      → MatchResult r (λ v. (ys : List Y) × (rs ≡ map Ok ys) × (items v ≡ ys)) Q
      → IfOk r (λ v. AllZip (λ x y. (z : Bor X) × (z.now ≡ x) × post z (Ok y)) s (items v))
  each_returned items Q zs s is rs h (Ok v) e =
      let R = λ (x : X) (y : Y). (z : Bor X) × (z.now ≡ x) × post z (Ok y) in
      subst (λ l. AllZip R l (items v)) is
      (subst (λ ys. AllZip R (map (λ (z : Bor X). z.now) zs) ys) (sym e.2) (returned zs e.0 (subst (AllZip post zs) e.1 h)))
  each_returned items Q zs s is rs h (Err x) e = tt

-- in each value an item is shown
pub each_shown : {X Y Z : Type 0} (f : X → Z) (shown : Y → Z) (xs : List X) (ys : List Y)
    → AllZip (λ x y. (z : Bor X) × (z.now ≡ x) × (shown y ≡ f z.now)) xs ys → map shown ys ≡ map f xs
each_shown f shown [] [] h = refl
each_shown f shown [] (y ∷ ys) h = absurd h
each_shown f shown (x ∷ xs) [] h = absurd h
each_shown f shown (x ∷ xs) (y ∷ ys) h = ap (λ t. shown y ∷ t) (each_shown f shown xs ys h.1) ∙ ap (λ t. t ∷ map f xs) (h.0.2 ∙ ap f h.0.1)
