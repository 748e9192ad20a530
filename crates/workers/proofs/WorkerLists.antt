-- Lists of workers at their places.
use Rattle.std.proofs.Common.{◌≡◌, ℕ, zero, suc, ◌+◌, ◌<◌, List, [], ◌∷◌, ◌++◌, length, get_or, take, drop, length-append, sym, ap, ◌∙◌, subst, arith}
use Rattle.std.specs.List.{All}
use Rattle.std.proofs.Math.Seq.{take-append_seam}
use Rattle.turn_book.specs.Turns.{Every}
use Rattle.workers.specs.WorkerStates.{WorkerState, AreNumbered}

module _ {X : Type 0} (P : X → Type 0) where
  pub all_of_every : (xs : List X) → Every P xs → All P xs
  all_of_every [] h = λ k d lt. absurd (omega arith)
  all_of_every (x ∷ xs) h = λ k d lt. at xs x h.0 (all_of_every xs h.1) k d lt
    where
      at : (xs : List X) (x : X) → P x → All P xs → (k : ℕ) (d : X) → k < length (x ∷ xs) → P (get_or (x ∷ xs) k d)
      at xs x h t zero d lt = h
      at xs x h t (suc k) d lt = t k d (omega arith)

  pub every_of_all : (xs : List X) → All P xs → Every P xs
  every_of_all [] h = tt
  every_of_all (x ∷ xs) h = (h 0 x (omega arith), every_of_all xs (λ k d lt. h (suc k) d (omega arith)))

module _ {X : Type 0} where
  pub length_snoc : (xs ys : List X) (x : X) → xs ≡ ys ++ x ∷ [] → length xs ≡ length ys + 1
  length_snoc xs ys x is = let a = ap length is in let b = length-append ys (x ∷ []) in omega arith

  pub take_back : (xs ys : List X) (n : ℕ) → length ys ≡ length xs → n ≡ length xs → take n (ys ++ drop (length ys) xs) ≡ ys
  take_back xs ys n same is = ap (λ k. take k (ys ++ drop (length ys) xs)) (is ∙ sym same) ∙ take-append_seam ys (drop (length ys) xs)

pub counts_more : (xs ys : List WorkerState) (x : WorkerState) → ys ≡ xs ++ x ∷ [] → AreNumbered 0 xs → x.worker ≡ length xs → AreNumbered 0 ys
counts_more xs ys x is h e = subst (AreNumbered 0) (sym is) (go xs 0 h (omega arith))
  where
    go : (xs : List WorkerState) (lo : ℕ) → AreNumbered lo xs → x.worker ≡ lo + length xs → AreNumbered lo (xs ++ x ∷ [])
    go [] lo h e = (omega arith, tt)
    go (y ∷ xs) lo h e = (h.0, go xs (suc lo) h.1 (omega arith))

pub counts_same : (xs ys : List WorkerState) (lo : ℕ) → length ys ≡ length xs → ((i : ℕ) (d : WorkerState) → i < length xs → (get_or ys i d).worker ≡ (get_or xs i d).worker) → AreNumbered lo xs → AreNumbered lo ys
counts_same [] [] lo e same h = h
counts_same [] (y ∷ ys) lo e same h = absurd (omega arith)
counts_same (x ∷ xs) [] lo e same h = absurd (omega arith)
counts_same (x ∷ xs) (y ∷ ys) lo e same h = (same 0 x (omega arith) ∙ h.0, counts_same xs ys (suc lo) (omega arith) (λ i d lt. same (suc i) d (omega arith)) h.1)

-- each worker's number is below their count
pub every_below : (xs : List WorkerState) (n : ℕ) → AreNumbered 0 xs → length xs ≡ n → Every (λ d. d.worker < n) xs
every_below xs n c e = go xs 0 c (omega arith)
  where
    go : (xs : List WorkerState) (lo : ℕ) → AreNumbered lo xs → lo + length xs ≡ n → Every (λ d. d.worker < n) xs
    go [] lo c e = tt
    go (x ∷ xs) lo c e = let w = c.0 in (omega arith, go xs (suc lo) c.1 (omega arith))
