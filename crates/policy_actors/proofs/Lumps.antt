-- The batches of a lump.
use Rattle.std.proofs.Common.{◌≡◌, ℕ, ◌+◌, ◌-◌, ◌*◌, ◌<◌, ◌≤◌, List, length, take, drop, min, true, false, Bool, Option, Some, None, IfSome, IsTrue, true≢false, sym, ap, subst, refl, ◌∙◌, arith, ⊎_elim, length-drop, length-take}
use Rattle.std.specs.Prelude.{◌↔◌}
use Rattle.std.proofs.lemmas.List.{drop-drop, drop-take, take_all, take-take}
use Rattle.std.proofs.lemmas.Bool.{cases_lt}
use Rattle.policy_actors.specs.ChannelProtocol.{Batch, IsBatch}

-- so many at the front of a front
drop_front : (n size : ℕ) (ys : List ℕ) → size ≤ n → drop size (take n ys) ≡ take (n - size) (drop size ys)
drop_front n size ys le = let e : n ≡ size + (n - size) = omega arith in
    ap (λ (i : ℕ). drop size (take i ys)) e ∙ drop-take size (n - size) ys

-- a batch that starts behind so many keys of a lump, which stands at a place
module _ (place start size n : ℕ) (keys : List ℕ) (within : start ≤ length keys) (cut : n ≡ min size (length keys - start)) where
  pub piece_of : (all : List ℕ) → keys ≡ take (length keys) (drop place all) → (length keys - start < size → keys ≡ drop place all)
      → take n (drop start keys) ≡ take size (drop (place + start) all)
  piece_of all piece at_end = ⊎_elim
      (λ (gt : length keys - start < size).
      let same : n ≡ length keys - start = omega arith in
      ap (λ (i : ℕ). take i (drop start keys)) same
      ∙ take_all (length keys - start) (drop start keys) (omega (arith, length-drop start keys))
      ∙ sym (take_all size (drop start keys) (omega (arith, length-drop start keys)))
      ∙ ap (λ (l : List ℕ). take size (drop start l)) (at_end gt)
      ∙ ap (take size) (drop-drop start place all))
      (λ (le : size ≤ length keys - start).
      let same : n ≡ size = omega arith in
      ap (λ (i : ℕ). take i (drop start keys)) same
      ∙ ap (λ (l : List ℕ). take size (drop start l)) piece
      ∙ ap (take size) (drop_front (length keys) start (drop place all) within)
      ∙ take-take size (length keys - start) (drop start (drop place all)) le
      ∙ ap (take size) (drop-drop start place all))
      (cases_lt (length keys - start) size)

module _ (size k place start n : ℕ) (is_end last : Bool) (keys : List ℕ)
    (at : k * size ≡ place + start) (some : 0 < size) (within : start ≤ length keys) (cut : n ≡ min size (length keys - start))
    (whole : is_end ≡ false → size ≤ length keys - start)
    (last_is : IsTrue last ↔ ((length keys - start ≤ size) × (is_end ≡ true))) where
  ends : (e : Bool) → is_end ≡ e → (all : List ℕ) → (is_end ≡ true → keys ≡ drop place all) → (is_end ≡ false → 0 < length keys → place + length keys < length all)
      → IsTrue last ↔ (length all ≤ k * size + size)
  ends true is all at_end before_end = let same = ap (λ (l : List ℕ). length l) (at_end is) in (
    (λ holds. let left = (last_is.0 holds).0 in omega (arith, at, left, same, length-drop place all)),
    (λ few. last_is.1 (omega (arith, at, few, same, length-drop place all), is)),
  )
  ends false is all at_end before_end = let left = whole is in let more = before_end is (omega (arith, left, some)) in (
    (λ holds. absurd (true≢false (sym (last_is.0 holds).1 ∙ is))),
    (λ few. absurd (no (omega (arith, at, left, more, within)) few)),
  ) where
    no : k * size + size < length all → length all ≤ k * size + size → ⊥
    no lt le = absurd (omega (arith, lt, le))

  whole_end : length keys - start < size → (e : Bool) → is_end ≡ e → is_end ≡ true
  whole_end lt true is = is
  whole_end lt false is = let left = whole is in absurd (omega (arith, left, lt))

  length_is : length (take n (drop start keys)) ≡ min n (length keys - start)
  length_is = length-take n (drop start keys) ∙ ap (min n) (length-drop start keys)

  last_of : (known : Option (List ℕ)) → IfSome known (λ all. is_end ≡ true → keys ≡ drop place all)
      → IfSome known (λ all. is_end ≡ false → 0 < length keys → place + length keys < length all)
      → IfSome known (λ all. IsTrue last ↔ (length all ≤ k * size + size))
  last_of None at_end before_end = tt
  last_of (Some all) at_end before_end = ends is_end refl all at_end before_end

  piece_in : (known : Option (List ℕ)) → IfSome known (λ all. keys ≡ take (length keys) (drop place all))
      → IfSome known (λ all. is_end ≡ true → keys ≡ drop place all)
      → IfSome known (λ all. take n (drop start keys) ≡ take size (drop (k * size) all))
  piece_in None piece at_end = tt
  piece_in (Some all) piece at_end = piece_of place start size n keys within cut all piece (λ lt. at_end (whole_end lt is_end refl))
      ∙ ap (λ (i : ℕ). take size (drop i all)) (sym at)

  -- a part of a lump is the batch with the number of its place
  pub is_batch : (most : ℕ) (known : Option (List ℕ)) (b : Batch) → b.number ≡ k → b.keys ≡ take n (drop start keys) → b.last ≡ last
      → (0 < length keys → place + length keys ≤ most)
      → IfSome known (λ all. keys ≡ take (length keys) (drop place all)) → IfSome known (λ all. is_end ≡ true → keys ≡ drop place all)
      → IfSome known (λ all. is_end ≡ false → 0 < length keys → place + length keys < length all)
      → IsBatch known most size k b
  is_batch most known b number is last_same few piece at_end before_end = record {
    number = number;
    within = let e = ap (λ (l : List ℕ). length l) is in omega (arith, e, length_is, cut);
    few = λ some_keys. let e = ap (λ (l : List ℕ). length l) is in let f = few (omega (arith, e, length_is, cut, some_keys)) in omega (arith, e, length_is, cut, f, at, within, some_keys);
    last = subst (λ (l : Bool). IfSome known (λ all. IsTrue l ↔ (length all ≤ k * size + size))) (sym last_same) (last_of known at_end before_end);
    piece = subst (λ (l : List ℕ). IfSome known (λ all. l ≡ take size (drop (k * size) all))) (sym is) (piece_in known piece at_end);
  }
