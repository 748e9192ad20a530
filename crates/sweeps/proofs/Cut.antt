-- A trace that is cut into pieces.
use Rattle.std.proofs.Common.{◌≡◌, ℕ, ◌+◌, ◌-◌, ◌*◌, ◌≤◌, min, List, length, take, drop, sym, ap, ◌∙◌, arith, length-take, length-drop}
use Rattle.std.proofs.lemmas.Nat.{mul-le}
use Rattle.std.specs.Int.{div_ceil}
use Rattle.std.proofs.lemmas.Grind.{div_ceil_times}
use Rattle.std.proofs.lemmas.List.{drop-drop}
use Rattle.sweeps.specs.Taking.{AreNext}

-- so many pieces are taken, and what is left of the trace
pub record IsCut (size : ℕ) (trace : List ℕ) (number : ℕ) (rest : List ℕ) (done : ℕ) : Type 0 where
  pub place : done ≡ min (number * size) (length trace)
  pub left : rest ≡ drop done trace

module _ (size : ℕ) (trace : List ℕ) (number : ℕ) (rest : List ℕ) (done : ℕ) (cut : IsCut size trace number rest done) where
  size-left : length rest ≡ length trace - done
  size-left = ap length cut.left ∙ length-drop done trace

  -- the next piece, and what is left behind it
  pub next : (k : ℕ) (piece : List ℕ) → k ≡ min size (length rest) → piece ≡ take k rest → AreNext trace done piece
  next k piece least is =
      let long : length piece ≡ k = ap length is ∙ length-take k rest ∙ omega (arith, least) in
      record {
        within = omega (arith, long, least, size-left, cut.place);
        piece = is ∙ ap (take k) cut.left ∙ ap (λ (n : ℕ). take n (drop done trace)) (sym long);
      }

  pub more : (k : ℕ) (piece later : List ℕ) → k ≡ min size (length rest) → piece ≡ take k rest → later ≡ drop k rest
      → IsCut size trace (number + 1) later (done + length piece)
  more k piece later least is behind =
      let long : length piece ≡ k = ap length is ∙ length-take k rest ∙ omega (arith, least) in
      let e : (number + 1) * size ≡ number * size + size = omega arith in
      record {
        place = omega (arith, long, least, size-left, cut.place, e);
        left = behind ∙ ap (drop k) cut.left ∙ drop-drop k done trace ∙ ap (λ (n : ℕ). drop n trace) (omega (arith, long));
      }

  -- all of it, once there are as many as it takes
  pub whole : 1 ≤ size → div_ceil (length trace) size ≤ number → done ≡ length trace
  whole some all =
      let cover = (div_ceil_times (length trace) size some).0 in
      let up : div_ceil (length trace) size * size ≤ number * size = mul-le (div_ceil (length trace) size) size number size all (omega arith) in
      omega (arith, cover, up, cut.place)
