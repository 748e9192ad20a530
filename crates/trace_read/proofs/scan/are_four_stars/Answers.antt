use Rattle.std.proofs.Common.{◌≡◌, ◌∙◌, ◌<◌, ◌+◌, ◌-◌, ◌/◌, ◌%◌, ◌^◌, ℕ, length, take, drop, get_or, refl, sym, ap, subst, arith, take-take, get_or-drop}
use Rattle.std.proofs.lemmas.Bool.{eqb-true}
use Rattle.std.proofs.lemmas.List.{get_or-take}
use Rattle.std.specs.Simd.Lanes.{number_l}
use Rattle.trace_read.proofs.Eights.{byte_of, bytes_of, fits-take}
use Rattle.trace_read.proofs.scan.are_four_stars.Goals as goal

pub returns : goal.returns
returns c found =
    let bytes = c.args.bytes.now in
    let rest = drop c.args.place bytes in
    let same : take 8 (take (length bytes - c.args.place) rest) ≡ take 8 rest = take-take 8 (length bytes - c.args.place) rest (omega (arith, c.requires)) in
    let word : number_l 256 (take 8 rest) ≡ 0x0a2a_0a2a_0a2a_0a2a = ap (number_l 256) (sym same) ∙ sym c.first_word.ensures ∙ eqb-true _ _ found in
    let fits = fits-take 256 8 rest (bytes_of rest (λ k. subst (λ b. b < 256) (sym (get_or-drop c.args.place bytes k 0)) (c.type_inv.bytes (c.args.place + k)).fits)) in
    let byte : (k q : ℕ) → k < 8 → q ≡ c.args.place + k → get_or bytes q 0 ≡ 0x0a2a_0a2a_0a2a_0a2a / 256 ^ k % 256 =
    λ k q less e. ap (λ n. get_or bytes n 0) e ∙ sym (get_or-take 8 rest k 0 less ∙ get_or-drop c.args.place bytes k 0) ∙ byte_of (take 8 rest) k fits ∙ ap (λ n. n / 256 ^ k % 256) word in (
      (byte 0 _ (omega arith) (omega arith), byte 1 _ (omega arith) refl),
      (byte 2 _ (omega arith) refl, byte 3 _ (omega arith) (omega arith)),
      (byte 4 _ (omega arith) refl, byte 5 _ (omega arith) (omega arith)),
      (byte 6 _ (omega arith) refl, byte 7 _ (omega arith) (omega arith)),
    )
