use Rattle.std.proofs.lemmas.Bool.Decides.{nat_tests}
use Rattle.std.proofs.Common.{arith, ◌≡◌, ◌*◌, ◌/◌, length}
use Rattle.engine_base.proofs.Places.{by_place_same}
use Rattle.sketch.proofs.Digits.{nibble_zero}
use Rattle.sketch.proofs.Masks.{whole_parts}
use Rattle.sketch.proofs.sketch.Sketch.new.Goals as goal

pub invariant_of-result : goal.invariant_of-result
invariant_of-result c =
    let p = c.requires.power in
    let m : c.args.width ≡ 16 * (c.args.width / 16) = rw p.1 (whole_parts 4 p.0 (let low = rw p.1 at c.requires.low in low)) in
    let n : length c.in_ok-words.words.items ≡ c.args.width / 4 = omega (arith, c.in_ok-words.words.ok.0, c.in_ok-words.ensures.len) in
    (c.requires.low, c.requires.high, omega (arith, n, m), m, p, tt, c.columns.ensures.value)

pub returns : goal.returns
returns c = grind (arith, nat_tests, by_place_same, nibble_zero)
