use Rattle.std.proofs.lemmas.Bool.Decides.{nat_tests}
use Rattle.std.proofs.lemmas.Grind.{common_steps}
use Rattle.std.proofs.Common.{◌≡◌, ◌<◌, ◌^◌, length, get_or, arith, w64}
use Rattle.std.proofs.lemmas.List.{get_or_read}
use Rattle.std.proofs.lemmas.Nat.Bits.{bit_at-trailing_zeros, bit_at-zero}
use Rattle.clairvoyant.proofs.Words.{above-some, word-there, least-held}
use Rattle.clairvoyant.proofs.bit_layer.BitLayerNumberSet.least.Goals as goal
use Rattle.std.proofs.lemmas.Bool.{cases_eq}

pub returns-in-Some : goal.returns-in-Some
returns-in-Some g c =
    let ws = c.args.self.now.words.items in
    let w = c.in-Some.word in
    let x = c.index.result.now in
    let e = c.in-Some.ensures in
    let up = c.args.self.now.above in
    let in_it : w < length ws = word-there ws _ _ w up e.1 in
    let read : x ≡ get_or ws w 0 = get_or_read ws _ _ in_it c.index.ensures 0 in
    let fits : x < 2 ^ 64 = omega arith in
    let some : 0 < x = rw read (above-some _ (get_or ws w 0) e.1 (up.some w)) in
    let low = bit_at-trailing_zeros w64 x some fits in grind (arith, nat_tests, least-held, cases_eq, bit_at-zero)

pub index-requires : goal.index-requires
index-requires g c = grind (arith, common_steps)

pub overflow_add-result : goal.overflow_add-result
overflow_add-result g c = grind (arith, common_steps)

pub overflow_mul-result : goal.overflow_mul-result
overflow_mul-result g c = grind (arith, common_steps)

pub returns-in-None : goal.returns-in-None
returns-in-None g c = grind (arith, common_steps)
