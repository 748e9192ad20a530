use Rattle.std.proofs.Common.{◌≡◌, ℕ, ◌+◌, ◌-◌, ◌*◌, ◌/◌, ◌%◌, ◌^◌, ◌<◌, arith, sym, ap, ◌∙◌}
use Rattle.std.proofs.Math.Nat.{div-lt_iff_lt-mul}
use Rattle.std.proofs.Math.Pow.{pow_pos}
use Rattle.std.proofs.lemmas.Nat.{pow-add, mul-mod_first}
use Rattle.queue_table.proofs.slot_index.bucket_of.Goals as goal

div-below : (x bits : ℕ) → bits < 32 → x < 18446744073709551616 → x / 2 ^ (64 - bits) < 2 ^ bits
div-below x bits s w =
    let sum : bits + (64 - bits) ≡ 64 = omega (arith, s) in
    let whole : 2 ^ bits * 2 ^ (64 - bits) ≡ 2 ^ 64 = sym (pow-add 2 bits (64 - bits)) ∙ ap (λ n. 2 ^ n) sum in
    let below : x < 2 ^ bits * 2 ^ (64 - bits) = rw whole w in
    (div-lt_iff_lt-mul (pow_pos (64 - bits))).1 below

pub returns-clause-within : goal.returns-clause-within
returns-clause-within c = div-below _ c.args.bits c.requires.1 (omega arith)

pub returns-clause-bucket : goal.returns-clause-bucket
returns-clause-bucket c =
    let i = c.args.item in
    let inner : (i.key + i.node * 4294967296 % 18446744073709551616) % 18446744073709551616 ≡ (i.key + i.node * 4294967296) % 18446744073709551616 = omega arith in
    ap (λ x. x / 2 ^ (64 - c.args.bits)) (ap (λ x. x * c.args.multiplier % 18446744073709551616) inner ∙ mul-mod_first (i.key + i.node * 4294967296) c.args.multiplier 18446744073709551616)
