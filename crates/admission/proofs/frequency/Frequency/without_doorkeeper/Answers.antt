use Rattle.std.proofs.Common.{◌+◌, ◌*◌, ◌^◌, ap, ◌∙◌, refl, sym}
use Rattle.std.proofs.lemmas.Nat.{pow-add}
use Rattle.admission.specs.Shape.{Shape}
use Rattle.admission.proofs.frequency.Frequency.without_doorkeeper.Goals as goal

pub new-requires-clause-power : goal.new-requires-clause-power
new-requires-clause-power c =
    let a = c.requires.power in
    let b = c.width_for.ensures.power.0 in
    (a.0 + b.0, ap (λ x. x * c.width_for.result) a.1 ∙ (ap (λ y. 2 ^ a.0 * y) b.1 ∙ sym (pow-add 2 a.0 b.0)))

pub returns : goal.returns
returns c =
    let s : Shape = record { capacity = c.args.capacity; spread = c.args.spread; width = c.args.columns * c.width_for.result; size = 0 } in
    record {
      shape = s;
      is = record { some = c.requires.some; entries = c.width_for.result; is = c.width_for.ensures.power; width = refl; size = refl };
      capacity_is = refl;
      spread_is = refl;
      stands = rw (c.in_ok-new.ensures, c.of_no_bits.ensures) refl;
    }
