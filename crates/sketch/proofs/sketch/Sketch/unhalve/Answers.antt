use Rattle.std.proofs.lemmas.Bool.Decides.{nat_tests}
use Rattle.std.proofs.Common.{◌≡◌, ap, arith, ◌*◌, ◌<◌, length}
use Rattle.std.specs.Vec.{with_items}
use Rattle.std.proofs.lemmas.List.{with_items_is}
use Rattle.engine_base.specs.Bits.{bit_of}
use Rattle.engine_base.proofs.Places.{length-by_place, get_or-by_place}
use Rattle.sketch.specs.Counters.{counter_at}
use Rattle.sketch.proofs.Halves.{unhalve_after, low_everywhere}
use Rattle.sketch.proofs.sketch.Sketch.unhalve.Goals as goal

pub unhalve_words-requires-clause-whole : goal.unhalve_words-requires-clause-whole
unhalve_words-requires-clause-whole c =
    grind (arith, nat_tests, length-by_place (64 * length c.as_words.result.now) (bit_of c.as_words.result.now))

pub unhalve_words-requires-clause-low : goal.unhalve_words-requires-clause-low
unhalve_words-requires-clause-low c =
    let fit = rw (← c.self.view_is) at c.requires.low in
    rw c.deref_mut.ensures.value (low_everywhere c.self.inside.words.items c.self.inside.width c.self.invariant.2
    (λ i h. let e = get_or-by_place (4 * c.self.inside.width) (counter_at c.self.inside.words.items) i 0 h in let f = fit i h in omega (arith, e, f)))

pub returns : goal.returns
returns c =
    let some : 0 < c.self.inside.width = omega (arith, c.self.invariant.0) in
    let n : length c.unhalve_words.new.words ≡ c.self.inside.words.len = omega (arith, c.unhalve_words.auto.words, c.deref_mut.ensures.len) in
    let items : (with_items c.self.inside.words c.unhalve_words.new.words).items ≡ c.unhalve_words.new.words = with_items_is c.self.inside.words c.unhalve_words.new.words n in
    let words = rw c.deref_mut.ensures.value at c.unhalve_words.ensures in
    let whole = rw (← c.self.view_is) at c.requires.whole in
    let e = ap length c.as_words.ensures in
    let count = length-by_place (64 * length c.as_words.result.now) (bit_of c.as_words.result.now) in
    let fit = rw (← c.self.view_is) at c.requires.low in
    let low = low_everywhere c.self.inside.words.items c.self.inside.width c.self.invariant.2
    (λ i h. let e = get_or-by_place (4 * c.self.inside.width) (counter_at c.self.inside.words.items) i 0 h in let f = fit i h in omega (arith, e, f)) in
    grind (arith, nat_tests, unhalve_after c.self.inside.width c.self.inside.spread some c.self.inside.words.items c.self.invariant.2 c.as_words.result.now low (omega (arith, whole, e, count, c.self.invariant.2)))
