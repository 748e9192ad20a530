use Rattle.std.proofs.Common.{◌≡◌, arith, ◌∙◌, ◌*◌, ◌<◌, Bool, List, ap, length}
use Rattle.std.specs.Vec.{with_items}
use Rattle.std.proofs.lemmas.List.{with_items_is}
use Rattle.sketch.specs.Laws.{lost_word}
use Rattle.engine_base.specs.Places.{by_place}
use Rattle.sketch.specs.Sketch.{IsTable}
use Rattle.sketch.proofs.Halves.{halve_after, lost_is, table_is}
use Rattle.sketch.proofs.Undoing.{unhalved_is, halve_fits}
use Rattle.engine_base.specs.Bits.{bits_of}
use Rattle.sketch.specs.HalveRecord.{HalveRecord, halve_record_of}
use Rattle.sketch.proofs.sketch.Sketch.halve.Goals as goal

pub returns-clause-after : goal.returns-clause-after
returns-clause-after c =
    let some : 0 < c.self.inside.width = omega (arith, c.self.invariant.0) in
    let n : length c.halve_words.new.words ≡ c.self.inside.words.len = omega (arith, c.halve_words.auto.words, c.deref_mut.ensures.len) in
    let items : (with_items c.self.inside.words c.halve_words.new.words).items ≡ c.halve_words.new.words = with_items_is c.self.inside.words c.halve_words.new.words n in
    let words = rw c.deref_mut.ensures.value at c.halve_words.ensures.words in
    rw (← c.self.view_is, items, words) (halve_after c.self.inside.width c.self.inside.spread some c.self.inside.words.items c.self.invariant.2)

pub returns-clause-record_is : goal.returns-clause-record_is
returns-clause-record_is c =
    let some : 0 < c.self.inside.width = omega (arith, c.self.invariant.0) in
    let m : length c.halve_words.new.lost ≡ c.in_ok-lost.lost.len = omega (arith, c.halve_words.auto.lost, c.deref_mut-2.ensures.len) in
    let few : 4 * length c.deref_mut-2.result.now ≡ length c.self.inside.words.items = omega (arith, c.deref_mut-2.ensures.len, c.in_ok-lost.ensures.len, c.len.ensures, c.self.inside.words.ok.0, c.self.invariant.2, c.self.invariant.3) in
    let lost : (with_items c.in_ok-lost.lost c.halve_words.new.lost).items ≡ by_place (length c.deref_mut-2.result.now) (lost_word c.self.inside.words.items) =
    with_items_is c.in_ok-lost.lost c.halve_words.new.lost m ∙ rw c.deref_mut.ensures.value at c.halve_words.ensures.lost in
    let is : ◌≡◌ {A = HalveRecord} record { lost = bits_of (by_place (length c.deref_mut-2.result.now) (lost_word c.self.inside.words.items)) } (halve_record_of c.args.self.now) =
    rw (← c.self.view_is) (lost_is c.self.inside.width c.self.inside.spread some c.self.inside.words.items c.self.invariant.2 (length c.deref_mut-2.result.now) few) in
    ap (λ (bs : List Bool). let r : HalveRecord = record { lost = bs } in r) (c.of_words.ensures ∙ ap bits_of lost) ∙ is

pub returns-clause-fits : goal.returns-clause-fits
returns-clause-fits c =
    let is : IsTable c.args.self.now = rw (← c.self.view_is) (table_is c.self.inside.width c.self.inside.spread c.self.inside.words.items c.self.invariant.0 c.self.invariant.3) in
    rw (returns-clause-record_is c, returns-clause-after c) (halve_fits c.args.self.now is)

pub returns-clause-undone : goal.returns-clause-undone
returns-clause-undone c =
    let is : IsTable c.args.self.now = rw (← c.self.view_is) (table_is c.self.inside.width c.self.inside.spread c.self.inside.words.items c.self.invariant.0 c.self.invariant.3) in
    unhalved_is c.args.self.now is _ _ (returns-clause-record_is c) (returns-clause-after c)
