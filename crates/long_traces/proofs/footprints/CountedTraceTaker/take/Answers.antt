use Rattle.std.proofs.Common.{◌≡◌, ◌++◌, ◌∙◌, ap, arith, length, length-take, List, ℕ, OnOk, subst, sym, take}
use Rattle.std.proofs.Math.Seq.{take-add}
use Rattle.trace_index.specs.FootprintCounter.{HasCounted}
use Rattle.long_traces.proofs.footprints.CountedTraceTaker.take.Goals as goal

pub take-requires : goal.take-requires
take-requires g c =
    let can = c.requires.next.can in
    let long : length (take can.place can.trace) ≡ can.place = length-take can.place can.trace ∙ omega (arith, can.next.within) in
    (take can.place can.trace, can.taken, omega (arith, long, can.next.within, can.few))

pub returns : goal.returns
returns g c = λ task trace n next has.
    subst (λ (keys : List ℕ). OnOk c.take.result (HasCounted keys c.take.new.self))
    (ap (λ (l : List ℕ). take n trace ++ l) next.piece ∙ sym (take-add n (length c.args.keys.now) trace))
    (c.take.ensures (take n trace) has)
