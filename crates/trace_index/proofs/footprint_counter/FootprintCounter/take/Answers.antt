use Rattle.std.proofs.Common.{◌≡◌, ◌∙◌, ◌+◌, ◌++◌, ◌∷◌, [], ap, append-nil, append_assoc, arith, length, length-append, length-take, List, ℕ, subst, sym, take, take_all}
use Rattle.std.proofs.lemmas.List.{take_more}
use Rattle.trace_index.specs.FootprintCounter.{HasCounted}
use Rattle.trace_index.proofs.footprint_counter.FootprintCounter.take.Goals as goal

pub loop-key-init : goal.loop-key-init
loop-key-init c = λ done has. subst (λ (l : List ℕ). HasCounted l c.args.self.now) (sym (append-nil done)) has

pub count-requires : goal.count-requires
count-requires c =
    let done = c.requires.0 in
    let i = c.loop-key.key-index in
    let taken : length (take i c.args.keys.now) ≡ i = length-take i c.args.keys.now ∙ omega arith in
    let long = length-append done (take i c.args.keys.now) in
    (done ++ take i c.args.keys.now, c.loop-key.invariant done c.requires.1, omega (arith, taken, long, c.requires.2))

pub loop-key-preserved : goal.loop-key-preserved
loop-key-preserved c = λ done has.
    let i = c.loop-key.key-index in
    let keys = c.args.keys.now in
    subst (λ (l : List ℕ). HasCounted l c.count.new.self)
    (append_assoc done (take i keys) _ ∙ ap (λ (l : List ℕ). done ++ l) (sym (take_more keys i 0 (omega arith))))
    (c.in_ok-count.ensures (done ++ take i keys) (c.loop-key.invariant done has))

pub returns : goal.returns
returns c = λ done has.
    subst (λ (l : List ℕ). HasCounted (done ++ l) c.loop-key.self) (take_all c.loop-key.key-index c.args.keys.now (omega arith)) (c.loop-key.invariant done has)
