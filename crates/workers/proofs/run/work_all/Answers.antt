use Rattle.std.proofs.lemmas.Grind.{common_steps}
use Rattle.std.proofs.Common.{rules, ◌≡◌, ◌<◌, ℕ, [], sym, ap, subst, ◌∙◌, length, get_or, arith}
use Rattle.std.specs.List.{All}
use Rattle.std.proofs.iter.Serving.{serving}
use Rattle.turn_book.specs.Turns.{Every}
use Rattle.turn_book.specs.Passes.{id_of}
use Rattle.std.specs.Prelude.{IfSome}
use Rattle.workers.specs.WorkerStates.{WorkerState, AreNumbered, HoldsPass, HasWorked, calls_of}
use Rattle.workers.specs.Draws.{IsWithin}
use Rattle.workers.proofs.Collecting.{every_both}
use Rattle.workers.proofs.WorkerLists.{all_of_every, every_of_all, every_below, counts_same, take_back}
use Rattle.workers.proofs.run.work_all.Goals as goal

pub for_each_mut-requires-clause-accepts : goal.for_each_mut-requires-clause-accepts
for_each_mut-requires-clause-accepts g c κs within =
    let every = every_both _ _ (λ d. HoldsPass (id_of c.args.book.now) d × IfSome d.pass (λ p. (p.own ≡ []) × IsWithin c.args.book.now.opening.limit p) × (d.worker < length c.args.pieces.now)) c.args.states.items (λ d h lt. (h.0, h.1, lt))
    c.requires.holds (every_below c.args.states.items (length c.args.pieces.now) c.requires.counts.0 c.requires.counts.1) in
    let all : All (λ d. HoldsPass (id_of c.args.book.now) d × IfSome d.pass (λ p. (p.own ≡ []) × IsWithin c.args.book.now.opening.limit p) × (d.worker < length c.args.pieces.now)) c.as_mut_slice.result.now =
    all_of_every _ _ (subst (Every (λ d. HoldsPass (id_of c.args.book.now) d × IfSome d.pass (λ p. (p.own ≡ []) × IsWithin c.args.book.now.opening.limit p) × (d.worker < length c.args.pieces.now))) (sym c.as_mut_slice.ensures.value) every) in
    grind (serving, all)

pub returns-clause-holds : goal.returns-clause-holds
returns-clause-holds g c =
    let len : length c.for_each_mut.new.s ≡ length c.args.states.items = c.for_each_mut.auto.s ∙ ap length c.as_mut_slice.ensures.value in
    let back = take_back c.args.states.items c.for_each_mut.new.s c.args.states.len len c.args.states.ok.0 in
    let holds : All (λ d. HoldsPass (id_of c.args.book.now) d × HasWorked c.args.stripes c.args.book.now.opening (calls_of c.args.pieces.now) d) c.for_each_mut.new.s = search rules in
    subst (Every (λ d. HoldsPass (id_of c.args.book.now) d × HasWorked c.args.stripes c.args.book.now.opening (calls_of c.args.pieces.now) d)) (sym back) (every_of_all _ _ holds)

pub returns-clause-counts : goal.returns-clause-counts
returns-clause-counts g c =
    let len : length c.for_each_mut.new.s ≡ length c.args.states.items = c.for_each_mut.auto.s ∙ ap length c.as_mut_slice.ensures.value in
    let back = take_back c.args.states.items c.for_each_mut.new.s c.args.states.len len c.args.states.ok.0 in
    let same : (i : ℕ) (d : WorkerState) → i < length c.as_mut_slice.result.now → (get_or c.for_each_mut.new.s i d).worker ≡ (get_or c.as_mut_slice.result.now i d).worker = search rules in
    let workers = subst (λ xs. (i : ℕ) (d : WorkerState) → i < length xs → (get_or c.for_each_mut.new.s i d).worker ≡ (get_or xs i d).worker) c.as_mut_slice.ensures.value same in
    (subst (AreNumbered 0) (sym back) (counts_same _ _ 0 len workers c.requires.counts.0), ap length back ∙ len ∙ c.requires.counts.1)

pub returns-then-is_empty-clause-holds : goal.returns-then-is_empty-clause-holds
returns-then-is_empty-clause-holds g c = grind (arith, common_steps)
