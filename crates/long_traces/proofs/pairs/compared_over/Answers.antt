use Rattle.std.proofs.Common.{◌≡◌, ◌∙◌, ℕ, [], ◌∷◌, sym}
use Rattle.std.proofs.lemmas.Option.{IfSome_then}
use Rattle.std.proofs.lemmas.Result.{IfOk-weaker}
use Rattle.sweeps.specs.Taking.{Job, Task}
use Rattle.long_traces.proofs.Following.{both-run, can-keep, over-both}
use Rattle.long_traces.proofs.pairs.compared_over.Goals as goal

abbrev both : Job → Job → ℕ → Task
both first second every = record { jobs = first ∷ second ∷ []; every = every }

pub taken_by-requires-clause-kept : goal.taken_by-requires-clause-kept
taken_by-requires-clause-kept g c κs within = λ some.
    can-keep c.args.limits.accesses (c.args.first.now ∷ c.args.second.now ∷ []) (both-run c.args.limits.accesses c.args.first.now c.args.second.now c.requires.first c.requires.second) (sym c.some_know_trace-is_kept.ensures ∙ some)

pub taken_by-requires-clause-begins : goal.taken_by-requires-clause-begins
taken_by-requires-clause-begins g c κs within = (
  both c.args.first.now c.args.second.now c.args.every,
  λ opened taker made trace over.
      let each = over-both opened.now trace c.args.first.now c.args.second.now _ c.some_know_trace-is_kept.ensures over in made trace each.0 each.1,
)

pub returns-clause-some : goal.returns-clause-some
returns-clause-some g c = IfOk-weaker c.taken_by.result _ _ (λ run all.
    let some = all (both c.args.first.now c.args.second.now c.args.every) (λ opened taker made trace over.
    let each = over-both opened.now trace c.args.first.now c.args.second.now _ c.some_know_trace-is_kept.ensures over in made trace each.0 each.1) in
    record { trace = some.trace; taken = some.taken }) c.taken_by.ensures.some

pub returns-clause-taken : goal.returns-clause-taken
returns-clause-taken g c = IfOk-weaker c.taken_by.result _ _ (λ run all. IfSome_then (g.R.CountedRead.remaining c.args.reader.now) all (λ b has.
    has (both c.args.first.now c.args.second.now c.args.every) (λ opened taker made trace over.
    let each = over-both opened.now trace c.args.first.now c.args.second.now _ c.some_know_trace-is_kept.ensures over in made trace each.0 each.1))) c.taken_by.ensures.taken
