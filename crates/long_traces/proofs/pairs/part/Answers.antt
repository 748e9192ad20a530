use Rattle.std.proofs.Common.{◌≡◌, ◌∙◌, [], ◌∷◌, sym}
use Rattle.std.proofs.lemmas.Option.{IfSome_then}
use Rattle.sweeps.specs.Taking.{Job, Task}
use Rattle.trace_read.specs.TraceText.{keys_in}
use Rattle.long_traces.proofs.Following.{both-run, can-keep, over-both}
use Rattle.long_traces.proofs.pairs.part.Goals as goal

-- of any length of an interval
abbrev both : Job → Job → Task
both first second = record { jobs = first ∷ second ∷ []; every = 1 }

pub taken_by-requires-clause-kept : goal.taken_by-requires-clause-kept
taken_by-requires-clause-kept g c κs within = λ some.
    can-keep c.args.limits.accesses (c.args.first.now ∷ c.args.second.now ∷ []) (both-run c.args.limits.accesses c.args.first.now c.args.second.now c.requires.first c.requires.second) (sym c.some_know_trace-is_kept.ensures ∙ some)

pub taken_by-requires-clause-begins : goal.taken_by-requires-clause-begins
taken_by-requires-clause-begins g c κs within = (
  both c.args.first.now c.args.second.now,
  λ opened taker made trace over.
      let each = over-both opened.now trace c.args.first.now c.args.second.now _ c.some_know_trace-is_kept.ensures over in made trace each.0 each.1,
)

pub returns-clause-part : goal.returns-clause-part
returns-clause-part g c = IfSome_then (g.R.CountedRead.remaining c.args.reader.now) c.in_ok-run.ensures.taken (λ b has.
    c.found.ensures c.args.first.now c.args.second.now (keys_in c.args.format b) (has (both c.args.first.now c.args.second.now) (λ opened taker made trace over.
    let each = over-both opened.now trace c.args.first.now c.args.second.now _ c.some_know_trace-is_kept.ensures over in made trace each.0 each.1)))
