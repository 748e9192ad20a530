use Rattle.std.proofs.Common.{◌∙◌, ◌++◌, ◌∷◌, [], List, ap, arith, map, sym, subst, take}
use Rattle.std.specs.List.{All}
use Rattle.std.proofs.lemmas.List.{map-append, take_all, take_more}
use Rattle.std.proofs.lemmas.List.Elements.{All-nil, All-push}
use Rattle.sweeps.specs.Taking.{Job}
use Rattle.sweeps.proofs.runs.open_runs.Goals as goal

pub loop-job-init : goal.loop-job-init
loop-job-init g c = (
  ap (map g.R.Run.job_of) c.new-runs.ensures.items,
  λ other all. subst (All (g.R.Run.has_run c.args.every other 0)) (sym c.new-runs.ensures.items) (All-nil (g.R.Run.has_run c.args.every other 0)),
)

pub loop-job-preserved : goal.loop-job-preserved
loop-job-preserved g c =
    let jobs = c.args.jobs.now in
    let i = c.loop-job.job-index in
    let f = g.R.Run.job_of in (
      ap (map f) c.in_ok-push.ensures.items
          ∙ map-append f c.loop-job.runs.items (c.in_ok-open.field-0 ∷ [])
          ∙ ap (λ (l : List Job). l ++ f c.in_ok-open.field-0 ∷ []) c.loop-job.invariant.0
          ∙ ap (λ (j : Job). take i jobs ++ j ∷ []) c.in_ok-open.ensures.job
          ∙ sym (take_more jobs i _ (omega arith)),
      λ other all. subst (All (g.R.Run.has_run c.args.every other 0)) (sym c.in_ok-push.ensures.items)
          (All-push (g.R.Run.has_run c.args.every other 0) c.loop-job.runs.items c.in_ok-open.field-0 (c.loop-job.invariant.1 other all)
          (c.in_ok-open.ensures.begun other (all i _ (omega arith)))),
    )

pub returns : goal.returns
returns g c = λ other all. record {
  jobs = c.loop-job.invariant.0 ∙ take_all c.loop-job.job-index c.args.jobs.now (omega arith);
  each = c.loop-job.invariant.1 other all;
}
