use Rattle.std.proofs.Common.{◌≡◌, ◌∙◌, Ok, IfOk, ap, subst}
use Rattle.std.specs.List.{AllZip}
use Rattle.std.specs.Borrow.{Bor}
use Rattle.step_record.specs.declared.job.Job.{Job}
use Rattle.sweeps.proofs.Joined.{each_returned}
use Rattle.sweeps.proofs.side_by_side.made_by_each.Goals as goal

pub returns : goal.returns
returns g c =
    let slice = ap (λ it. it.base.slice.now) c.map.ensures.base ∙ ap (λ it. it.slice.now) c.with_min_len.ensures.base
    ∙ c.par_iter.ensures in
    let h = c.in_ok-collect.ensures in
    let r = c.in_ok-collect.field-0 in
    subst (λ f. IfOk r (λ made. AllZip (λ job m. (j : Bor Job) × (j.now ≡ job) × goal.F-post g f j (Ok m)) c.args.jobs.now made.items)) c.map.ensures.f
    (each_returned _ (λ v. v.items) _ h.1.0 c.args.jobs.now (h.1.1 ∙ slice) h.0 h.1.2 r h.2)
