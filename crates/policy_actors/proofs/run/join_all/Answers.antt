use Rattle.std.proofs.Common.{◌≡◌, ◌++◌, ◌∷◌, [], List, Option, Some, None, IfSome, IsSome, map, ap, subst, ◌∙◌, append_assoc}
use Rattle.std.specs.Vec.Iter.{into_iter_items}
use Rattle.policies.specs.Reports.{Job, report_on}
use Rattle.policy_actors.specs.Actors.{Report, jobs_of}
use Rattle.policy_actors.proofs.run.join_all.Goals as goal

pushed : (one : Option Report) (old new : List Report) (wanted : Report) → IsSome one → IfSome one (λ r. new ≡ old ++ r ∷ []) → IfSome one (λ r. r ≡ wanted)
    → new ≡ old ++ wanted ∷ []
pushed None old new wanted some one is = absurd (cc some)
pushed (Some r) old new wanted some one is = one ∙ ap (λ x. old ++ x ∷ []) is

pub loop-handle-preserved : goal.loop-handle-preserved
loop-handle-preserved g c all known =
    let f = λ (j : Job). report_on j all in
    let old = c.loop-handle.reports.items in
    let one = f c.in-Some.handle.promise.job in
    let is = pushed _ _ _ one c.in_ok-push_report.ensures.none c.in_ok-push_report.ensures.pushed (c.join.ensures all known) in
    let rest = subst (λ hs. old ++ map f (jobs_of hs) ≡ map f (jobs_of c.args.handles.items)) c.in-Some.ensures.steps.0 (c.loop-handle.invariant all known) in
    rw is (append_assoc old (one ∷ []) (map f (jobs_of (into_iter_items c.next.new.self))) ∙ rest)
