use Rattle.std.proofs.Common.{rules, ◌≡◌, ◌∙◌, IfSome, subst}
use Rattle.step_record.specs.declared.job.Policy.TheVariants.{Lru}
use Rattle.queue_cache.specs.Curve.{curve_of}
use Rattle.queue_cache.specs.QueueCache.{state_after}
use Rattle.queue_cache.proofs.Reached.{has-room}
use Rattle.sweeps.proofs.LruReports.{lru-report}
use Rattle.sweeps.proofs.prepared_trace.PreparedTrace.report.Goals as goal

pub stats-requires : goal.stats-requires
stats-requires g c = has-room c.args.job.now.config c.requires

pub stats-requires-in-Some-reuses : goal.stats-requires-in-Some-reuses
stats-requires-in-Some-reuses g c = has-room c.args.job.now.config c.requires

pub returns-in-Some : goal.returns-in-Some
returns-in-Some g c =
    let is : c.args.job.now.policy ≡ Lru = search rules in
    let found = subst (λ o. IfSome o (λ x. x ≡ curve_of c.args.self.now.trace.now)) c.in-Some.is c.args.self.now.found in
    c.of.ensures ∙ lru-report c.args.job.now c.args.self.now.trace.now c.stats.result is (λ q d e. c.stats.ensures q c.args.self.now.trace.now found d e)

pub returns-in-Some-reuses : goal.returns-in-Some-reuses
returns-in-Some-reuses g c =
    let is : c.args.job.now.policy ≡ Lru = search rules in
    let noted = subst (λ o. IfSome o (λ r. r ≡ c.args.self.now.trace.now)) c.in-Some-reuses.is c.args.self.now.noted in
    c.of-in-Some-reuses.ensures ∙ lru-report c.args.job.now c.args.self.now.trace.now c.in_ok-stats.field-0 is (λ q d e. subst (λ keys. c.in_ok-stats.field-0 ≡ (state_after q keys).stats) noted (c.in_ok-stats.ensures q d e))
