use Rattle.std.proofs.lemmas.Bool.Decides.{nat_tests}
use Rattle.std.proofs.lemmas.Grind.{common_steps}
use Rattle.std.proofs.Common.{◌∙◌, sym, ap, arith}
use Rattle.engine_base.specs.Stats.{stats_with}
use Rattle.clairvoyant.proofs.Reached.{reached-held}
use Rattle.clairvoyant.proofs.Applying.{next-keeping, next-accepted, next-undone}
use Rattle.clairvoyant.proofs.clairvoyant.ClairvoyantEngine.apply.Goals as goal

pub overflow_sub-held : goal.overflow_sub-held
overflow_sub-held c = let s = c.self.inside in omega (arith, reached-held s.core.capacity s.core.uses s.stats c.self.invariant.reached)

pub serve-record-requires-clause-held : goal.serve-record-requires-clause-held
serve-record-requires-clause-held c = let s = c.self.inside in omega (arith, reached-held s.core.capacity s.core.uses s.stats c.self.invariant.reached)

pub invariant_of-self : goal.invariant_of-self
invariant_of-self c =
    let s = c.self.inside in
    next-keeping s.core.capacity s.core.uses s.stats c.count.new.self c.serve-record.result (omega (arith, c.if-place-len.false, c.len.ensures.len)) c.self.invariant.reached c.serve-record.ensures.record (c.count.ensures ∙ ap (λ o. stats_with o s.stats) c.outcome-outcome.ensures) c.serve-record.new.ranks c.serve-record.ensures.tied

pub returns-clause-accepted : goal.returns-clause-accepted
returns-clause-accepted c =
    let s = c.self.inside in
    next-accepted s.core.capacity s.core.uses s.stats c.count.new.self c.serve-record.result (omega (arith, c.if-place-len.false, c.len.ensures.len)) c.self.invariant.reached c.serve-record.ensures.record (c.count.ensures ∙ ap (λ o. stats_with o s.stats) c.outcome-outcome.ensures) _ _ c.args.self.now c.self.view_is (sym c.if-key-step.false ∙ c.key.ensures) c.outcome-outcome.ensures

pub returns-clause-fits : goal.returns-clause-fits
returns-clause-fits c = search arith

pub returns-clause-undone : goal.returns-clause-undone
returns-clause-undone c = grind (arith, nat_tests, next-undone)

pub returns-clause-record_is : goal.returns-clause-record_is
returns-clause-record_is c = grind (arith, nat_tests)

pub count-requires : goal.count-requires
count-requires c = grind (arith, common_steps)

pub returns-clause-not_now : goal.returns-clause-not_now
returns-clause-not_now c = grind (arith, common_steps)
