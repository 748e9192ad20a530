use Rattle.std.proofs.Common.{◌≡◌, Option, option_map, ap, sym, subst, ◌∙◌}
use Rattle.segments.specs.Queues.{Queues, IsDistinct}
use Rattle.engine_base.specs.declared.drain.Phase.TheVariants.{Evictions}
use Rattle.replacement.specs.Rules.{three_queues}
use Rattle.replacement.specs.Plan.{candidate_of}
use Rattle.replacement.specs.declared.record.Leaver.{Leaver}
use Rattle.shell_model.specs.Changes.{shell_eviction, shell_after_eviction}
use Rattle.shell_model.specs.Shell.{Shell, in_phase, leaves_table, unlisted_by}
use Rattle.maintenance.specs.contracts.shell_core.ShellCore.{the_view}
use Rattle.maintenance.proofs.Evicted.{eviction-is, eviction-leaves}
use Rattle.maintenance.proofs.shell_core.ShellCore.evict.Goals as goal

pub carry_out-effect-requires : goal.carry_out-effect-requires
carry_out-effect-requires c = record { distinct = subst (λ (x : Shell). IsDistinct x.queues) (sym (c.self.view_is ∙ c.pass_on-passed.ensures.state)) c.requires.distinct }

abbrev after_eviction : Shell → Queues → Option Leaver → Shell
after_eviction x q l = record x { queues = q; table = unlisted_by (option_map (λ m. m.item) l) x.table }

pub returns-clause-made : goal.returns-clause-made
returns-clause-made c =
    let now : the_view c.self.inside ≡ in_phase Evictions c.args.self.now = c.self.view_is ∙ c.pass_on-passed.ensures.state in
    rw c.reply_to.ensures
    (eviction-is c.args.self.now (the_view c.self.inside) c.args.holder c.in-Some.candidate c.self.inside.rules c.carry_out-effect.result.outcome c.carry_out-effect.result.moves c.unlist-listed.result
    now
    (subst (λ (x : Shell). IsDistinct x.queues) (sym now) c.requires.distinct)
    c.self.invariant.3
    (sym c.in-Some.is ∙ c.candidate.ensures ∙ ap (λ (x : Shell). candidate_of (three_queues x.config) x.queues) (sym c.self.view_is))
    c.carry_out-effect.ensures.moves
    c.carry_out-effect.ensures.outcome
    (c.unlist-listed.ensures.listed ∙ ap (λ (l : Option Leaver). leaves_table l (the_view c.self.inside).table) c.leaver.ensures))

pub returns-clause-state : goal.returns-clause-state
returns-clause-state c =
    let now : the_view c.self.inside ≡ in_phase Evictions c.args.self.now = c.self.view_is ∙ c.pass_on-passed.ensures.state in
    c.unlist-listed.ensures.state
    ∙ ap (after_eviction (the_view c.self.inside) c.carry_out-effect.new.queues.lists) c.leaver.ensures
    ∙ eviction-leaves (the_view c.self.inside) c.self.inside.rules c.carry_out-effect.result.moves c.carry_out-effect.new.queues.lists
    (subst (λ (x : Shell). IsDistinct x.queues) (sym now) c.requires.distinct)
    c.self.invariant.3
    c.carry_out-effect.ensures.lists
    c.carry_out-effect.ensures.moves
    ∙ ap (λ (x : Shell). shell_after_eviction (shell_eviction x) x) now
