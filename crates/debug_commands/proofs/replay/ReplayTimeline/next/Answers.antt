use Rattle.std.proofs.lemmas.Grind.{common_steps}
use Rattle.std.proofs.Common.{◌≡◌, ◌∙◌, ◌+◌, ◌-◌, ◌++◌, ap, sym, ℕ, length, arith}
use Rattle.std.specs.Prelude.{nat_lt}
use Rattle.engine_base.specs.History.{Entries}
use Rattle.journal.specs.Session.{IsMovedTo}
use Rattle.admission.specs.Frequency.{FrequencyData}
use Rattle.shell_model.specs.Shell.{Shell}
use Rattle.debug_commands.proofs.Walks.{facts_are, ok_on, stands_here, stands_there}
use Rattle.debug_commands.proofs.replay.ReplayTimeline.next.Goals as goal

pub returns-clause-facts : goal.returns-clause-facts
returns-clause-facts c =
    let old = c.args.self.now.session.now in
    let new = c.forward.new.self in
    let steps : Entries = old.kept ++ old.tail in
    let n : ℕ = length old.kept in
    let to : IsMovedTo (n + 1) old new = ok_on c.forward.result (IsMovedTo (n + 1) old new) (sym c.is_err.ensures.value ∙ c.if-is_err.false) c.forward.ensures.ok in
    let age : c.age-age.result ≡ old.engine.frequency.age =
    c.age-age.ensures ∙ ap (λ (f : FrequencyData). f.age) c.frequency.ensures ∙ ap (λ (x : Shell). x.frequency.age) c.engine.ensures.engine in
    let now : c.age.result ≡ new.engine.frequency.age =
    c.age.ensures ∙ ap (λ (f : FrequencyData). f.age) c.frequency-2.ensures ∙ ap (λ (x : Shell). x.frequency.age) c.engine-2.ensures.engine in
    let place : c.len.result - 1 ≡ n = omega (arith, c.len.ensures.len, to.applied) in
    c.step_facts.ensures
    ∙ facts_are old.opening old.engine new.engine new.kept steps n (c.len.result - 1) c.in-Some.entry.now (nat_lt c.age.result c.age-age.result)
    (stands_here old.opening old.engine old.kept old.tail c.engine.ensures.sound.stands)
    (stands_there old.opening new.opening new.engine new.kept steps n to.opening to.kept c.engine-2.ensures.sound.stands)
    (ap (λ a. nat_lt a c.age-age.result) now ∙ ap (nat_lt new.engine.frequency.age) age) to.kept place c.in-Some.ensures

pub returns-clause-position : goal.returns-clause-position
returns-clause-position c = grind (arith, common_steps)

pub returns-clause-same : goal.returns-clause-same
returns-clause-same c = grind (arith, common_steps)

pub returns-clause-source : goal.returns-clause-source
returns-clause-source c = grind (arith, common_steps)

pub returns-then-is_err-clause-source : goal.returns-then-is_err-clause-source
returns-then-is_err-clause-source c = grind (arith, common_steps)
