use Rattle.std.proofs.lemmas.Grind.{elements}
use Rattle.std.proofs.Common.{rules, ◌≡◌, sym, subst, ℕ, Result, Ok, Err, arith}
use Rattle.std.specs.Prelude.{OnOk}
use Rattle.debug_commands.specs.Answers.{InputLine, answer_to, response_to}
use Rattle.debug_commands.specs.AnswerText.{IsAnswer}
use Rattle.debug_commands.specs.Timeline.{TimelineData}
use Rattle.debug_commands.specs.declared.command.Command.TheVariants as command
use Rattle.debug_commands.specs.declared.command.InputLine.TheVariants.{Known}
use Rattle.debug_commands.proofs.dialogue.answer.Goals as goal

-- what holds at every timeline and position holds at this one
at_this : {A E : Type 0} (r : Result A E) (P : TimelineData → ℕ → Type 0) → OnOk r ((t : TimelineData) (at : ℕ) → P t at)
    → (t : TimelineData) (at : ℕ) → OnOk r (P t at)
at_this (Ok u) P h t at = h t at
at_this (Err e) P h t at = tt

pub returns-in-Known-Break-clause-answer : goal.returns-in-Known-Break-clause-answer
returns-in-Known-Break-clause-answer g c =
    let breaks = c.args.breaks.now.items in
    let before = c.args.text.now.items in
    let after = c.set.new.text.items in
    let points = c.set.new.breaks.items in
    let t : TimelineData = g.T.Timeline.timeline c.args.timeline.now in
    let at : ℕ = g.T.Timeline.position c.args.timeline.now in
    let is : c.args.line ≡ Known (command.Break c.in-Known-Break.point) = search rules in
    subst (λ (x : InputLine). OnOk c.set.result (IsAnswer (answer_to t (record { at = at; breaks = breaks }) x) before after at points)) (sym is)
    (at_this c.set.result (λ t at. IsAnswer (response_to t (record { at = at; breaks = breaks }) (command.Break c.in-Known-Break.point)) before after at points)
    c.set.ensures t at)

pub returns-in-Unknown-clause-answer : goal.returns-in-Unknown-clause-answer
returns-in-Unknown-clause-answer g c = grind (arith, elements)
