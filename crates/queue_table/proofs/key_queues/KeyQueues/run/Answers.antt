use Rattle.std.proofs.lemmas.Bool.Decides.{nat_tests}
use Rattle.std.proofs.Common.{◌∙◌, sym, subst, arith}
use Rattle.queue_table.specs.QueueTable.{HoldsAt}
use Rattle.queue_table.proofs.Runs.{runs-on, run-ends, no-due}
use Rattle.queue_table.proofs.key_queues.KeyQueues.run.Goals as goal

pub loop-times-preserved : goal.loop-times-preserved
loop-times-preserved g c =
    let i = c.loop-times.invariant in (
      runs-on c.args.from c.args.to c.args.less c.args.least c.args.most c.loop-times.times _ _ _ i.0 c.loop-times-test.true (c.turn.ensures.some c.if-not-turn.false) (c.turn.ensures.turned c.if-not-turn.false),
      (c.turn.ensures.spare ∙ i.1.0, λ j e h z. (let g = i.1.1 j e h z in c.turn.ensures.others j e g.0 g.1)),
    )

pub returns-after-loop-times-clause-made : goal.returns-after-loop-times-clause-made
returns-after-loop-times-clause-made g c = grind (arith, nat_tests, run-ends)

pub returns-after-loop-times-clause-others : goal.returns-after-loop-times-clause-others
returns-after-loop-times-clause-others g c j e h z = (c.loop-times.invariant.1.1 j e h z).0

pub returns-then-not-turn-clause-run : goal.returns-then-not-turn-clause-run
returns-then-not-turn-clause-run g c = grind (arith, nat_tests, run-ends, no-due)

pub returns-then-not-turn-clause-made : goal.returns-then-not-turn-clause-made
returns-then-not-turn-clause-made g c = grind (arith, nat_tests, run-ends, no-due)

pub returns-then-not-turn-clause-others : goal.returns-then-not-turn-clause-others
returns-then-not-turn-clause-others g c j e h z =
    subst (HoldsAt j e) (sym (c.turn.ensures.same c.if-not-turn.true)) (c.loop-times.invariant.1.1 j e h z).0
