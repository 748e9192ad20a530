use Rattle.std.proofs.lemmas.Bool.Decides.{nat_tests}
use Rattle.std.proofs.Common.{arith}
use Rattle.segments.proofs.Runs.{run-goes-on, run-back}
use Rattle.segments.proofs.segments.Segments.send_times.Goals as goal

pub loop-turn-preserved : goal.loop-turn-preserved
loop-turn-preserved c =
    let i = c.loop-turn.invariant in (
      run-goes-on c.loop-turn._turn c.send_oldest.result c.args.from c.args.to c.args.self.now.lists c.loop-turn.self.lists c.send_oldest.new.self.lists c.requires
          c.distinct.ensures i.0 c.send_oldest.ensures.item c.send_oldest.ensures.lists c.send_oldest.ensures.none,
      (let a = i.1 in let b = c.send_oldest.ensures.spare in omega (arith, a, b)),
    )

pub returns-clause-undone : goal.returns-clause-undone
returns-clause-undone c few = grind (arith, nat_tests, run-back)
