use Rattle.std.proofs.Common.{◌∙◌, ap, sym, arith}
use Rattle.segments.specs.Queues.{Shown}
use Rattle.segments.proofs.Runs.{last-returns, back-stays}
use Rattle.segments.proofs.segments.Segments.return_times.Goals as goal
use Rattle.segments.proofs.segments.Segments.return_times.Goals.{in-Some, in_default}

pub loop-turn-preserved : goal.loop-turn-preserved
loop-turn-preserved c =
    let i = c.loop-turn.invariant in
    let old = c.args.self.now.lists in
    elim c.match-newest.branch [
      | in-Some w ↦ (
        ap (λ (x : Shown). x.lists) w.self-is ∙ w.put_back.ensures.lists
            ∙ last-returns c.loop-turn._turn w.in-Some.item c.args.from c.args.to old c.loop-turn.self.lists c.requires c.distinct.ensures i.0 (sym c.newest.ensures ∙ w.in-Some.is),
        (let a = i.1 in let b = w.put_back.ensures.spare in let e = ap (λ (x : Shown). x.spare) w.self-is in omega (arith, a, b, e)),
      )
      | in_default w ↦ (
        ap (λ (x : Shown). x.lists) w.self-is
            ∙ back-stays c.loop-turn._turn c.args.from c.args.to old c.loop-turn.self.lists c.requires i.0 (sym c.newest.ensures ∙ w.in_default.is),
        (let a = i.1 in let e = ap (λ (x : Shown). x.spare) w.self-is in omega (arith, a, e)),
      )
    ]
