use Rattle.std.proofs.Common.{◌∙◌, ◌+◌, ap, sym, refl}
use Rattle.journal_text.proofs.steps.make.Goals as goal

pub returns-else-is_same-clause-err : goal.returns-else-is_same-clause-err
returns-else-is_same-clause-err g c v line =
    let reply = ap (λ d. g.E.Engine.act d c.args.entry.step) (sym c.len-step.ensures.sound.stands) ∙ c.in-Ok.ensures.accepted in (
      ap (λ n. n + 1) c.len-step.ensures.len,
      (c.args.entry, c.in-Ok.reply, (line, refl), c.in-Ok.ensures.ok, c.is_same.ensures.differs c.if-is_same.false, (g.E.Engine.seen c.step.new.self.engine, reply)),
    )
