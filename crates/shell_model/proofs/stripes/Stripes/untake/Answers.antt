use Rattle.std.proofs.Common.{◌∷◌}
use Rattle.shell_model.proofs.OneStripe.{written}
use Rattle.shell_model.proofs.stripes.Stripes.untake.Goals as goal

pub returns : goal.returns
returns c =
    written c.self.inside.buffers.items c.args.stripe c.index_mut.result.now c.insert.new.self c.args.self.now c.self.view_is c.requires.stripe c.index_mut.ensures.value
    (λ l. c.args.item ∷ l) c.insert.ensures.items
