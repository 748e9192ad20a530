use Rattle.std.proofs.Common.{[], ◌∷◌, ◌++◌}
use Rattle.shell_model.proofs.OneStripe.{written}
use Rattle.shell_model.proofs.stripes.Stripes.offer.Goals as goal

pub returns-clause-kept : goal.returns-clause-kept
returns-clause-kept c _ =
    written c.self.inside.buffers.items c.args.stripe c.index_mut-buffer.result.now c.push.new.self c.args.self.now c.self.view_is c.requires c.index_mut-buffer.ensures.value
    (λ l. l ++ c.args.item ∷ []) c.push.ensures.items
