use Rattle.std.proofs.Common.{drop}
use Rattle.shell_model.proofs.OneStripe.{written}
use Rattle.shell_model.proofs.stripes.Stripes.take_oldest.Goals as goal

pub returns-clause-rest : goal.returns-clause-rest
returns-clause-rest c =
    written c.self.inside.buffers.items c.args.stripe c.index_mut-buffer.result.now c.remove.new.self c.args.self.now c.self.view_is c.requires c.index_mut-buffer.ensures.value
    (drop 1) c.remove.ensures.items
