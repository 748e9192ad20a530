use Rattle.shell_model.proofs.Evicting.{evictions-by-reply}
use Rattle.shell_model.proofs.theorems.evictions_by_reply.Goals as goal

pub returns : goal.returns
returns c = evictions-by-reply
