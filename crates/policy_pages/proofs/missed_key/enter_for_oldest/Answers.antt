use Rattle.std.proofs.Common.{Option, subst}
use Rattle.queue_table.specs.Entries.{entry}
use Rattle.queue_table.specs.Queues.{Queues}
use Rattle.queue_table.specs.QueueTable.{queues}
use Rattle.queue_table.specs.Moves.{item_of, goes}
use Rattle.queue_table.specs.Undoing.{IsOwn}
use Rattle.policy_pages.specs.MissedKey.{Found, CanEnter}
use Rattle.policy_pages.proofs.missed_key.enter_for_oldest.Goals as goal

pub send-own-requires-clause-at : goal.send-own-requires-clause-at
send-own-requires-clause-at g c =
    c.drop_oldest-left.ensures.others c.in-Some.found.at (entry (item_of (g.K.KeyName.key c.args.key)) c.in-Some.found.count)
    (subst (λ (o : Option Found). CanEnter o (item_of (g.K.KeyName.key c.args.key)) c.args.table.now) c.in-Some.is c.requires.enters) c.requires.off

pub returns-in-Some-clause-own : goal.returns-in-Some-clause-own
returns-in-Some-clause-own g c =
    subst (λ (m : Queues). IsOwn (goes c.args.queue 0) (item_of (g.K.KeyName.key c.args.key)) m (queues c.send-own.new.self) c.send-own.result) c.drop_oldest-left.ensures.left.after c.send-own.ensures.own
