use Rattle.std.proofs.lemmas.Bool.Decides.{nat_tests}
use Rattle.std.proofs.Common.{nat_lt, Some, length, ◌∙◌, sym, arith}
use Rattle.std.proofs.lemmas.Bool.{or_parts}
use Rattle.queue_table.specs.Queues.{Queues}
use Rattle.queue_table.specs.QueueTable.{queues}
use Rattle.queue_table.specs.Moves.{item_of, leaving}
use Rattle.policy_pages.proofs.MissedKey.{enters-after-leaver}
use Rattle.policy_pages.proofs.Leavers.{none-left}
use Rattle.policy_pages.proofs.missed_key.enter_for_remembered.Goals as goal

pub enter-own-requires-clause-enters : goal.enter-own-requires-clause-enters
enter-own-requires-clause-enters g c = search (arith, enters-after-leaver)

pub enter_for_oldest-requires-clause-enters : goal.enter_for_oldest-requires-clause-enters
enter_for_oldest-requires-clause-enters g c = search (arith, enters-after-leaver)

pub enter_for_oldest-requires-clause-off : goal.enter_for_oldest-requires-clause-off
enter_for_oldest-requires-clause-off g c =
    let s : Queues = queues c.args.table.now in
    let new = (or_parts c.args.remembered (nat_lt (length (s c.args.into)) c.args.size) (sym c.ghost_keeps-keeps.ensures ∙ c.if-keeps.false)).0 in
    grind (arith, nat_tests, none-left (item_of (g.K.KeyName.key c.args.key)) c.args.from (Some (c.args.into, 0)) s c.args.into c.requires.off (c.requires.new new))

pub returns-then-keeps : goal.returns-then-keeps
returns-then-keeps g c =
    let first = c.send_oldest-first.ensures in
    rw (sym c.ghost_keeps-keeps.ensures ∙ c.if-keeps.true) record {
      between = queues c.send_oldest-first.new.self;
      left = c.one.ensures (leaving c.args.from (Some (c.args.into, 0))) _ _ first.left (omega arith);
      own = c.enter-own.ensures;
    }

pub returns : goal.returns
returns g c = grind (arith, nat_tests)
