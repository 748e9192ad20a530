use Rattle.std.proofs.lemmas.Bool.Decides.{nat_tests}
use Rattle.std.proofs.Common.{rules, sym, ◌+◌, length, ap, arith}
use Rattle.std.proofs.lemmas.Bool.{lt-ltb, le-ltb}
use Rattle.queue_table.specs.Queues.{Queues}
use Rattle.queue_table.specs.QueueTable.{queues}
use Rattle.queue_table.specs.Moves.{item_of, goes}
use Rattle.policy_pages.specs.S3FifoPlan.{Run, SMALL, MAIN, GHOST}
use Rattle.policy_pages.proofs.MissedKey.{outside-after-run}
use Rattle.policy_pages.proofs.S3FifoPlan.{resident-count, main-few}
use Rattle.policy_pages.proofs.s3_fifo.miss.Goals as goal

pub overflow_add-len : goal.overflow_add-len
overflow_add-len g c = omega (arith, c.requires.few, c.requires.state.residents.fits, resident-count (queues c.args.table.now), c.len.ensures, c.len-2.ensures)

pub returns-then-len-capacity : goal.returns-then-len-capacity
returns-then-len-capacity g c =
    let i = item_of (g.K.KeyName.key c.args.key) in
    let s : Queues = queues c.args.table.now in
    rw (lt-ltb (length (s SMALL) + length (s MAIN)) c.args.capacity (omega (arith, c.len.ensures, c.len-2.ensures, c.if-len-capacity.true)), sym c.queue_of.ensures)
    (c.kept.ensures (goes c.queue_of.result 0) i s _ c.enter_apart-own.ensures)

pub evict-requires-clause-few : goal.evict-requires-clause-few
evict-requires-clause-few g c =
    let few = main-few c.args.part c.args.capacity (queues c.args.table.now) (queues c.run-early.new.self) c.run-early.result (search rules) c.run-early.ensures.made.after c.tabled.ensures c.requires.state in
    let limit = c.requires.few in
    omega (arith, few, limit)

pub evict-requires-clause-outside : goal.evict-requires-clause-outside
evict-requires-clause-outside g c =
    let early = c.run-early.ensures in
    outside-after-run c.args.remembered c.args.found (item_of (g.K.KeyName.key c.args.key)) c.run-early.result SMALL MAIN GHOST _ _ (ap (λ (r : Run). r.from) early.run) early.made early.spare early.others c.requires.outside

pub returns : goal.returns
returns g c = grind (arith, nat_tests, le-ltb)
