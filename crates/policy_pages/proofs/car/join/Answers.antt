use Rattle.std.proofs.Common.{◌≡◌, ◌+◌, ◌*◌, length, arith, subst}
use Rattle.queue_table.specs.Queues.{Queues}
use Rattle.queue_table.specs.QueueTable.{queues}
use Rattle.queue_table.specs.Moves.{item_of, goes}
use Rattle.queue_table.specs.Undoing.{nothing_left}
use Rattle.queue_table.proofs.Laws.{nothing-left}
use Rattle.policy_pages.specs.CarPlan.{T1, B1, total}
use Rattle.policy_pages.specs.CarStep.{IsJoined}
use Rattle.policy_pages.proofs.CarPlan.{forgets-none}
use Rattle.policy_pages.proofs.car.join.Goals as goal

pub returns : goal.returns
returns g c =
    let s : Queues = queues c.args.table.now in
    let room = c.args.capacity in
    let off_l1 : length (s T1) + length (s B1) ≡ room → ⊥ = λ e. c.if-l1-room.false (omega (arith, e, c.len.ensures, c.len-2.ensures, c.saturating_add-l1.ensures, c.ranges.capacity.fits)) in
    let off_all : total s ≡ 2 * room → ⊥ =
    λ e. c.if-all-room.false (omega (arith, e, c.len.ensures, c.len-2.ensures, c.len-3.ensures, c.len-4.ensures, c.saturating_add-l1.ensures, c.saturating_add.ensures, c.saturating_add-all.ensures, c.ranges.capacity.fits)) in
    subst (λ l. IsJoined l (goes T1 0) (item_of (g.K.KeyName.key c.args.key)) s (queues c.join.new.self) nothing_left c.join.result) (forgets-none room s off_l1 off_all)
    record { left = nothing-left s; few = omega arith; own = c.join.ensures.own }
