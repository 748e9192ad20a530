use Rattle.std.proofs.Common.{◌≡◌, ◌↔◌, Option, Some, None, ap, refl}
use Rattle.std.specs.Prelude.{IfNone, IfSome}
use Rattle.segments.specs.Queues.{Queues, queues_without}
use Rattle.segments.specs.Moves.{IsMoveRecord}
use Rattle.shell_model.specs.ShellState.{Queue, Item, cleared_from}
use Rattle.shell_model.specs.Shell.{MoveRecord, cleared_of}
use Rattle.maintenance.proofs.round_acts.clear.Goals as goal

lists-by : (i : Item) (p : Option Queue) (o : Option MoveRecord) (q q' : Queues) → (o ≡ None ↔ p ≡ None)
    → q' ≡ queues_without i q → IfNone o (q' ≡ q) → q' ≡ cleared_from i p q
lists-by i None None q q' a l n = n
lists-by i None (Some r) q q' a l n = absurd (cc (a.1 refl))
lists-by i (Some p) o q q' a l n = l

made-by : (i : Item) (p : Option Queue) (o : Option MoveRecord) (q q' : Queues) → (o ≡ None ↔ p ≡ None)
    → IfSome o (λ r. IsMoveRecord i None q q' r) → o ≡ cleared_of i p q
made-by i None o q q' a r = a.1 refl
made-by i (Some p) None q q' a r = absurd (cc (a.0 refl))
made-by i (Some p) (Some m) q q' a r = ap Some r.is

pub returns-clause-lists : goal.returns-clause-lists
returns-clause-lists c = lists-by _ _ _ _ _ c.take_out.ensures.absent c.take_out.ensures.lists c.take_out.ensures.none

pub returns-clause-made : goal.returns-clause-made
returns-clause-made c = made-by _ _ _ _ _ c.take_out.ensures.absent c.take_out.ensures.record
