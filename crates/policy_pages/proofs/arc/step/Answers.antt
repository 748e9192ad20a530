use Rattle.std.proofs.Common.{◌≡◌, arith, ◌∙◌, subst, sym}
use Rattle.std.proofs.lemmas.Bool.Decides.{nat_tests}
use Rattle.std.specs.Prelude.{◌==◌}
use Rattle.queue_table.specs.QueueTable.{queues}
use Rattle.queue_table.specs.Moves.{Plan, item_of, goes}
use Rattle.queue_table.specs.Undoing.{IsAccessed}
use Rattle.policy_pages.specs.ArcPlan.{T2, B2, recall_plan, plan_in, plan_at}
use Rattle.policy_pages.proofs.Plans.{found-accessed}
use Rattle.policy_pages.proofs.arc.step.Goals.{then-in_b2, else-in_b2}
use Rattle.policy_pages.proofs.arc.step.Goals as goal

pub returns-then-is_resident-clause-accessed : goal.returns-then-is_resident-clause-accessed
returns-then-is_resident-clause-accessed g c =
    let s = queues c.args.table.now in
    found-accessed (λ at. plan_at c.args.capacity c.args.own_number at s) (item_of (g.K.KeyName.key c.args.key)) c.args.own_number s _ _ _ c.in-Some.ensures.stands
    (rw (sym c.is_resident.ensures ∙ c.if-is_resident.true) (c.hit.ensures (goes T2 0) (item_of (g.K.KeyName.key c.args.key)) s _ c.send.ensures.own))

pub returns-clause-accessed : goal.returns-clause-accessed
returns-clause-accessed g c =
    let s = queues c.args.table.now in
    found-accessed (λ at. plan_at c.args.capacity c.args.own_number at s) (item_of (g.K.KeyName.key c.args.key)) c.args.own_number s _ _ _ c.in-Some.ensures.stands
    (subst (λ (p : Plan). IsAccessed p (item_of (g.K.KeyName.key c.args.key)) c.args.own_number s (queues c.recalled.new.table) c.recalled.result) planned c.recalled.ensures)
  where
    planned : recall_plan (c.in-Some.found.queue == B2) c.if-in_b2.target (queues c.args.table.now) ≡ plan_in c.args.capacity c.args.own_number c.in-Some.found.queue (queues c.args.table.now)
    planned = elim c.if-in_b2.branch [
      | then-in_b2 w ↦ grind (arith, nat_tests)
      | else-in_b2 w ↦ grind (arith, nat_tests)
    ]
