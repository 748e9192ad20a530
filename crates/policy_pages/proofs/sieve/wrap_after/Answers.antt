use Rattle.std.proofs.lemmas.Grind.{common_steps}
use Rattle.std.proofs.Common.{if◌then◌else◌, ℕ, Bool, ap, ◌∙◌, sym, arith}
use Rattle.std.proofs.lemmas.Bool.{lt-ltb, le-ltb}
use Rattle.queue_table.specs.QueueTable.{queues}
use Rattle.policy_pages.specs.SievePlan.{passed_queue}
use Rattle.policy_pages.proofs.SievePlan.{left-empty}
use Rattle.policy_pages.proofs.sieve.wrap_after.Goals as goal

pub returns-then-len-le1-clause-is : goal.returns-then-len-le1-clause-is
returns-then-len-le1-clause-is g c = grind (arith, common_steps, left-empty, lt-ltb)

pub returns-else-len-le1-clause-is : goal.returns-else-len-le1-clause-is
returns-else-len-le1-clause-is g c =
    let ahead : Bool → ℕ = λ b. if b then passed_queue c.args.ahead else c.args.ahead in
    let many = c.if-len-le1.false in
    sym (ap ahead (left-empty c.args.ahead (queues c.args.table.now) c.tabled.ensures ∙ le-ltb _ 2 (omega (arith, c.len.ensures, many))))
