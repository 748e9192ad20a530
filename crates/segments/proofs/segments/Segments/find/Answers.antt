use Rattle.std.proofs.Common.{rules, ◌∙◌, ap, sym, Some}
use Rattle.segments.specs.declared.records.Queue.{Queue}
use Rattle.segments.proofs.NamedQueues.{distinct-shown, holding-is, missing-is}
use Rattle.segments.proofs.segments.Segments.find.Goals as goal

pub returns-in_err-found-clause-queue : goal.returns-in_err-found-clause-queue
returns-in_err-found-clause-queue c =
    let none = missing-is _ _ _ c.self.view_is c.self.invariant c.find.ensures.distinct c.args.item c.in_err-found.ensures.missing in
    search rules

pub returns-in_err-found-clause-distinct : goal.returns-in_err-found-clause-distinct
returns-in_err-found-clause-distinct c = distinct-shown _ _ _ c.self.view_is c.self.invariant c.find.ensures.distinct

pub returns-clause-queue : goal.returns-clause-queue
returns-clause-queue c =
    ap (λ (x : Queue). Some x) c.name.ensures ∙ sym (holding-is _ _ _ c.self.view_is c.self.invariant c.find.ensures.distinct c.args.item _ c.in_ok-found.ensures.queue)

pub returns-clause-distinct : goal.returns-clause-distinct
returns-clause-distinct c = distinct-shown _ _ _ c.self.view_is c.self.invariant c.find.ensures.distinct
