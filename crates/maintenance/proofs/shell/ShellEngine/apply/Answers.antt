use Rattle.std.proofs.Common.{arith}
use Rattle.shell_model.proofs.Reached.{reached-sound}
use Rattle.shell_model.proofs.Bounding.{bound-law}
use Rattle.maintenance.proofs.Standing.{stands-after, fits-after, undone-after, words-after}
use Rattle.maintenance.proofs.shell.ShellEngine.apply.Goals as goal

pub apply-requires-clause-sound : goal.apply-requires-clause-sound
apply-requires-clause-sound c = reached-sound c.self.inside.core c.self.invariant

pub apply-requires-clause-next : goal.apply-requires-clause-next
apply-requires-clause-next c = (bound-law c.self.inside.core c.self.invariant).next

pub apply-requires-clause-counts : goal.apply-requires-clause-counts
apply-requires-clause-counts c = let b = bound-law c.self.inside.core c.self.invariant in λ k. (let m = b.counts k in omega (arith, m, b.applied))

pub apply-requires-clause-few : goal.apply-requires-clause-few
apply-requires-clause-few c = let b = bound-law c.self.inside.core c.self.invariant in omega (arith, b.halvings, b.applied)

pub invariant_of-self : goal.invariant_of-self
invariant_of-self c = stands-after c.self.inside.core _ c.args.step.now _ c.self.invariant c.apply.ensures.some c.apply.ensures.err

pub returns-clause-fits : goal.returns-clause-fits
returns-clause-fits c = fits-after c.self.inside.core _ c.args.step.now _ c.self.invariant c.apply.ensures.some c.apply.ensures.record_is

pub returns-clause-undone : goal.returns-clause-undone
returns-clause-undone c = rw (← c.self.view_is) (undone-after c.self.inside.core _ c.args.step.now _ c.self.invariant c.apply.ensures.some c.apply.ensures.record_is)

pub returns-clause-words : goal.returns-clause-words
returns-clause-words c = words-after c.self.inside.core _ c.args.step.now _ c.self.invariant c.apply.ensures.some c.apply.ensures.record_is

pub returns-clause-record_is : goal.returns-clause-record_is
returns-clause-record_is c = rw (← c.self.view_is) c.apply.ensures.record_is
