-- What the table of policies says of a word.
use Rattle.std.proofs.lemmas.Bool.Decides.{nat_tests}
use Rattle.std.proofs.Common.{◌≡◌, ℕ, true, ap, arith}
use Rattle.step_record.specs.declared.job.Tuning.{Tuning}
use Rattle.policies.specs.declared.design.Design.TheVariants.{KnowsTrace}
use Rattle.policies.specs.Design.{Job, Policy, design_by, design_of, knows_trace}

pub design-named : (j : Job) (w : Policy) → j.policy ≡ w → design_of j ≡ design_by w j.tuning j.config.capacity
design-named j w is = ap (λ p. design_by p j.tuning j.config.capacity) is

-- the one word of the policy that knows the trace

word-knows : (w : Policy) (t : Tuning) (c : ℕ) → design_by w t c ≡ KnowsTrace → knows_trace w ≡ true
word-knows v t c h = grind (arith, nat_tests)

pub optimal-knows : (j : Job) → design_of j ≡ KnowsTrace → knows_trace j.policy ≡ true
optimal-knows j h = word-knows j.policy j.tuning j.config.capacity h

word-optimal : (w : Policy) (t : Tuning) (c : ℕ) → knows_trace w ≡ true → design_by w t c ≡ KnowsTrace
word-optimal v t c h = grind (arith, nat_tests)

pub optimal-is : (j : Job) → knows_trace j.policy ≡ true → design_of j ≡ KnowsTrace
optimal-is j h = word-optimal j.policy j.tuning j.config.capacity h
