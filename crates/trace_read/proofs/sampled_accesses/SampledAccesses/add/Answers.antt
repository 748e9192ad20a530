use Rattle.std.proofs.Common.{◌∙◌, subst, refl, arith, take, get_or, ◌∷◌, []}
use Rattle.trace_read.specs.SampledAccesses.{Keeps}
use Rattle.trace_read.specs.Sample.{sample_of}
use Rattle.trace_read.proofs.Sampling.{keeps-none, keeps-then, sample-more}
use Rattle.trace_read.proofs.sampled_accesses.SampledAccesses.add.Goals as goal

pub loop-key-init : goal.loop-key-init
loop-key-init c = record { rule = refl; kept = keeps-none _ _ refl refl refl; few = omega arith }

pub take-requires : goal.take-requires
take-requires c = omega (arith, c.loop-key.invariant.few, c.requires)

pub loop-key-preserved : goal.loop-key-preserved
loop-key-preserved c =
    let i = c.loop-key.invariant in
    record {
      rule = c.in_ok-take.ensures.rule ∙ i.rule;
      few = omega (arith, i.few, c.in_ok-take.ensures.few);
      kept = rw (sample-more c.args.self.now.test.rule.inverse c.args.self.now.test.rule.seed c.args.keys.now c.loop-key.key-index 0 (omega arith))
          (keeps-then c.args.self.now c.loop-key.self c.take.new.self (sample_of c.args.self.now.test.rule.inverse c.args.self.now.test.rule.seed (take c.loop-key.key-index c.args.keys.now))
          (sample_of c.args.self.now.test.rule.inverse c.args.self.now.test.rule.seed (get_or c.args.keys.now c.loop-key.key-index 0 ∷ [])) i.kept
          (subst (λ r. Keeps c.loop-key.self c.take.new.self (sample_of r.inverse r.seed (get_or c.args.keys.now c.loop-key.key-index 0 ∷ []))) i.rule c.in_ok-take.ensures.kept));
    }
