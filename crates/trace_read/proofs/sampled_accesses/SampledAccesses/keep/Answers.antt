use Rattle.std.proofs.Common.{rules, ◌≡◌, ◌∙◌, ◌++◌, ap, sym, arith}
use Rattle.std.proofs.lemmas.Grind.{common_steps}
use Rattle.trace_read.specs.Numbers.{number_line}
use Rattle.trace_read.proofs.Sampling.{number-one, put}
use Rattle.trace_read.proofs.sampled_accesses.SampledAccesses.keep.Goals as goal

pub returns-clause-kept : goal.returns-clause-kept
returns-clause-kept c =
    let text : c.push.new.self.items ≡ c.args.self.now.text.items ++ number_line c.args.key = grind (arith, common_steps) in
    record {
      text = text ∙ ap (λ t. c.args.self.now.text.items ++ t) (sym (number-one c.args.key));
      count = record {
        accesses = search rules;
        blocks = λ q. c.in_ok-insert.ensures.updates.0 q ∙ put c.args.key q _;
      };
    }
