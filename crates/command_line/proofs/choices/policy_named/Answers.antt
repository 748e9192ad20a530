use Rattle.std.proofs.Common.{◌∙◌, ap, find}
use Rattle.std.specs.Str.{bytes_eq}
use Rattle.step_record.specs.Job.{word_of}
use Rattle.command_line.specs.Choices.{policy_named}
use Rattle.command_line.proofs.choices.policy_named.Goals as goal

pub returns : goal.returns
unfolding policy_named
returns c = c.first_named.ensures ∙ ap (find (λ policy. bytes_eq (word_of policy) c.args.word.now)) c.as_slice.ensures
