use Rattle.std.proofs.Common.{◌∙◌, length, ap, arith}
use Rattle.std.proofs.lemmas.List.{take_all}
use Rattle.policy_comparison.specs.Comparison.{counts_of}
use Rattle.policy_comparison.proofs.compared_rows.ComparedRows.counts.Goals as goal

pub returns : goal.returns
returns c = λ every hits has. has.cut.counts ∙ ap counts_of (take_all (length hits) hits (omega arith))
