use Rattle.std.proofs.Common.{◌≡◌, ◌++◌}
use Rattle.debug_commands.specs.ShownState.{stripe_lines}
use Rattle.debug_commands.proofs.shell_text.push_stripes.Given as goal

abbrev pub invariant-loop-stripe : goal.invariant-loop-stripe
invariant-loop-stripe l = l.text.items ≡ l.initial.text.items ++ stripe_lines l.shell.stripes l.stripe
