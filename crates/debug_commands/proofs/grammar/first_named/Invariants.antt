use Rattle.std.proofs.Common.{◌≡◌, drop}
use Rattle.debug_commands.specs.Names.{command_spelling}
use Rattle.streams.specs.Reads.{first_named}
use Rattle.debug_commands.proofs.grammar.first_named.Given as goal

abbrev pub invariant-loop-name : goal.invariant-loop-name
invariant-loop-name l = first_named command_spelling (drop l.name-index l.names) l.word ≡ first_named command_spelling l.names l.word
