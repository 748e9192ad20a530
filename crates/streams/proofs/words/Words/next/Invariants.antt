use Rattle.std.proofs.Common.{◌≡◌, length, []}
use Rattle.std.specs.Option.{option_map_or}
use Rattle.std.specs.List.{slice_split}
use Rattle.std.specs.Prelude.{◌==◌}
use Rattle.streams.specs.Words.{words_in}
use Rattle.streams.proofs.words.Words.next.Given as goal

abbrev pub invariant-pieces : goal.invariant-pieces
invariant-pieces l =
    option_map_or (λ r. words_in r.now) l.self-inside.rest [] ≡ option_map_or (λ r. words_in r.now) l.initial.self-inside.rest []

abbrev pub decreases-pieces : goal.decreases-pieces
decreases-pieces l = length (option_map_or (λ r. slice_split (λ b. b == 32) r.now) l.self-inside.rest [])
