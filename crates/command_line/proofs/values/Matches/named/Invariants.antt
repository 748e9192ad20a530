use Rattle.std.proofs.Common.{◌≡◌, map, take, Some}
use Rattle.std.specs.List.{All}
use Rattle.command_line.specs.Choices.{all_named}
use Rattle.command_line.proofs.values.Matches.named.Given as goal

abbrev pub invariant-loop-word : goal.invariant-loop-word
invariant-loop-word g l = goal.F-IsAlwaysCallable g l.name
    × ((by : _) → ((word : _) (thing : _) → goal.F-post g l.name word thing → thing ≡ by word.now)
    → all_named by (map (λ s. s.now) (take l.word-index l.words)) ≡ Some l.named.items)
    × All (λ thing. (word : _) × goal.F-post g l.name word (Some thing)) l.named.items
