use Rattle.std.proofs.Common.{◌≡◌, ◌++◌, take}
use Rattle.std.specs.List.{flat_map}
use Rattle.streams.specs.Texts.{count_text}
use Rattle.streams.proofs.text.push_counts_line.Given as goal

abbrev pub invariant-loop-name : goal.invariant-loop-name
invariant-loop-name l = l.text.items ≡ l.initial.text.items ++ flat_map (λ c. count_text c.0.now c.1) (take l.name-index l.counts)
