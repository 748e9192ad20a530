use Rattle.std.proofs.Common.{◌≡◌, ◌++◌, take}
use Rattle.std.specs.List.{flat_map}
use Rattle.streams.specs.Texts.{count_text}
use Rattle.streams.proofs.text.push_numbers_line.Given as goal

abbrev pub invariant-loop-number : goal.invariant-loop-number
invariant-loop-number l =
    l.text.items ≡ l.initial.text.items ++ flat_map (count_text l.separator) (take l.number-index l.numbers)
