use Rattle.std.proofs.Common.{◌≡◌, ◌≤◌, ◌+◌, ◌*◌, ◌++◌, drop, length, map, vec_len, vec_capacity}
use Rattle.journal_text.specs.Table.{spaced, Wide}
use Rattle.journal_text.proofs.line_text.push_numbers.Given as goal

abbrev pub invariant-loop-number : goal.invariant-loop-number
invariant-loop-number l = record {
  items : l.text.items ++ spaced (map Wide (drop l.number-index l.numbers)) ≡ l.initial.text.items ++ spaced (map Wide l.numbers);
  len : vec_len l.text ≤ vec_len l.initial.text + 21 * l.number-index;
  capacity : vec_capacity l.initial.text ≤ vec_capacity l.text;
  within : l.number-index ≤ length l.numbers;
}
