-- A worked example.
use Rattle.std.specs.Prelude.{◌≡◌, []}
use Rattle.policy_pages.specs.Examples.{example_counts, counts_with}
use Rattle.policy_pages.specs.Fifo.{fifo_act}

-- the keys 1, 2, 3, 1, 4 and 2 at capacity 3
abbrev pub WorkedExamples : Type 0
WorkedExamples = example_counts fifo_act [] ≡ counts_with 2 4 1
