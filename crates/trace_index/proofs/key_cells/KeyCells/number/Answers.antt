use Rattle.std.proofs.lemmas.Bool.Decides.{nat_tests}
use Rattle.std.proofs.lemmas.Grind.{common_steps, get_or_default_zero}
use Rattle.std.proofs.Common.{arith}
use Rattle.trace_index.proofs.KeyCells.{IsSearched, none-below, absent, before, in-numbers}
use Rattle.trace_index.proofs.key_cells.KeyCells.number.Goals as goal
use Rattle.trace_index.proofs.key_cells.KeyCells.number.Goals.{After-search-place}

found : (c : goal.After-search-place) → IsSearched c.self.inside.homes c.self.inside.keys.items c.self.inside.numbers.items c.args.key c.min-end.result c.search-place.result
found c = grind (arith, nat_tests)

pub returns-then-place-end : goal.returns-then-place-end
returns-then-place-end c = grind (arith, common_steps, none-below, absent, found)

pub returns : goal.returns
returns c = search (arith, found (goal.at.returns c).After-search-place, get_or_default_zero, in-numbers, before)
