use Rattle.std.proofs.lemmas.Bool.Decides.{nat_tests}
use Rattle.std.proofs.Common.{◌≡◌, ℕ, ◌+◌, ◌≤◌, refl, arith, replicate, rules}
use Rattle.std.proofs.lemmas.List.{length-replicate}
use Rattle.trace_index.proofs.KeyCells.{none-below, zeros, cells-empty}
use Rattle.trace_index.proofs.key_cells.KeyCells.larger.Goals as goal

pub returns-clause-empty : goal.returns-clause-empty
returns-clause-empty c k = grind (arith, nat_tests, none-below, zeros)

pub returns-clause-len : goal.returns-clause-len
returns-clause-len c = grind (arith, nat_tests, length-replicate {A = ℕ} (c.max-homes.result + 1024) 0)

pub invariant_of-result : goal.invariant_of-result
invariant_of-result c =
    let keys : c.in_ok-vec.field-0.items ≡ replicate (c.max-homes.result + 1024) 0 = search rules in
    let numbers : c.in_ok-vec-2.field-0.items ≡ replicate (c.max-homes.result + 1024) 0 = search rules in
    let few : c.max-homes.result ≤ 2386092940 = omega arith in
    cells-empty _ _ _ _ keys numbers refl few
