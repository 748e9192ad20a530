use Rattle.std.proofs.Common.{◌≡◌, ℕ}
use Rattle.engine_base.specs.Stats.{one_if}
use Rattle.clairvoyant.specs.Belady.{belady_residents}
use Rattle.clairvoyant.proofs.Listing.{times, is_listed}
use Rattle.clairvoyant.proofs.clairvoyant.Clairvoyant.residents.Given as goal

abbrev pub invariant-loop-rank : goal.invariant-loop-rank
invariant-loop-rank l = record {
  all : (k : ℕ) → times k l.keys.items ≡ one_if (is_listed l.self-inside.core.uses l.self-inside.stats.accesses (belady_residents l.self-inside.core.capacity l.self-inside.core.uses l.self-inside.stats.accesses) l.rank k);
}
