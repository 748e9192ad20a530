use Rattle.std.proofs.lemmas.Bool.Decides.{nat_tests}
use Rattle.std.proofs.Common.{rules, ◌≡◌, ◌<◌, ◌++◌, ◌∷◌, [], ℕ, List, length, ap, sym, ◌∙◌, arith}
use Rattle.std.proofs.Math.ListN.{length-set}
use Rattle.std.proofs.lemmas.List.{get_or_read}
use Rattle.queue_cache.specs.Histogram.{count_at}
use Rattle.queue_cache.proofs.Histories.{counted-last, last-within}
use Rattle.queue_cache.proofs.histogram.count_noted.Goals as goal
use Rattle.queue_cache.proofs.histogram.count_noted.Goals.{In-Some}

same : (c : goal.In-Some) → (q : ℕ) → count_at c.loop-place.counts.items (c.pop.new.self.items ++ c.in-Some.place ∷ []) q ≡ count_at c.args.counts.now.items c.args.noted.now.items q
same c q = ap (λ (l : List ℕ). count_at c.loop-place.counts.items l q) (sym c.in-Some.ensures.items) ∙ c.loop-place.invariant.1 q

within : (c : goal.In-Some) → c.in-Some.place < length c.loop-place.counts.items
within c = last-within c.loop-place.counts.items c.pop.new.self.items c.in-Some.place c.args.counts.now.items c.args.noted.now.items c.requires (same c) c.loop-place.invariant.0

pub index_mut-requires : goal.index_mut-requires
index_mut-requires c = let low = within (goal.at.index_mut-requires c).In-Some in search rules

pub overflow_add-index_mut : goal.overflow_add-index_mut
overflow_add-index_mut c = grind (arith, nat_tests, get_or_read, within, same)

pub loop-place-preserved : goal.loop-place-preserved
loop-place-preserved c = grind (arith, nat_tests, get_or_read, within, length-set, counted-last, same)

pub returns-clause-counts : goal.returns-clause-counts
returns-clause-counts c = grind (arith, nat_tests)
