-- What an accepted step stands for, for callers that see the cache by its steps alone.
use Rattle.std.specs.Prelude.{◌≡◌, ℕ, suc, ◌<◌, ◌≤◌, Some, None, length, slice_index}
use Rattle.engine_base.specs.declared.limits.TheConstants.{MAX_STEPS}
use Rattle.clairvoyant.specs.Belady.{Outcome, belady_outcome}
use Rattle.clairvoyant.specs.Clairvoyant.{ClairvoyantState, clairvoyant_at, clairvoyant_act}

-- For a cache that made the first accesses of its trace, an accepted step is the next of them, answers the outcome
-- that the definition gives at its place, and leaves a cache that made one access more.
abbrev pub ClairvoyantStepLaw : Type 0
ClairvoyantStepLaw = (d : ClairvoyantState) (k : ℕ) (o : Outcome) (e : ClairvoyantState)
    → d ≡ clairvoyant_at d.capacity d.trace d.stats.accesses → clairvoyant_act d k ≡ Some (o, e)
    → (d.stats.accesses < length d.trace) × (k ≡ slice_index d.trace d.stats.accesses)
    × (o ≡ belady_outcome d.capacity d.trace d.stats.accesses)
    × (e ≡ clairvoyant_at d.capacity d.trace (suc d.stats.accesses))

-- A cache that made fewer than all accesses of its trace accepts the next of them, of as many as an engine counts.
abbrev pub ClairvoyantAccepts : Type 0
ClairvoyantAccepts = (d : ClairvoyantState) → d.stats.accesses < length d.trace → length d.trace ≤ MAX_STEPS
    → clairvoyant_act d (slice_index d.trace d.stats.accesses) ≡ None → ⊥
