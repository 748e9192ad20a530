-- The hits of a run, interval by interval.
use Rattle.std.specs.Prelude.{◌≡◌, ◌≢◌, ℕ, List, [], ◌∷◌, take, drop, count_by}
use Rattle.engine_base.specs.declared.outcome.Outcome.{Outcome}
use Rattle.engine_base.specs.Stats.{is_hit}

-- The numbers are the hits of each `every` outcomes, in order; after the last interval, which may be shorter, no
-- outcome is left.
abbrev pub AreHitsByInterval : ℕ → List Outcome → List ℕ → Type 0
AreHitsByInterval every outcomes [] = outcomes ≡ []
AreHitsByInterval every outcomes (hits ∷ later) = (outcomes ≢ []) × (hits ≡ count_by is_hit (take every outcomes))
    × AreHitsByInterval every (drop every outcomes) later
