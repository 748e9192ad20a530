-- What ties a cache's fields to the definition.
use Rattle.std.specs.Prelude.{ℕ, List, Bool}
use Rattle.clairvoyant.specs.Belady.{belady_residents}
use Rattle.clairvoyant.specs.RankSet.{IsTied}
use Rattle.clairvoyant.specs.Clairvoyant.{Stats, ClairvoyantState, IsBeladyReached}

-- the residents are those that the definition gives at the place that the count of accesses names
abbrev pub shown : ℕ → List ℕ → Stats → ClairvoyantState
shown c t s = record { trace = t; capacity = c; residents = belady_residents c t s.accesses; stats = s }

pub record IsRepresented (c : ℕ) (t : List ℕ) (s : Stats) (h : List Bool) : Type 0 where
  pub reached : IsBeladyReached (shown c t s)
  pub tied : IsTied t s.accesses (belady_residents c t s.accesses) h
