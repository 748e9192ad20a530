-- A step back of the engine, from a record that fits.
use Rattle.std.proofs.lemmas.Bool.Decides.{nat_tests}
use Rattle.std.proofs.Common.{◌≡◌, ℕ, suc, List, ap, arith, ◌-◌, Bool, ◌∙◌, sym, subst}
use Rattle.engine_base.specs.Stats.{stats_with, IsCounted, stats_of, stats_without}
use Rattle.engine_base.proofs.Counting.{stats-snoc}
use Rattle.clairvoyant.specs.Belady.{belady_residents, belady_outcomes}
use Rattle.clairvoyant.specs.Clairvoyant.{Stats, IsBeladyReached, ClairvoyantState}
use Rattle.clairvoyant.specs.Representation.{shown, IsRepresented}
use Rattle.clairvoyant.specs.RankSet.{IsTied}
use Rattle.clairvoyant.specs.OptimalRecord.{OptimalRecord, outcome_of, clairvoyant_undone, ClairvoyantFits}
use Rattle.clairvoyant.proofs.Records.{outcome-is}
use Rattle.clairvoyant.proofs.Reached.{is-counted}
use Rattle.clairvoyant.proofs.Applying.{next-undone}

module _ (c : ℕ) (t : List ℕ) (s : Stats) (r : OptimalRecord) (d : ClairvoyantState) (view : shown c t s ≡ d) (reached : IsBeladyReached (shown c t s)) (fits : ClairvoyantFits r d) where
  -- the counts before the access
  abbrev past : Stats
  past = stats_of (belady_outcomes c t (s.accesses - 1))

  pub fitting : ClairvoyantFits r (shown c t s)
  fitting = subst (ClairvoyantFits r) (sym view) fits

  pub up : s.accesses ≡ suc (s.accesses - 1)
  up = omega (arith, fitting.applied)

  now : s ≡ stats_with (outcome_of r) past
  now = grind (arith, nat_tests, up, stats-snoc, outcome-is)

  pub back-counted : IsCounted (outcome_of r) s
  back-counted = subst (IsCounted (outcome_of r)) (sym now) (is-counted (outcome_of r) past)

  module _ (u : Stats) (is : u ≡ stats_without (outcome_of r) s) where
    same : u ≡ past
    same = is ∙ ap (stats_without (outcome_of r)) now ∙ (grind (arith, nat_tests))

    pub back-shown : shown c t u ≡ clairvoyant_undone r d
    back-shown = grind (arith, nat_tests, same, next-undone, up, now)

    pub back-keeping : (h : List Bool) → IsTied t (s.accesses - 1) (belady_residents c t (s.accesses - 1)) h → IsRepresented c t u h
    back-keeping h tied = grind (arith, nat_tests, same)
