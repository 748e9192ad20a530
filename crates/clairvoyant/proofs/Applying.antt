-- A step of the engine, from what serving the access left.
use Rattle.std.proofs.lemmas.Bool.Decides.{nat_tests}
use Rattle.std.proofs.Common.{◌≡◌, ℕ, suc, ◌<◌, Some, Bool, List, length, get_or, ap, ◌∙◌, arith, add-one}
use Rattle.engine_base.specs.Stats.{stats_with}
use Rattle.clairvoyant.specs.declared.optimal_record.OptimalRecord.{OptimalRecord}
use Rattle.clairvoyant.specs.Belady.{Outcome, belady_residents}
use Rattle.clairvoyant.specs.RankSet.{IsTied}
use Rattle.clairvoyant.specs.Clairvoyant.{Stats, ClairvoyantState, IsBeladyReached, clairvoyant_act}
use Rattle.clairvoyant.specs.OptimalRecord.{record_at, outcome_of, clairvoyant_undone}
use Rattle.clairvoyant.specs.Representation.{shown, IsRepresented}
use Rattle.clairvoyant.proofs.Records.{outcome-is, keys-back}
use Rattle.clairvoyant.proofs.Reached.{act-next}
use Rattle.engine_base.proofs.Counting.{stats-snoc}

-- an access that the record d is of, from the counts s to the counts u
module _ (c : ℕ) (t : List ℕ) (s u : Stats) (d : OptimalRecord) (lt : s.accesses < length t) (r : IsBeladyReached (shown c t s)) (last : d ≡ record_at c t s.accesses) (more : u ≡ stats_with (outcome_of d) s) where
  up : u.accesses ≡ suc s.accesses
  up = ap (λ x. x.accesses) more ∙ add-one s.accesses

  pub next-keeping : (h : List Bool) → IsTied t (suc s.accesses) (belady_residents c t (suc s.accesses)) h → IsRepresented c t u h
  next-keeping h tied = grind (arith, nat_tests, outcome-is, stats-snoc, add-one, up)

  pub next-accepted : (k : ℕ) (o : Outcome) (e : ClairvoyantState) → shown c t s ≡ e → k ≡ get_or t s.accesses 0 → o ≡ outcome_of d → clairvoyant_act e k ≡ Some (o, shown c t u)
  next-accepted k o e is same answer =
      grind (arith, nat_tests, act-next c t s k o lt (omega (arith, r.short)) same (answer ∙ (ap outcome_of last ∙ outcome-is c t s.accesses)), outcome-is)

  pub next-undone : clairvoyant_undone d (shown c t u) ≡ shown c t s
  next-undone = grind (arith, nat_tests, up, keys-back c t s.accesses)
