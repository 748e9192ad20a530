-- How an accepted step of the engine counts.
use Rattle.std.specs.Prelude.{◌≡◌, ℕ, ◌+◌, false, nat_lt, Some, None}
use Rattle.std.proofs.Common.{ap, refl}
use Rattle.engine_base.specs.declared.limits.TheConstants.{MAX_STEPS}
use Rattle.engine_base.proofs.Limited.{accepted-where}
use Rattle.clairvoyant.specs.Clairvoyant.{Outcome, ClairvoyantState, clairvoyant_access, clairvoyant_act, is_next}

pub act_counts : (d : ClairvoyantState) (k : ℕ) (o : Outcome) (e : ClairvoyantState) → clairvoyant_act d k ≡ Some (o, e)
    → e.stats.accesses ≡ d.stats.accesses + 1
act_counts d k o e h =
    ap (λ (x : ClairvoyantState). x.stats.accesses) (accepted-where (is_next d k) (clairvoyant_access k d) o e h).next

pub act_ends : (d : ClairvoyantState) (k : ℕ) → d.stats.accesses ≡ MAX_STEPS → clairvoyant_act d k ≡ None
act_ends d k h = let f : nat_lt d.stats.accesses MAX_STEPS ≡ false = rw h refl in rw f refl
