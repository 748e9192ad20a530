-- FIFO: what it keeps.
use Rattle.std.proofs.lemmas.Bool.Decides.{nat_tests}
use Rattle.std.proofs.Common.{ℕ, ◌≤◌, List, [], refl, arith, length-append}
use Rattle.std.proofs.lemmas.Bool.{cond_both}
use Rattle.policy_pages.specs.Residents.{IsAccess, KeepsResidents, AreResidents}
use Rattle.policy_pages.specs.Fifo.{fifo_act}
use Rattle.policy_pages.proofs.Residents.{times-append, hit-stays, miss-joins, access-keeps, none-held}

-- ---- its residents

access : (c k : ℕ) (queue : List ℕ) → 1 ≤ c → IsAccess c k queue (fifo_act c k queue).0 (fifo_act c k queue).1
access c k queue h = grind (arith, nat_tests, cond_both, hit-stays, miss-joins, times-append, length-append)

pub keeps : (c : ℕ) → 1 ≤ c → KeepsResidents c [] (fifo_act c) (λ queue. queue) (AreResidents c)
keeps c h = record {
  starts = (none-held c, refl);
  keeps = λ k queue r. access-keeps c k queue _ _ (access c k queue h) r;
  accesses = λ k queue r. access c k queue h;
  holds = λ queue r. r;
}
