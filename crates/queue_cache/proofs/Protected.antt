-- Protected stays within its size in an access by the table of moves.
use Rattle.std.proofs.Common.{◌≡◌, ℕ, ◌+◌, ◌-◌, ◌<◌, ◌≤◌, Bool, Option, Some, None, List, length, refl, arith, length-append}
use Rattle.std.proofs.lemmas.Bool.Decides.{nat_tests}
use Rattle.segments.specs.declared.records.Queue.{Queue}
use Rattle.segments.specs.declared.records.Queue.TheVariants.{Probation}
use Rattle.segments.specs.Items.{Item, items_without, oldest_of}
use Rattle.segments.specs.Queues.{Queues, queue_holding, IsDistinct}
use Rattle.segments.proofs.QueueLists.{length-without, Stands, stands, first-stands}
use Rattle.replacement.specs.Table.{with_recent, queues_after_demotion, trial_of, eviction, access_in, access}
use Rattle.replacement.proofs.Planned.{access-at}
use Rattle.queue_cache.specs.AdaptiveWindow.{ClimbRules, Rules, rules_at}

shorter : (x : Item) (l : List Item) → length (items_without x l) ≤ length l
shorter x l = omega (arith, length-without x l)

pub none-there : (l : List Item) → oldest_of l ≡ None → length l ≡ 0
none-there v h = grind (arith, nat_tests)

-- its oldest left it
pub one-less : (x : Item) (l : List Item) → oldest_of l ≡ Some x → length (items_without x l) + 1 ≤ length l
one-less x l h = let there = first-stands x l h in omega (arith, there, length-without x l)

tried : (r : Rules) (admits : ℕ → ℕ → Bool) (o : Option Item) (s : Queues) → length (trial_of r admits o s).queues.protected ≤ length s.protected
tried r admits v s = grind (arith, nat_tests, shorter)

evicted : (r : Rules) (admits : ℕ → ℕ → Bool) (s : Queues) → length (eviction r admits s).queues.protected ≤ length s.protected
evicted r admits s = grind (arith, nat_tests, tried)

demoted : (size : ℕ) (s : Queues) → length s.protected ≤ size + 1 → length (queues_after_demotion size s).protected ≤ size
demoted size s few =
    grind (arith, nat_tests, over)
  where
    over : size < length s.protected → (o : Option Item) → oldest_of s.protected ≡ o → length (with_recent o Probation s).protected ≤ size
    over more None h = let none = none-there s.protected h in absurd (omega (arith, none, more))
    over more (Some x) h = let less = one-less x s.protected h in omega (arith, less, few)

module _ (r : ClimbRules) (size : ℕ) (admits : ℕ → ℕ → Bool) (i : Item) (s : Queues) (few : length s.protected ≤ r.largest - size) where
  stays-at : (p : Option Queue) → Stands i s p → length (access_in (rules_at r size) admits i p s).queues.protected ≤ (r.largest - size)
  stays-at p v = grind (arith, nat_tests, shorter, demoted, length-append, length-without, evicted)

  pub stays : IsDistinct s → length (access (rules_at r size) admits i s).queues.protected ≤ (r.largest - size)
  stays d = rw (access-at (rules_at r size) admits i s (queue_holding i s) refl) (stays-at (queue_holding i s) (stands i s d))
