-- Nodes aside: what a policy, which keeps one item a key, sees of the concurrent cache's items.
use Rattle.std.specs.Prelude.{◌≡◌, ℕ, ◌≤◌, Bool, Option, Some, None, List, map}
use Rattle.segments.specs.Queues.{Queues, IsDistinct}
pub use Rattle.replacement.specs.declared.rules.Rules.{Rules}
use Rattle.replacement.specs.Table.{Item, Response, access}
use Rattle.replacement.specs.Counts.{queue_occurrences}

-- the item as a policy has it
abbrev pub nodeless : Item → Item
nodeless i = record { key = i.key; node = 0 }

abbrev pub nodeless_list : List Item → List Item
nodeless_list l = map nodeless l

abbrev pub nodeless_queues : Queues → Queues
nodeless_queues q = record {
  window = nodeless_list q.window;
  probation = nodeless_list q.probation;
  protected = nodeless_list q.protected;
}

abbrev pub nodeless_option : Option Item → Option Item
nodeless_option None = None
nodeless_option (Some i) = Some (nodeless i)

abbrev pub nodeless_response : Response → Response
nodeless_response r = record {
  outcome = r.outcome;
  left = nodeless_option r.left;
  queues = nodeless_queues r.queues;
}

-- no other item of its key is queued
abbrev pub IsOnly : Item → Queues → Type 0
IsOnly i q = (j : Item) → 1 ≤ queue_occurrences j q → i.key ≡ j.key → i ≡ j

-- no two items of one key are queued
abbrev pub HasKeysOnce : Queues → Type 0
HasKeysOnce q = (i : Item) → 1 ≤ queue_occurrences i q → IsOnly i q

-- where each key has one item, an access over the keys alone comes to what it comes to over the items
abbrev pub AccessesAgree : Type 0
AccessesAgree = (r : Rules) (admits : ℕ → ℕ → Bool) (i : Item) (q : Queues) → IsDistinct q → HasKeysOnce q → IsOnly i q
    → access r admits (nodeless i) (nodeless_queues q) ≡ nodeless_response (access r admits i q)
