-- The keys that leave their queues at a miss, and the accessed key that moves then.
use Rattle.std.specs.Prelude.{ℕ, ◌+◌, ◌≤◌, nat_lt, ◌||◌, Bool, if◌then◌else◌, Option, Some, None, length}
use Rattle.queue_table.specs.Queues.{Item, Queues}
use Rattle.queue_table.specs.declared.moves.KeyMove.{KeyMove}
use Rattle.queue_table.specs.Moves.{Leaving, leaving, after_leaving, Own}
use Rattle.queue_table.specs.Undoing.{outs, IsLeft, IsOwn}
use Rattle.policy_pages.specs.declared.accesses.LeftKeys.{LeftKeys}

-- in turn
pub record Leavers : Type 0 where
  pub first : Option Leaving
  pub second : Option Leaving

abbrev pub no_leavers : Leavers
no_leavers = record { first = None; second = None }

abbrev pub one_leaver : Option Leaving → Leavers
one_leaver l = record { first = l; second = None }

abbrev pub after_leavers : Leavers → Queues → Queues
after_leavers l s = after_leaving l.second (after_leaving l.first s)

-- The oldest of the queue `from` leaves for a ghost, which forgets its oldest where it is over its size. The accessed
-- key leaves the ghost where that remembers it.
abbrev pub leavers_for_ghost : ℕ → ℕ → ℕ → Bool → Queues → Leavers
leavers_for_ghost from ghost size remembered s = record {
  first = leaving from (Some (ghost, 0));
  second = if remembered || nat_lt (length (s ghost)) size then None else leaving ghost None;
}

-- they left, which took the queues from s to u, and these are their records; one at most is out
pub record AreLeft (l : Leavers) (s u : Queues) (r : LeftKeys) : Type 0 where
  pub between : Queues
  pub first : IsLeft l.first s between r.first
  pub second : IsLeft l.second between u r.second
  pub few : outs r.first.by + outs r.second.by ≤ 1

-- they left, and then the accessed key moved
pub record IsEntered (l : Leavers) (o : Own) (i : Item) (s u : Queues) (r : LeftKeys) (move : KeyMove) : Type 0 where
  pub between : Queues
  pub left : AreLeft l s between r
  pub own : IsOwn o i between u move
