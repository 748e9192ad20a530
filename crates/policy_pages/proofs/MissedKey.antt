-- The key of a miss, while others leave their queues.
use Rattle.std.proofs.lemmas.Bool.Decides.{nat_tests}
use Rattle.std.proofs.Common.{◌≡◌, ℕ, ◌<◌, Option, Some, None, List, sym, subst, arith, Bool, ◌≤◌}
use Rattle.queue_table.specs.Entries.{Item, entry, occurrences}
use Rattle.queue_table.specs.Queues.{QUEUES, queue_holding}
use Rattle.queue_table.proofs.QueueLists.{absent}
use Rattle.queue_table.specs.QueueTable.{queues, spare, HoldsAt}
use Rattle.queue_table.specs.declared.moves.Left.{Left}
use Rattle.queue_table.specs.declared.moves.Run.{Run}
use Rattle.queue_table.specs.declared.records.Entry.{Entry}
use Rattle.queue_table.specs.Moves.{leaving, IsLowLeaving}
use Rattle.queue_table.specs.Undoing.{IsLeft, IsRun}
use Rattle.policy_pages.specs.MissedKey.{Slot, Found, CanEnter, IsOutside}
use Rattle.policy_pages.proofs.Leavers.{absent-left, absent-run, off-run}
use Rattle.policy_pages.proofs.Plans.{still-none}

-- the oldest of a queue that it is not in has left this
pub enters-after-leaver : (found : Option Found) (i : Item) (from : ℕ) (to : Option (ℕ × ℕ)) (old new : List Slot) (r : Left) → IsLowLeaving (leaving from to) → IsLeft (leaving from to) (queues old) (queues new) r
    → spare new ≡ spare old → ((j : ℕ) (e : Entry) → HoldsAt j e old → occurrences e.item (queues old from) ≡ 0 → HoldsAt j e new) → occurrences i (queues old from) ≡ 0 → CanEnter found i old → CanEnter found i new
enters-after-leaver None i from to old new r low left room others off h = search (arith, absent-left)
enters-after-leaver (Some f) i from to old new r low left room others off h = others f.at (entry i f.count) h off

-- keys of a queue that it is not in have turned
pub enters-after-run : (found : Option Found) (i : Item) (r : Run) (from : ℕ) (old new : List Slot) → IsRun r (queues old) (queues new) → spare new ≡ spare old
    → ((j : ℕ) (e : Entry) → HoldsAt j e old → occurrences e.item (queues old from) ≡ 0 → HoldsAt j e new) → occurrences i (queues old from) ≡ 0 → CanEnter found i old → CanEnter found i new
enters-after-run None i r from old new ran room others off h = (absent-run i r (queues old) (queues new) ran h.0, subst (λ n. 1 ≤ n) (sym room) h.1)
enters-after-run (Some f) i r from old new ran room others off h = others f.at (entry i f.count) h off

-- ---- it stands outside

pub new-outside : (r : Bool) (i : Item) (a b g : ℕ) (old new : List Slot) → a < QUEUES → b < QUEUES → g < QUEUES → queues new ≡ queues old → queue_holding i (queues old) ≡ None → 1 ≤ spare new → IsOutside r None i a b g new
new-outside r i a b g old new la lb lg same none room =
    grind (arith, nat_tests, still-none i (queues old) (queues new) same none, absent)

-- once keys of the first of the queues have turned
pub outside-after-run : (r : Bool) (found : Option Found) (i : Item) (run : Run) (a b g : ℕ) (old new : List Slot) → run.from ≡ a → IsRun run (queues old) (queues new) → spare new ≡ spare old
    → ((j : ℕ) (e : Entry) → HoldsAt j e old → occurrences e.item (queues old a) ≡ 0 → HoldsAt j e new) → IsOutside r found i a b g old → IsOutside r found i a b g new
outside-after-run r found i run a b g old new from ran room others h =
    let off : (j : ℕ) → occurrences i (queues old j) ≡ 0 → occurrences i (queues new j) ≡ 0 = λ j. off-run i run a j (queues old) (queues new) from ran.after h.off_one in
    record { enters = enters-after-run found i run a old new ran room others h.off_one h.enters; off_one = off a h.off_one; off_other = off b h.off_other; new = λ f. off g (h.new f) }
