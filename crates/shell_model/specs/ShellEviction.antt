-- An eviction of the maintenance in its own words.
use Rattle.std.specs.Prelude.{◌≡◌, nat_lt, Bool, true, false, Some}
use Rattle.engine_base.specs.declared.step.Reply.TheVariants as reply
use Rattle.segments.specs.declared.records.Queue.TheVariants.{Probation}
use Rattle.segments.specs.Items.{Item, is_same_item, oldest_of}
use Rattle.segments.specs.Queues.{queues_without, queues_after_move, total_items}
use Rattle.shell_model.specs.Frequency.{admits}
use Rattle.shell_model.specs.Shell.{Reply, Shell, unlisted, is_over, evict_effect}

-- the item goes to probation's recent end
abbrev pub shift_effect : Item → Shell → Shell
shift_effect i x = record x { queues = queues_after_move i Probation x.queues }

-- the item leaves the queues, and the table where it is listed there
abbrev pub leave : Item → Shell → Shell
leave i x = record x { queues = queues_without i x.queues; table = unlisted i x.table }

-- the window is over its size, and c is its oldest item
pub record IsCandidate (c : Item) (x : Shell) : Type 0 where
  pub over : is_over x ≡ true
  pub oldest : oldest_of x.queues.window ≡ Some c

abbrev pub is_too_much : Shell → Bool
is_too_much x = nat_lt x.config.capacity (total_items x.queues)

-- the queues hold more than the capacity, and v is probation's oldest item
pub record IsVictim (v : Item) (x : Shell) : Type 0 where
  pub over : is_too_much x ≡ true
  pub oldest : oldest_of x.queues.probation ≡ Some v

-- What an eviction makes of the state, one case for each reply. The candidate stands in probation when it is compared
-- with the victim.
pub data Evicts (x : Shell) : Reply → Shell → Type 0 where
  fits : is_over x ≡ false → Evicts x reply.Fits x
  shifted : (c : Item) → IsCandidate c x → is_too_much (shift_effect c x) ≡ false
      → Evicts x (reply.Shifted c) (shift_effect c x)
  evicted : (c v : Item) → IsCandidate c x → IsVictim v (shift_effect c x) → is_same_item c v ≡ false
      → admits x.frequency c.key v.key ≡ true → Evicts x (reply.Evicted v) (leave v (shift_effect c x))
  rejected : (c v : Item) → IsCandidate c x → IsVictim v (shift_effect c x)
      → (is_same_item c v ≡ false → admits x.frequency c.key v.key ≡ false)
      → Evicts x (reply.Rejected c) (leave c (shift_effect c x))

abbrev pub EvictionsByReply : Type 0
EvictionsByReply = (x : Shell) → Evicts x (evict_effect x).0 (evict_effect x).1
