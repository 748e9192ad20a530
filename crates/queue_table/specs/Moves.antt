-- The plan of an access: what it moves between numbered queues, in its order, and the queues after it.
use Rattle.std.specs.Prelude.{ℕ, zero, suc, ◌-◌, ◌<◌, nat_lt, Bool, if◌then◌else◌, Option, Some, None, List, [], ◌∷◌}
pub use Rattle.engine_base.specs.declared.outcome.Outcome.{Outcome}
use Rattle.engine_base.specs.declared.outcome.Outcome.TheVariants.{Hit, Kept, Evicted}
pub use Rattle.queue_table.specs.declared.records.Entry.{Entry}
use Rattle.queue_table.specs.Entries.{Item, is_same_item, entry, oldest_of}
use Rattle.queue_table.specs.Queues.{QUEUES, Queues, queue_holding, after_removal, after_send, after_count}
pub use Rattle.queue_table.specs.declared.moves.Run.{Run}

-- a key as an item: these queues count no additions
abbrev pub item_of : ℕ → Item
item_of k = record { key = k; node = 0 }

-- ---- where a key stands

abbrev pub count_of : Item → List Entry → ℕ
count_of i [] = 0
count_of i (e ∷ l) = if is_same_item i e.item then e.count else count_of i l

abbrev pub standing_at : Item → Option ℕ → Queues → Option (ℕ × ℕ)
standing_at i None s = None
standing_at i (Some q) s = Some (q, count_of i (s q))

-- the queue in which the item stands, and the count beside it
abbrev pub standing : Item → Queues → Option (ℕ × ℕ)
standing i s = standing_at i (queue_holding i s) s

-- ---- a plan

abbrev pub run : ℕ → ℕ → ℕ → ℕ → Run
run from to less times = record { times = times; from = from; to = to; less = less }

abbrev pub no_run : Run
no_run = run 0 0 0 0

-- The oldest of a queue leaves it: for the recent end of the queue `to.0`, with the count `to.1`, or for good.
pub record Leaving : Type 0 where
  pub from : ℕ
  pub to : Option (ℕ × ℕ)

abbrev pub leaving : ℕ → Option (ℕ × ℕ) → Option Leaving
leaving q to = Some record { from = q; to = to }

-- what becomes of the accessed key
pub data Own : Type 0 where
  stays : Own
  -- its count becomes this one, where it stands
  counts : ℕ → Own
  -- it goes to the recent end of the queue, with the count: from where it stands, or from nowhere
  goes : ℕ → ℕ → Own

-- an access: whether it is a hit, two runs, two keys that leave their queues, the accessed key, and the policy's own
-- number after it
pub record Plan : Type 0 where
  pub hits : Bool
  pub early : Run
  pub late : Run
  pub first : Option Leaving
  pub second : Option Leaving
  pub own : Own
  pub own_number : ℕ

-- a plan that only moves the accessed key
abbrev pub own_plan : Bool → Own → ℕ → Plan
own_plan hits own own_number =
    record { hits = hits; early = no_run; late = no_run; first = None; second = None; own = own; own_number = own_number }

-- ---- the queues after it

abbrev pub turned : ℕ → ℕ → Option Entry → Queues → Queues
turned to less None s = s
turned to less (Some e) s = after_send (entry e.item (e.count - less)) to s

-- the oldest of `from` goes to the recent end of `to`, with its count lowered
abbrev pub after_turn : ℕ → ℕ → ℕ → Queues → Queues
after_turn from to less s = turned to less (oldest_of (s from)) s

abbrev pub after_turns : ℕ → ℕ → ℕ → ℕ → Queues → Queues
after_turns zero from to less s = s
after_turns (suc n) from to less s = after_turns n from to less (after_turn from to less s)

abbrev pub after_run : Run → Queues → Queues
after_run r s = after_turns r.times r.from r.to r.less s

abbrev pub count_or : ℕ → Option Entry → ℕ
count_or n None = n
count_or n (Some e) = e.count

-- how often the oldest of `from` turns while its count is at least `least` (1 or more), where it may n times
abbrev pub turns_due : ℕ → ℕ → ℕ → ℕ → ℕ → Queues → ℕ
turns_due zero from to less least s = 0
turns_due (suc n) from to less least s =
    if nat_lt (count_or 0 (oldest_of (s from))) least
    then 0
    else suc (turns_due n from to less least (after_turn from to less s))

abbrev pub departed : Option (ℕ × ℕ) → Option Entry → Queues → Queues
departed to None s = s
departed None (Some e) s = after_removal e.item s
departed (Some p) (Some e) s = after_send (entry e.item p.1) p.0 s

abbrev pub after_leaving : Option Leaving → Queues → Queues
after_leaving None s = s
after_leaving (Some l) s = departed l.to (oldest_of (s l.from)) s

abbrev pub after_own : Own → Item → Queues → Queues
after_own stays i s = s
after_own (counts n) i s = after_count i n s
after_own (goes q n) i s = after_send (entry i n) q s

abbrev pub after_runs : Plan → Queues → Queues
after_runs p s = after_run p.late (after_run p.early s)

abbrev pub after_first : Plan → Queues → Queues
after_first p s = after_leaving p.first (after_runs p s)

abbrev pub after_second : Plan → Queues → Queues
after_second p s = after_leaving p.second (after_first p s)

-- an access to the item i by the plan
abbrev pub after_all : Plan → Item → Queues → Queues
after_all p i s = after_own p.own i (after_second p s)

-- ---- its outcome

abbrev pub evicted : Option Entry → Outcome
evicted None = Kept
evicted (Some e) = Evicted e.item.key

abbrev pub outcome_after : Option Leaving → Queues → Outcome
outcome_after None s = Kept
outcome_after (Some l) s = evicted (oldest_of (s l.from))

-- a miss evicts the key that leaves first
abbrev pub outcome_of : Plan → Queues → Outcome
outcome_of p s = if p.hits then Hit else outcome_after p.first (after_runs p s)

-- ---- which queues a plan names

abbrev pub IsLowRun : Run → Type 0
IsLowRun r = (r.from < QUEUES) × (r.to < QUEUES)

abbrev pub IsLowTarget : Option (ℕ × ℕ) → Type 0
IsLowTarget None = Unit {0}
IsLowTarget (Some p) = p.0 < QUEUES

abbrev pub IsLowLeaving : Option Leaving → Type 0
IsLowLeaving None = Unit {0}
IsLowLeaving (Some l) = (l.from < QUEUES) × IsLowTarget l.to

abbrev pub IsLowOwn : Own → Type 0
IsLowOwn stays = Unit {0}
IsLowOwn (counts n) = Unit {0}
IsLowOwn (goes q n) = q < QUEUES

-- they are queues of a table
pub record IsLowPlan (p : Plan) : Type 0 where
  pub early : IsLowRun p.early
  pub late : IsLowRun p.late
  pub first : IsLowLeaving p.first
  pub second : IsLowLeaving p.second
  pub own : IsLowOwn p.own
