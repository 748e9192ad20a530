-- The rows of intervals with the queues of a policy: the row of each interval once a queue, in the order of the queues, and
-- behind it what the queue holds once the interval's last access is made, and how many keys left it over the interval.
use Rattle.std.specs.Prelude.{ℕ, zero, suc, ◌+◌, ◌-◌, nat_lt, Bool, false, if◌then◌else◌, Option, Some, None, is_some}
use Rattle.std.specs.Prelude.{List, [], ◌∷◌, ◌++◌, codes, length, get_or}
use Rattle.std.specs.Option.{option_map_or}
use Rattle.std.specs.List.{count_by, flat_map, list_any}
use Rattle.std.specs.Fmt.{decimal}
use Rattle.std.specs.Str.{bytes_eq}
use Rattle.engine_base.specs.Stats.{one_if}
use Rattle.engine_base.specs.declared.outcome.Outcome.TheVariants.{Kept}
use Rattle.segments.specs.declared.named_queue.QueueKey.{QueueKey}
use Rattle.segments.specs.KeyRow.{is_number, row_left}
use Rattle.policies.specs.AnyPolicy.{outcomes_on}
use Rattle.report.specs.IntervalText.{interval_fields}
use Rattle.report.specs.Text.{line_text}
pub use Rattle.sweeps.specs.Intervals.{Interval, Job, intervals_on}
use Rattle.policy_comparison.specs.QueuesAt.{NamedQueueData, queues_at}

abbrev pub queues_header : List ℕ
queues_header = codes "policy,capacity,first,last,hits,misses,evictions,rejections,rate,queue,held,marked,left\n"

-- the policy keeps a number beside the key, a bit or a count
abbrev pub is_numbered : QueueKey → Bool
is_numbered k = is_some k.number

-- and it is above 0
abbrev pub is_marked : QueueKey → Bool
is_marked k = option_map_or (nat_lt 0) k.number false

-- how many of the keys are marked, where there are numbers beside them
abbrev pub marked_in : List QueueKey → Option ℕ
marked_in keys = if list_any is_numbered keys then Some (count_by is_marked keys) else None

-- a number, or nothing
abbrev pub cell : Option ℕ → List ℕ
cell None = []
cell (Some n) = decimal n

-- the first of the keys
abbrev pub first_key : List QueueKey → ℕ
first_key [] = 0
first_key (k ∷ ks) = k.key

-- how many keys the queue holds; of a target, which stands among the queues of ARC and CAR, the size that it is
abbrev pub held_in : NamedQueueData → ℕ
held_in q = if bytes_eq q.name (codes "target") then first_key q.keys else length q.keys

-- ---- how many keys left a queue

-- a key leaves this row of the queues by access n of the trace, counted from 0
abbrev pub is_left_by : Job → List ℕ → ℕ → ℕ → Bool
is_left_by job trace row n = is_number row (row_left (get_or (outcomes_on job trace) n Kept) (queues_at job trace n))

-- how many keys leave it by so many accesses, of which the first is access `from`
abbrev pub left_from : Job → List ℕ → ℕ → ℕ → ℕ → ℕ
left_from job trace row from zero = 0
left_from job trace row from (suc n) = left_from job trace row from n + one_if (is_left_by job trace row (from + n))

-- over the interval, whose accesses are counted from 1
abbrev pub left_in : Job → List ℕ → Interval → ℕ → ℕ
left_in job trace i row = left_from job trace row (i.first - 1) (i.last - (i.first - 1))

-- ---- the rows

-- the queue's name, how many keys it holds, how many of these are marked, and how many left it
abbrev pub queue_fields : NamedQueueData → ℕ → List (List ℕ)
queue_fields q left = q.name ∷ decimal (held_in q) ∷ cell (marked_in q.keys) ∷ decimal left ∷ []

unfoldable pub queue_row : Interval → NamedQueueData → ℕ → List ℕ
queue_row i q left = line_text (interval_fields i ++ queue_fields q left)

-- the rows of queues, of which the first has this number, where so many keys left the queue of each number
abbrev pub rows_from : Interval → (ℕ → ℕ) → ℕ → List NamedQueueData → List ℕ
rows_from i left n [] = []
rows_from i left n (q ∷ queues) = queue_row i q (left n) ++ rows_from i left (suc n) queues

-- the rows of an interval, one for each queue
unfoldable pub queue_rows : Job → List ℕ → Interval → List ℕ
queue_rows job trace i = rows_from i (left_in job trace i) 0 (queues_at job trace i.last)

-- those of each interval
unfoldable pub queue_rows_on : ℕ → Job → List ℕ → List ℕ
queue_rows_on every job trace = flat_map (queue_rows job trace) (intervals_on job every trace)

-- the header, all rows of the first job, then those of the second, and so on
abbrev pub queues_text : ℕ → List Job → List ℕ → List ℕ
queues_text every jobs trace = queues_header ++ flat_map (λ job. queue_rows_on every job trace) jobs
