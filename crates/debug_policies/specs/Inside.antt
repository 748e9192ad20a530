-- What is printed of the queues of a policy over a trace once the first accesses are made, of the outcome of the last of
-- these, and of what the policy's admission filter takes as a key's frequency: by the policy's definition.
use Rattle.std.specs.Prelude.{ℕ, Option, Some, None, option_map, List, [], ◌++◌, codes, take}
use Rattle.std.specs.List.{flat_map}
use Rattle.admission.specs.Frequency.{estimate}
use Rattle.sketch.specs.Sketch.{least_counter}
use Rattle.engine_base.specs.declared.outcome.Outcome.TheVariants.{Hit, Kept, Evicted, Rejected}
use Rattle.engine_base.specs.Machine.{after}
use Rattle.streams.specs.Texts.{count_text}
use Rattle.segments.specs.NamedQueue.{NamedQueueData}
use Rattle.segments.specs.declared.named_queue.QueueKey.{QueueKey}
use Rattle.policies.specs.AnyPolicy.{adaptive_engine}
use Rattle.policies.specs.Design.{design_of, queue_setup}
use Rattle.policy_comparison.specs.QueuesAt.{queues_at}
use Rattle.policies.specs.declared.design.Design.{Design}
use Rattle.policies.specs.declared.design.Design.TheVariants.{KnowsTrace, Queues, Demand, Adaptive}
use Rattle.queue_cache.specs.QueueCache.{frequency_after}
use Rattle.debug_policies.specs.OnePolicy.{Job, Outcome, outcome_at, policy_line}

-- ---- by the definitions

abbrev pub estimate_by : Design → Job → List ℕ → ℕ → Option ℕ
estimate_by (Queues q) j keys key = option_map (estimate key) (frequency_after (queue_setup q j) keys)
estimate_by KnowsTrace j keys key = None
estimate_by (Demand p) j keys key = None
estimate_by Adaptive j keys key = Some (least_counter key (after (adaptive_engine j) keys).frequency.table)

-- the estimate of a key after the first n accesses, where the policy has an admission filter: by Caffeine's of its
-- counters alone, as it has no doorkeeper
abbrev pub estimate_at : Job → List ℕ → ℕ → ℕ → Option ℕ
estimate_at j trace n key = estimate_by (design_of j) j (take n trace) key

-- ---- the text

abbrev pub number_text : Option ℕ → List ℕ
number_text None = []
number_text (Some n) = count_text (codes ":") n

-- a key, and the number beside it
abbrev pub key_text : QueueKey → List ℕ
key_text k = count_text (codes " ") k.key ++ number_text k.number

abbrev pub queue_text : NamedQueueData → List ℕ
queue_text q = codes " " ++ (q.name ++ (flat_map key_text q.keys ++ codes "\n"))

abbrev pub queue_line : List ℕ → Job → NamedQueueData → List ℕ
queue_line label j q = policy_line label j (queue_text q)

-- a line for each queue
abbrev pub queue_lines : List ℕ → Job → List ℕ → ℕ → List ℕ
queue_lines label j trace n = flat_map (queue_line label j) (queues_at j trace n)

abbrev pub outcome_text : Outcome → List ℕ
outcome_text Hit = codes " hit\n"
outcome_text Kept = codes " kept\n"
outcome_text (Evicted key) = count_text (codes " evicted ") key ++ codes "\n"
outcome_text (Rejected key) = count_text (codes " rejected ") key ++ codes "\n"

-- the outcome of access n
abbrev pub outcome_line : List ℕ → Job → List ℕ → ℕ → List ℕ
outcome_line label j trace n = policy_line label j (outcome_text (outcome_at j trace n))

abbrev pub estimate_text : Option ℕ → List ℕ
estimate_text None = codes " estimate none\n"
estimate_text (Some n) = count_text (codes " estimate ") n ++ codes "\n"

abbrev pub estimate_line : List ℕ → Job → List ℕ → ℕ → ℕ → List ℕ
estimate_line label j trace n key = policy_line label j (estimate_text (estimate_at j trace n key))
