-- The window of a policy over a trace once the first accesses are made: by the policy's definition.
use Rattle.std.specs.Prelude.{ℕ, List, ◌++◌, codes, take}
pub use Rattle.step_record.specs.declared.job.Job.{Job}
use Rattle.engine_base.specs.Machine.{after}
use Rattle.queue_cache.specs.AdaptiveCache.{Config}
use Rattle.queue_cache.specs.AdaptiveWindow.{AdaptiveState}
use Rattle.streams.specs.Texts.{count_text}
use Rattle.policies.specs.declared.any_policy.AnyPolicy.{AnyPolicy}
use Rattle.policies.specs.declared.any_policy.AnyPolicy.TheVariants as cache
use Rattle.queue_cache.specs.declared.design.Layout.{Layout}
use Rattle.queue_cache.specs.declared.design.Layout.TheVariants.{OneQueue, TwoQueues, ThreeQueues}
use Rattle.queue_cache.specs.Design.{rules_by}
use Rattle.policies.specs.declared.design.Design.TheVariants.{KnowsTrace, Queues, Demand, Adaptive}
use Rattle.policies.specs.Design.{design_of}
use Rattle.policies.specs.declared.design.Design.{Design}
use Rattle.policies.specs.AnyPolicy.{adaptive_engine}
use Rattle.debug_policies.specs.OnePolicy.{policy_line}
pub use Rattle.debug_policies.specs.declared.window.Window.{Window}
use Rattle.debug_policies.specs.declared.window.Window.TheVariants.{Absent, Fixed, Moving}

-- ---- by the definitions

abbrev pub window_of_layout : Layout → ℕ → Window
window_of_layout OneQueue size = Absent
window_of_layout TwoQueues size = Absent
window_of_layout ThreeQueues size = Fixed size

-- of the policies that never move it
abbrev pub fixed_window : Design → Config → Window
fixed_window (Queues d) c = window_of_layout d.layout (rules_by d.layout c).window
fixed_window KnowsTrace c = Absent
fixed_window (Demand p) c = Absent
fixed_window Adaptive c = Absent

abbrev pub moving_window : AdaptiveState → Window
moving_window w = Moving w.size w.climber.target

abbrev pub window_by : Design → Job → List ℕ → Window
window_by (Queues d) j keys = fixed_window (Queues d) j.config
window_by KnowsTrace j keys = fixed_window KnowsTrace j.config
window_by (Demand p) j keys = fixed_window (Demand p) j.config
window_by Adaptive j keys = moving_window (after (adaptive_engine j) keys).window

-- after the first n accesses
abbrev pub window_at : Job → List ℕ → ℕ → Window
window_at j trace n = window_by (design_of j) j (take n trace)

-- what a cache shows of it
abbrev pub window_in : AnyPolicy → Job → Window
window_in (cache.Queues d) j = fixed_window (design_of j) j.config
window_in (cache.Optimal d) j = fixed_window (design_of j) j.config
window_in (cache.Demand d) j = fixed_window (design_of j) j.config
window_in (cache.Adaptive d) j = moving_window d.window

-- ---- the text

abbrev pub window_text : Window → List ℕ
window_text Absent = codes " window none\n"
window_text (Fixed size) = count_text (codes " window ") size ++ codes "\n"
window_text (Moving size target) =
    count_text (codes " window ") size ++ (count_text (codes " target ") target ++ codes "\n")

abbrev pub window_line : List ℕ → Job → List ℕ → ℕ → List ℕ
window_line label j trace n = policy_line label j (window_text (window_at j trace n))
