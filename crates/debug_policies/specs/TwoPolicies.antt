-- Two policies over a trace, as the debugger walks them. (Its breakpoints and texts are defined by this project.)
use Rattle.std.specs.Prelude.{◌≡◌, ◌≤◌, ℕ, ◌+◌, ◌-◌, ◌==◌, Bool, false, not, ◌||◌, nat_lt, if◌then◌else◌, Option, Some}
use Rattle.std.specs.Prelude.{None, List, [], ◌∷◌, ◌++◌, codes, length, slice_index}
use Rattle.engine_base.specs.declared.outcome.Outcome.TheVariants.{Hit, Kept, Evicted, Rejected}
use Rattle.engine_base.specs.Stats.{is_hit}
use Rattle.policies.specs.AnyPolicy.{Outcome, Job, outcomes_on}
use Rattle.debug_commands.specs.Timeline.{TimelineData}
use Rattle.debug_commands.specs.declared.breakpoint.StepFacts.{StepFacts}
use Rattle.streams.specs.Texts.{count_text}
use Rattle.debug_commands.specs.declared.command.Dialect.TheVariants.{Policies}
use Rattle.debug_commands.specs.declared.command.View.{View}
use Rattle.debug_commands.specs.declared.command.View.TheVariants.{Window, Queues, Last, Estimate}
use Rattle.debug_policies.specs.OnePolicy.{age_at, outcome_at, policy_lines, OnePolicyState}
use Rattle.policy_comparison.specs.Part.{part_line}
use Rattle.debug_policies.specs.Window.{window_line}
use Rattle.debug_policies.specs.Inside.{estimate_line, outcome_line, queue_lines}

-- ---- what breakpoints look at

abbrev pub left_on_access : Outcome → Option ℕ
left_on_access Hit = None
left_on_access Kept = None
left_on_access (Evicted key) = Some key
left_on_access (Rejected key) = Some key

abbrev pub just_one : Bool → Bool → Bool
just_one a b = if a then not b else b

-- the facts of an access to a key, with the outcomes of both policies, and whether their sketches were halved
abbrev pub access_facts : ℕ → Outcome → Outcome → Bool → Bool → StepFacts
access_facts key a b a_halved b_halved = record {
  hit = if is_hit a || is_hit b then Some key else None;
  evicted = left_on_access a;
  evicted_too = left_on_access b;
  halved = a_halved || b_halved;
  parted = just_one (is_hit a) (is_hit b);
  dropped = false;
}

-- a sketch is halved where its age falls
abbrev pub halves_on_access : Job → List ℕ → ℕ → Bool
halves_on_access j trace n = nat_lt (age_at j trace n) (age_at j trace (n - 1))

abbrev pub facts_at : List ℕ → Job → Job → ℕ → StepFacts
facts_at trace first second n =
    access_facts (slice_index trace (n - 1)) (outcome_at first trace n) (outcome_at second trace n)
    (halves_on_access first trace n) (halves_on_access second trace n)

-- ---- what is printed

-- the first access, counted from n, at which just one of the two hits
abbrev pub first_parting : ℕ → List Outcome → List Outcome → Option ℕ
first_parting n [] ps = None
first_parting n (a ∷ os) [] = None
first_parting n (a ∷ os) (b ∷ ps) = if just_one (is_hit a) (is_hit b) then Some n else first_parting (n + 1) os ps

-- the outcomes of access n, counted from 1
abbrev pub outcome_lines : List ℕ → Job → Job → ℕ → List ℕ
outcome_lines trace first second n = outcome_line (codes "a") first trace n ++ outcome_line (codes "b") second trace n

-- access n
abbrev pub access_line : List ℕ → ℕ → List ℕ
access_line trace n =
    count_text (codes "access ") n ++ (count_text (codes " block ") (slice_index trace (n - 1)) ++ codes "\n")

-- the access that led to position n, and its outcomes
abbrev pub last_lines : List ℕ → Job → Job → ℕ → List ℕ
last_lines trace first second n =
    if n == 0 then codes "access none\n" else access_line trace n ++ outcome_lines trace first second n

-- what a view shows once the first n accesses are made
abbrev pub viewed_at : List ℕ → Job → Job → View → ℕ → List ℕ
viewed_at trace first second Window n =
    window_line (codes "a") first trace n ++ window_line (codes "b") second trace n
viewed_at trace first second Queues n =
    queue_lines (codes "a") first trace n ++ queue_lines (codes "b") second trace n
viewed_at trace first second Last n = last_lines trace first second n
viewed_at trace first second (Estimate key) n =
    estimate_line (codes "a") first trace n key ++ estimate_line (codes "b") second trace n key

-- ---- the timeline: its steps are the accesses of the trace

abbrev pub policies_timeline : List ℕ → Job → Job → TimelineData
policies_timeline trace first second = record {
  dialect = Policies;
  end = length trace;
  facts = facts_at trace first second;
  shown = λ n. policy_lines (codes "a") first trace n ++ policy_lines (codes "b") second trace n;
  viewed = viewed_at trace first second;
  own = λ n. part_line (first_parting 1 (outcomes_on first trace) (outcomes_on second trace));
}

-- both policies are at the same place of one trace
pub record IsPartWalk (one other : OnePolicyState) : Type 0 where
  pub trace : other.trace ≡ one.trace
  pub together : other.at ≡ one.at
  pub within : one.at ≤ length one.trace
