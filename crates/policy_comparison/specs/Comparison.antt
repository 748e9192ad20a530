-- How often two policies hit at the same accesses of a trace.
use Rattle.std.specs.Prelude.{ℕ, ◌+◌, ◌≤◌, Bool, not, ◌&&◌, List, [], ◌∷◌, ◌++◌, codes, count_by, flat_map, length, map, zip}
pub use Rattle.step_record.specs.declared.job.Job.{Job}
use Rattle.step_record.specs.Job.{name_of}
use Rattle.engine_base.specs.Stats.{is_hit, one_if}
use Rattle.policies.specs.AnyPolicy.{Outcome, outcomes_on}
use Rattle.streams.specs.Texts.{count_text}
pub use Rattle.policy_comparison.specs.declared.comparison.Comparison.{Comparison}

-- ---- the definition

-- whether each access hit in the first policy, beside whether it hit in the second
abbrev pub hits_beside : List Outcome → List Outcome → List (Bool × Bool)
hits_beside first second = zip (map is_hit first) (map is_hit second)

abbrev pub counts_of : List (Bool × Bool) → Comparison
counts_of hits = record {
  accesses = length hits;
  both = count_by (λ hit. hit.0 && hit.1) hits;
  first_only = count_by (λ hit. hit.0 && not hit.1) hits;
  second_only = count_by (λ hit. not hit.0 && hit.1) hits;
  neither = count_by (λ hit. not hit.0 && not hit.1) hits;
}

-- what is counted of two jobs over a trace
unfoldable pub compared_on : Job → Job → List ℕ → Comparison
compared_on first second trace = counts_of (hits_beside (outcomes_on first trace) (outcomes_on second trace))

-- ---- one access after another

abbrev pub no_counts : Comparison
no_counts = record { accesses = 0; both = 0; first_only = 0; second_only = 0; neither = 0 }

-- the counts with one access more
abbrev pub counts_with : Bool × Bool → Comparison → Comparison
counts_with hit c = record {
  accesses = c.accesses + 1;
  both = c.both + one_if (hit.0 && hit.1);
  first_only = c.first_only + one_if (hit.0 && not hit.1);
  second_only = c.second_only + one_if (not hit.0 && hit.1);
  neither = c.neither + one_if (not hit.0 && not hit.1);
}

-- no count is over n
pub record IsUpTo (n : ℕ) (c : Comparison) : Type 0 where
  pub accesses : c.accesses ≤ n
  pub both : c.both ≤ n
  pub first_only : c.first_only ≤ n
  pub second_only : c.second_only ≤ n
  pub neither : c.neither ≤ n

-- ---- what is printed of it

-- a row of two jobs: what their policies are called, the capacity of the first, and numbers
abbrev pub pair_row : Job → Job → List ℕ → List ℕ
pair_row first second numbers = name_of first.policy first.sizes ++ (codes "," ++ (name_of second.policy second.sizes
    ++ (flat_map (count_text (codes ",")) (first.config.capacity ∷ numbers) ++ codes "\n")))

abbrev pub comparison_header : List ℕ
comparison_header = codes "first,second,capacity,accesses,both,first_only,second_only,neither\n"

-- the header and the row
abbrev pub comparison_text : Job → Job → Comparison → List ℕ
comparison_text first second c = comparison_header
    ++ pair_row first second (c.accesses ∷ c.both ∷ c.first_only ∷ c.second_only ∷ c.neither ∷ [])
