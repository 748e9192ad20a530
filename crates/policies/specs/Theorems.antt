-- What the definitions of the policies promise to callers that see a cache by its steps alone.
use Rattle.std.specs.Prelude.{◌≡◌, ℕ, ◌≤◌, true, Some, None, List, [], ◌∷◌, ◌++◌, length, slice_index_or}
use Rattle.engine_base.specs.declared.limits.TheConstants.{MAX_STEPS}
use Rattle.engine_base.specs.declared.outcome.Outcome.TheVariants.{Hit}
use Rattle.engine_base.specs.Stats.{is_eviction}
use Rattle.policies.specs.AnyPolicy.{AnyPolicy, Outcome, Job, HasAccessed, stats_in, stats_on, outcomes_on}
use Rattle.policies.specs.AnyStep.{any_act, any_record_of, any_asks, recorded_outcome}

-- A cache of any policy that made some accesses made one more after an accepted step.
abbrev pub AnyStepLaw : Type 0
AnyStepLaw = (j : Job) (trace keys : List ℕ) (d : AnyPolicy) (k : ℕ) (o : Outcome) (e : AnyPolicy)
    → HasAccessed j trace keys d → any_act d k ≡ Some (o, e) → HasAccessed j trace (keys ++ k ∷ []) e

-- One that made the first accesses of a trace, fewer than all, accepts the next of them, of as many as an engine
-- counts.
abbrev pub AnyAccepts : Type 0
AnyAccepts = (j : Job) (trace keys rest : List ℕ) (k : ℕ) (d : AnyPolicy)
    → trace ≡ keys ++ k ∷ rest → length trace ≤ MAX_STEPS → HasAccessed j trace keys d → any_act d k ≡ None → ⊥

-- What a cache shows after some accesses is determined by the job, the trace and the accesses.
abbrev pub AnyIsOne : Type 0
AnyIsOne = (j : Job) (trace keys : List ℕ) (d e : AnyPolicy) → HasAccessed j trace keys d
    → HasAccessed j trace keys e → d ≡ e

-- After all accesses of the trace, its statistics are those of the job over the trace.
abbrev pub AnyReports : Type 0
AnyReports = (j : Job) (trace : List ℕ) (d : AnyPolicy) → HasAccessed j trace trace d → stats_in d ≡ stats_on j trace

-- One that made the first accesses of a trace answers the next of them with the outcome that the job over the whole
-- trace has at that place.
abbrev pub AnyAnswers : Type 0
AnyAnswers = (j : Job) (trace keys rest : List ℕ) (k : ℕ) (d : AnyPolicy) (o : Outcome) (e : AnyPolicy) (x : Outcome)
    → trace ≡ keys ++ k ∷ rest → HasAccessed j trace keys d → any_act d k ≡ Some (o, e)
    → o ≡ slice_index_or (outcomes_on j trace) (length keys) x

-- A job over a trace has one outcome for each access.
abbrev pub AnyCoversTrace : Type 0
AnyCoversTrace = (j : Job) (trace : List ℕ) → length (outcomes_on j trace) ≡ length trace

-- The record of an access of a cache of any policy, one that made some accesses before it, has the access's outcome, which
-- names the key that left, if one did.
abbrev pub AnyRecordsShowOutcome : Type 0
AnyRecordsShowOutcome = (j : Job) (trace keys : List ℕ) (d : AnyPolicy) (k : ℕ) (o : Outcome) (e : AnyPolicy)
    → HasAccessed j trace keys d → any_act d k ≡ Some (o, e) → recorded_outcome (any_record_of k d) ≡ o

-- Undoing a hit of a cache of any policy takes no memory.
abbrev pub AnyHitsKeepAll : Type 0
AnyHitsKeepAll = (d : AnyPolicy) (k : ℕ) (e : AnyPolicy) → any_act d k ≡ Some (Hit, e)
    → any_asks (any_record_of k d) → ⊥

-- Undoing an access of a cache of any policy, one that made some accesses before it, takes memory only where an item
-- left in it.
abbrev pub AnyAsksWhereOneLeft : Type 0
AnyAsksWhereOneLeft = (j : Job) (trace keys : List ℕ) (d : AnyPolicy) (k : ℕ) (o : Outcome) (e : AnyPolicy)
    → HasAccessed j trace keys d → any_act d k ≡ Some (o, e) → any_asks (any_record_of k d) → is_eviction o ≡ true
