-- Which access a cache of queues accepts, its undo record, and how the record undoes it.
use Rattle.std.specs.Prelude.{◌≡◌, ◌≢◌, ◌⊎◌, ℕ, ◌≤◌, true, false, Option, Some, None}
use Rattle.engine_base.specs.Stats.{stats_without, IsCounted, IsTally}
use Rattle.engine_base.specs.Pace.{Pace, pace_without_sketch}
use Rattle.engine_base.specs.Limited.{limited}
pub use Rattle.admission.specs.declared.freq_record.FreqRecord.{FreqRecord}
use Rattle.admission.specs.Frequency.{FrequencyData, halves, pace_of as frequency_pace}
use Rattle.admission.specs.declared.freq_record.FreqRecord.TheVariants.{Nothing}
use Rattle.admission.specs.FreqRecord.{frequency_record as freq_record_of, frequency_before as freq_undone, FitsRecord}
use Rattle.admission.specs.FreqRecord.{size_of}
pub use Rattle.replacement.specs.declared.record.Moves.{Moves}
use Rattle.replacement.specs.Admission.{admits_in}
use Rattle.replacement.specs.Plan.{Item, Outcome, plan}
use Rattle.replacement.specs.PlanMoves.{moves_of, leaver_in, undone_moves, FitsMoves}
use Rattle.segments.specs.Items.{nodeless_item}
use Rattle.segments.specs.Queues.{Queues, queue_holding}
pub use Rattle.queue_cache.specs.declared.record.AccessRecord.{AccessRecord}
use Rattle.queue_cache.specs.Design.{rules_of}
use Rattle.queue_cache.specs.QueueCache.{Stats, QueueSetup, QueueState, recorded_in, access_response, queue_access}

-- ---- an access

abbrev pub queue_count : QueueState → ℕ
queue_count d = d.stats.accesses

-- none is accepted after MAX_STEPS
abbrev pub queue_act : QueueState → ℕ → Option (Outcome × QueueState)
queue_act d k = limited queue_count queue_access d k

-- the next key brings a halving, whose undo record takes memory
abbrev pub FillsSample : Option FrequencyData → Type 0
FillsSample None = ⊥
FillsSample (Some f) = halves f ≡ true

-- an access to the item may be refused memory
abbrev pub MayAsk : Item → Queues → Option FrequencyData → Type 0
MayAsk i q f = (queue_holding i q ≡ None) ⊎ FillsSample f

-- An access to k may be refused memory: its key is not resident, or it brings a halving.
abbrev pub queue_may_ask : QueueState → ℕ → Type 0
queue_may_ask d k = MayAsk (nodeless_item k) d.queues d.frequency

-- ---- its record

-- that of the recording of the key, where keys are counted
abbrev pub counting_record : ℕ → Option FrequencyData → FreqRecord
counting_record k None = Nothing
counting_record k (Some f) = freq_record_of k f

-- what the access moves, planned from the queues before it
abbrev pub access_moves : ℕ → QueueState → Moves
access_moves k d =
    moves_of (plan (rules_of d.setup) (admits_in (recorded_in k d.frequency)) (nodeless_item k) d.queues) d.queues

-- The record of an access to k, from the cache before it. It is this and nothing beside: its only lists are those of a
-- halving that the recording of the key brought.
abbrev pub queue_record_of : ℕ → QueueState → AccessRecord
queue_record_of k d = record {
  counting = counting_record k d.frequency;
  moves = access_moves k d;
  outcome = (access_response k d).outcome;
}

-- ---- undoing it

abbrev pub unrecorded : FreqRecord → Option FrequencyData → Option FrequencyData
unrecorded r None = None
unrecorded r (Some f) = Some (freq_undone r f)

abbrev pub FitsCounting : FreqRecord → Option FrequencyData → Type 0
FitsCounting r None = r ≡ Nothing
FitsCounting r (Some f) = FitsRecord r f

-- the count is undone first, then the moves, and the recording of the key last
abbrev pub queue_undone : AccessRecord → QueueState → QueueState
queue_undone r d = record {
  setup = d.setup;
  queues = undone_moves r.moves d.queues;
  frequency = unrecorded r.counting d.frequency;
  stats = stats_without r.outcome d.stats;
}

abbrev pub halvings_in : Option FrequencyData → ℕ
halvings_in None = 0
halvings_in (Some f) = f.halvings

-- there were no more halvings than accesses, and no frequency where keys are not counted
pub record IsRunning (s : QueueSetup) (f : Option FrequencyData) (t : Stats) : Type 0 where
  pub tally : IsTally t
  pub halvings : halvings_in f ≤ t.accesses
  pub counting : s.design.counts_keys ≡ false → f ≡ None

-- each part of the record fits in its turn, and what undoing it leaves holds of a cache
pub record QueueFits (r : AccessRecord) (d : QueueState) : Type 0 where
  pub counts : IsCounted r.outcome d.stats
  pub moves : FitsMoves r.moves d.queues
  pub counting : FitsCounting r.counting d.frequency
  pub before : IsRunning d.setup (unrecorded r.counting d.frequency) (stats_without r.outcome d.stats)

-- undoing the access takes memory: an item left in it, which comes back
abbrev pub queue_asks : AccessRecord → Type 0
queue_asks r = leaver_in r.moves ≢ None

-- ---- its words, and how the frequency ages

abbrev pub queue_words : AccessRecord → ℕ
queue_words r = size_of r.counting

abbrev pub pace_by : Option FrequencyData → Pace
pace_by None = pace_without_sketch
pace_by (Some f) = frequency_pace f

abbrev pub queue_pace : QueueState → Pace
queue_pace d = pace_by d.frequency
