-- The shell's frequency, as admission has it: one key more is recorded, and that is undone from its record. The names
-- stand for admission's, so that what is said of the shell need not look into counters and bits.
use Rattle.std.specs.Prelude.{ℕ, nat_lt, Bool}
pub use Rattle.admission.specs.declared.freq_record.FreqRecord.{FreqRecord}
use Rattle.admission.specs.Frequency.{FrequencyData, estimate, frequency_with as recorded_key}
use Rattle.admission.specs.FreqRecord.{frequency_record as key_record, frequency_before, FitsRecord}

unfoldable pub frequency_recorded : FrequencyData → ℕ → FrequencyData
frequency_recorded f k = recorded_key k f

-- the candidate came more often than the victim; a tie rejects (TinyLFU, 2017)
unfoldable pub admits : FrequencyData → ℕ → ℕ → Bool
admits f candidate victim = nat_lt (estimate victim f) (estimate candidate f)

unfoldable pub shell_frequency_record : FrequencyData → ℕ → FreqRecord
shell_frequency_record f k = key_record k f

unfoldable pub frequency_unrecorded : FreqRecord → FrequencyData → FrequencyData
frequency_unrecorded r f = frequency_before r f

unfoldable pub FitsFrequency : FreqRecord → FrequencyData → Type 0
FitsFrequency r f = FitsRecord r f
