-- A recorded key is undone from its record.
use Rattle.std.proofs.Common.{◌≡◌, ℕ}
use Rattle.admission.specs.Frequency.{FrequencyData, IsFrequency}
use Rattle.admission.proofs.Undoing.{record_fits, record_undone, recorded_is}
use Rattle.shell_model.specs.Frequency.{frequency_recorded, shell_frequency_record, frequency_unrecorded, FitsFrequency}

pub fits_recorded : (f : FrequencyData) (k : ℕ) → IsFrequency f → FitsFrequency (shell_frequency_record f k) (frequency_recorded f k)
unfolding FitsFrequency shell_frequency_record frequency_recorded
fits_recorded f k h = record_fits f k h

pub unrecorded-recorded : (f : FrequencyData) (k : ℕ) → IsFrequency f → frequency_unrecorded (shell_frequency_record f k) (frequency_recorded f k) ≡ f
unfolding frequency_unrecorded shell_frequency_record frequency_recorded
unrecorded-recorded f k h = record_undone f k h

pub recorded-whole : (f : FrequencyData) (k : ℕ) → IsFrequency f → IsFrequency (frequency_recorded f k)
unfolding frequency_recorded
recorded-whole f k h = recorded_is f k h
