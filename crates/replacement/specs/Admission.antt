-- Who is admitted where one of two keys has to go (the admission filter of TinyLFU, 2017).
use Rattle.std.specs.Prelude.{ℕ, nat_lt, Bool, true, Option, Some, None}
use Rattle.admission.specs.Frequency.{FrequencyData, estimate}

-- whether a candidate takes a victim's place: where keys are counted, only if it came more often; else always
abbrev pub admits_in : Option FrequencyData → ℕ → ℕ → Bool
admits_in None candidate victim = true
admits_in (Some f) candidate victim = nat_lt (estimate victim f) (estimate candidate f)
