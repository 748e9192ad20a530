-- A list of keys, recorded one after another.
use Rattle.std.proofs.Common.{◌≡◌, ℕ, List, [], ◌∷◌, ◌++◌, ap, ◌∙◌, sym, refl, append-nil, append_assoc}
use Rattle.admission.specs.Shape.{Shape, IsSized}
use Rattle.admission.specs.Frequency.{FrequencyData, frequency_of, frequency_from}
use Rattle.admission.proofs.Recording.{recorded_freq, freq_none}
use Rattle.admission_laws.specs.Theorems.{ListsAreRecorded}

recorded-from : (s : Shape) → IsSized s → (past keys : List ℕ) → frequency_from (frequency_of s past) keys ≡ frequency_of s (past ++ keys)
recorded-from s is past [] = rw append-nil refl
recorded-from s is past (k ∷ ks) =
    ap (λ (f : FrequencyData). frequency_from f ks) (recorded_freq s is.some is.wide is.deep past k)
    ∙ recorded-from s is (past ++ k ∷ []) ks ∙ ap (frequency_of s) (append_assoc past (k ∷ []) ks)

pub lists_are_recorded : ListsAreRecorded
lists_are_recorded s keys is =
    sym (ap (λ (f : FrequencyData). frequency_from f keys) (sym (freq_none s is.some)) ∙ recorded-from s is [] keys)
