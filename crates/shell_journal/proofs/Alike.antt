-- Shells just opened with one configuration are alike.
use Rattle.std.proofs.Common.{◌≡◌, [], refl, sym, ap, ◌∙◌}
use Rattle.admission.specs.Frequency.{FrequencyData, frequency_of}
use Rattle.replacement.specs.Shape.{Config, shape_of}
use Rattle.replacement.proofs.Shape.{own-shape}
use Rattle.shell_model.specs.Shell.{Shell}
use Rattle.shell_model.specs.Laws.{empty_shell}
use Rattle.maintenance.specs.EmptyShell.{IsOpened}

own-frequency : (c : Config) (x : Shell) (h : IsOpened c x) → frequency_of h.shape [] ≡ frequency_of (shape_of c) []
own-frequency c x h = own-shape c [] (frequency_of h.shape []) record { shape = h.shape; is = h.shape_is.is; capacity_is = h.shape_is.capacity; spread_is = h.shape_is.spread; stands = refl }

pub alike : (c : Config) (x y : Shell) → IsOpened c x → IsOpened c y → y ≡ x
alike c x y a b =
    b.is ∙ ap (λ (f : FrequencyData). record (empty_shell c a.shape) { frequency = f }) (own-frequency c y b ∙ sym (own-frequency c x a)) ∙ sym a.is
