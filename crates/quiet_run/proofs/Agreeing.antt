-- The maintenance's evictions go by the filter of the policies.
use Rattle.std.proofs.Common.{◌≡◌, Some, refl}
use Rattle.replacement.specs.Admission.{admits_in}
use Rattle.replacement.specs.Rules.{three_queues}
use Rattle.replacement.specs.Plan.{candidate_of}
use Rattle.replacement.specs.Table.{eviction}
use Rattle.shell_model.specs.Frequency.{admits}
use Rattle.shell_model.specs.Shell.{Shell, evicted_by, evict_effect}

pub evictions-law : (x : Shell) → evict_effect x ≡ evicted_by
    (candidate_of (three_queues x.config) x.queues)
    (eviction (three_queues x.config) (admits_in (Some x.frequency)) x.queues)
    x
unfolding admits
evictions-law x = refl
