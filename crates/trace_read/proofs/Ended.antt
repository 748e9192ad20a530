-- How the writing of a sample ends.
use Rattle.std.proofs.Common.{◌≡◌, ◌+◌, ℕ, Bool, List, length, Option, Err, subst}
use Rattle.trace_read.proofs.Readings.{both, read_as}
use Rattle.std.specs.Prelude.{IfSome}
use Rattle.trace_read.specs.Reading.{GivesNext}
use Rattle.trace_read.specs.ReadTrace.{IsReadWithin}
use Rattle.trace_read.specs.TraceText.{keys_in}
use Rattle.trace_read.specs.declared.fault.TraceFault.{TraceFault}
use Rattle.trace_read.specs.declared.limits.TheConstants.Limits.{LONG}
use Rattle.trace_read.specs.declared.fault.TraceFault.TheVariants.{OutOfMemory}
use Rattle.trace_read.specs.SampledAccesses.{SampledAccesses, Keeps}
use Rattle.trace_read.specs.Sample.{sample_of}
use Rattle.trace_read.specs.Written.{Format, IsSampleFault}
use Rattle.trace_read.specs.declared.sample_rule.SampleRule.{SampleRule}
use Rattle.trace_read.specs.declared.sample_fault.SampleFault.TheVariants.{Trace}
use Rattle.trace_read.proofs.Sampled.{IsSampled, sampled_more}

-- a fault of the reading is one of the sample
pub fault_at : (format : Format) (old new : Option (List ℕ)) (fault : TraceFault) → IsReadWithin {T = Bool} LONG format old new (Err fault) → IsSampleFault format old new (Trace fault)
fault_at format old new OutOfMemory is = tt
fault_at format old new fault is = read_as fault is

-- ---- a piece more

-- its accesses were kept
pub kept_more : (rule : SampleRule) (format : Format) (old : Option (List ℕ)) (taken : ℕ) (more : Bool) (keys slice : List ℕ) (was new : SampledAccesses) (start now : Option (List ℕ))
    → GivesNext format old taken more keys → was.test.rule ≡ rule → slice ≡ keys → Keeps was new (sample_of was.test.rule.inverse was.test.rule.seed slice)
    → IfSome old (λ bytes. IsSampled rule.inverse rule.seed taken was start now (keys_in format bytes))
    → IfSome old (λ bytes. IsSampled rule.inverse rule.seed (taken + length keys) new start now (keys_in format bytes))
kept_more rule format old taken more keys slice was new start now gives own same keeps is = both old gives.next is (λ b n s.
    sampled_more rule.inverse rule.seed taken keys (keys_in format b) was new start now n
    (subst (λ l. Keeps was new (sample_of rule.inverse rule.seed l)) same (subst (λ (r : SampleRule). Keeps was new (sample_of r.inverse r.seed slice)) own keeps)) s)
