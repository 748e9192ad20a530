-- Of a reading, and of a run that stands on it.
use Rattle.std.proofs.Common.{◌≡◌, ℕ, List, Option, Some, None, Result, Ok, Err, IfOk, IfSome, subst, refl}
use Rattle.trace_read.specs.declared.format.Format.{Format}
use Rattle.trace_read.specs.declared.fault.TraceFault.{TraceFault}
use Rattle.trace_read.specs.declared.fault.TraceFault.TheVariants.{OutOfMemory}
use Rattle.trace_read.proofs.Readings.{read_as, read_at_end}
use Rattle.trace_read.specs.TraceText.{keys_in, keys_of_file}
use Rattle.trace_read.specs.ReadTrace.{IsReadWithin}
use Rattle.trace_read.specs.declared.limits.Limits.{Limits}

module _ {T U : Type 0} (limits : Limits) (format : Format) (old new : Option (List ℕ)) where
  -- the fault of the reading is that of the run
  pub with_fault : (r : Result T TraceFault) (e : TraceFault) → r ≡ Err e → IsReadWithin limits format old new r → IsReadWithin {T = U} limits format old new (Err e)
  with_fault r e is h = read_as e (subst (λ (x : Result T TraceFault). IsReadWithin limits format old new x) is h)

  -- it was read to its end, and then
  pub with_end : (r : Result T TraceFault) (t : T) (v : U) → r ≡ Ok t → IsReadWithin limits format old new r → IsReadWithin {T = U} limits format old new (Ok v)
  with_end r t v is h = read_at_end t v (subst (λ (x : Result T TraceFault). IsReadWithin limits format old new x) is h)

  pub without_memory : (r : Result T TraceFault) (t : T) → r ≡ Ok t → IsReadWithin limits format old new r → IsReadWithin {T = U} limits format old new (Err OutOfMemory)
  without_memory r t is h = let k : IsReadWithin {T = T} limits format old new (Ok t) = subst (λ (x : Result T TraceFault). IsReadWithin limits format old new x) is h in record {
    ok = tt;
    end = tt;
    faulty = λ q. absurd q;
    all = λ q. absurd q;
    large = λ q. absurd (cc q);
    within = λ n. k.within (λ q. absurd (cc q));
  }

-- what holds for all accesses that are known holds for those of the bytes
pub of_bytes : {V E : Type 0} (P : List ℕ → V → Type 0) (format : Format) (bytes : Option (List ℕ)) (r : Result V E)
    → ((all : List ℕ) → keys_of_file format bytes ≡ Some all → IfOk r (P all)) → IfOk r (λ v. IfSome bytes (λ b. P (keys_in format b) v))
of_bytes P format bytes (Err e) h = tt
of_bytes P format None (Ok v) h = tt
of_bytes P format (Some b) (Ok v) h = h (keys_in format b) refl
