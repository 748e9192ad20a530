use Rattle.std.proofs.Common.{◌≡◌, ◌⊎◌, ap, inl, inr, subst, sym, ℕ, List, Option, Some, Result, Ok, Err, String, Global}
use Rattle.std.specs.Prelude.{IfOk, IfSome, IsOkAnd, option_map, string_bytes}
use Rattle.trace_read.specs.TraceText.{keys_in}
use Rattle.streams.specs.Tally.{FailsWhere}
use Rattle.command_line.specs.declared.arguments.Arguments.TheVariants as asked
use Rattle.command_line.specs.declared.arguments.DriveArguments.{DriveArguments}
use Rattle.cachesim.specs.CallFaults.{Fault, Tally, IsOfRead, IsOfWrite}
use Rattle.cachesim.specs.DebugOutput.{KnownFiles}
use Rattle.cachesim.specs.FaultCauses.{Arguments}
use Rattle.cachesim.specs.SampleOutput.{SampleArguments, sample_line}
use Rattle.cachesim.specs.Subcommand.{IsPerformed, IsSameEnd, IsToSay}
use Rattle.cachesim.proofs.perform.perform.Goals as goal

fails_as : {P Q : Type 0} (old new : Tally) → (P → Q) → (Q → P) → FailsWhere P old new → FailsWhere Q old new
fails_as old new to from h = record { failing = λ q. h.failing (from q); served = λ no. h.served (λ p. no (to p)) }

err_as : {A B : Type 0} (e f : Fault) → ◌≡◌ {A = Result A Fault} (Err e) (Err f) → ◌≡◌ {A = Result B Fault} (Err e) (Err f)
err_as e f q = let same : e ≡ f = cc q in ap Err same

either : {P Q R S : Type 0} → (P → R) → (Q → S) → P ⊎ Q → R ⊎ S
either f g (inl p) = inl (f p)
either f g (inr q) = inr (g q)

neither : {P Q R : Type 0} → (P → ⊥) → (Q → ⊥) → P ⊎ Q → R
neither f g (inl p) = absurd (f p)
neither f g (inr q) = absurd (g q)

-- what is known of a result is known of another with the same end
performed_as : {A B : Type 0} (arguments : Arguments) (files : KnownFiles) (input before after : Option (List ℕ)) (i j o p : Tally)
    (Kept Flushed : Type 0) (r : Result A Fault) (s : Result B Fault) → IsSameEnd r s
    → IsPerformed arguments files input before after i j o p Kept Flushed r → IsPerformed arguments files input before after i j o p Kept Flushed s
performed_as arguments files input before after i j o p Kept Flushed (Ok x) (Ok y) same h = record {
  done = h.done;
  leaves = tt;
  fault = tt;
  reads = fails_as i j (neither (λ q. cc q) (λ q. cc q)) (neither (λ q. cc q) (λ q. cc q)) h.reads;
  writes = fails_as o p (neither (λ q. cc q) (λ q. cc q)) (neither (λ q. cc q) (λ q. cc q)) h.writes;
  flushed = h.flushed;
}
performed_as arguments files input before after i j o p Kept Flushed (Ok x) (Err f) same h = absurd (cc same)
performed_as {B = B} arguments files input before after i j o p Kept Flushed (Err e) s same h =
    subst (λ (t : Result B Fault). IsPerformed arguments files input before after i j o p Kept Flushed t) (sym same) (record {
      done = tt;
      leaves = h.leaves;
      fault = h.fault;
      reads = fails_as i j (either (λ q. err_as e _ q) (λ q. err_as e _ q)) (either (λ q. err_as e _ q) (λ q. err_as e _ q)) h.reads;
      writes = fails_as o p (either (λ q. err_as e _ q) (λ q. err_as e _ q)) (either (λ q. err_as e _ q) (λ q. err_as e _ q)) h.writes;
      flushed = tt;
    })

performed_at : {A B : Type 0} (arguments given : Arguments) (files : KnownFiles) (input before after : Option (List ℕ)) (i j o p : Tally)
    (Kept Flushed : Type 0) (r : Result A Fault) (s : Result B Fault) → arguments ≡ given → IsSameEnd r s
    → IsPerformed given files input before after i j o p Kept Flushed r → IsPerformed arguments files input before after i j o p Kept Flushed s
performed_at arguments given files input before after i j o p Kept Flushed r s is same h =
    subst (λ (a : Arguments). IsPerformed a files input before after i j o p Kept Flushed s) (sym is)
    (performed_as given files input before after i j o p Kept Flushed r s same h)

-- those that name no file do the same whatever the files are
of_sample : {A : Type 0} (sample : SampleArguments) (none files : KnownFiles) (input before after : Option (List ℕ)) (i j o p : Tally) (Kept Flushed : Type 0)
    (r : Result A Fault) → IsPerformed (asked.Sample sample) none input before after i j o p Kept Flushed r
    → IsPerformed (asked.Sample sample) files input before after i j o p Kept Flushed r
of_sample sample none files input before after i j o p Kept Flushed r h =
    record { done = h.done; leaves = h.leaves; fault = h.fault; reads = h.reads; writes = h.writes; flushed = h.flushed }

of_drive : {A : Type 0} (drive : DriveArguments) (none files : KnownFiles) (input before after : Option (List ℕ)) (i j o p : Tally) (Kept Flushed : Type 0)
    (r : Result A Fault) → IsPerformed (asked.Drive drive) none input before after i j o p Kept Flushed r
    → IsPerformed (asked.Drive drive) files input before after i j o p Kept Flushed r
of_drive drive none files input before after i j o p Kept Flushed r h =
    record { done = h.done; leaves = h.leaves; fault = h.fault; reads = h.reads; writes = h.writes; flushed = h.flushed }

-- the line of a sample is to be said
to_say : (arguments : Arguments) (sample : SampleArguments) (input : Option (List ℕ)) (r : Result (String Global) Fault) (s : Result (Option (String Global)) Fault)
    → arguments ≡ asked.Sample sample → IfOk s (λ line. IsOkAnd r (λ made. line ≡ Some made))
    → IfOk r (λ line. IfSome input (λ bytes. string_bytes line ≡ sample_line sample (keys_in sample.format bytes)))
    → IfOk s (λ line. IsToSay arguments input (option_map string_bytes line))
to_say arguments sample input (Ok x) (Ok y) is made line =
    subst (λ (a : Arguments). IsToSay a input (option_map string_bytes y)) (sym is)
    (subst (λ (o : Option (String Global)). IsToSay (asked.Sample sample) input (option_map string_bytes o)) (sym made) line)
to_say arguments sample input (Err e) (Ok y) is made line = absurd made
to_say arguments sample input r (Err e) is made line = tt

pub returns-in-Sample-clause-performed : goal.returns-in-Sample-clause-performed
returns-in-Sample-clause-performed g c =
    let known = g.F.Files.known c.args.files.now in
    performed_at _ _ known _ _ _ _ _ _ _ _ _ _ _ c.in-Sample.is c.with_line.ensures.same (of_sample _ _ known _ _ _ _ _ _ _ _ _ _ c.sample.ensures.performed)

pub returns-in-Sample-clause-line : goal.returns-in-Sample-clause-line
returns-in-Sample-clause-line g c = to_say _ _ _ _ _ c.in-Sample.is c.with_line.ensures.line c.sample.ensures.line

pub returns-in-Drive-clause-performed : goal.returns-in-Drive-clause-performed
returns-in-Drive-clause-performed g c =
    let known = g.F.Files.known c.args.files.now in
    performed_at _ _ known _ _ _ _ _ _ _ _ _ _ _ c.in-Drive.is c.without_line.ensures.same (of_drive _ _ known _ _ _ _ _ _ _ _ _ _ c.drive.ensures)

pub returns-in-Debug-clause-performed : goal.returns-in-Debug-clause-performed
returns-in-Debug-clause-performed g c = performed_at _ _ _ _ _ _ _ _ _ _ _ _ _ _ c.in-Debug.is c.without_line-in-Debug.ensures.same c.debug.ensures

pub returns-in-Replay-clause-performed : goal.returns-in-Replay-clause-performed
returns-in-Replay-clause-performed g c = performed_at _ _ _ _ _ _ _ _ _ _ _ _ _ _ c.in-Replay.is c.without_line-in-Replay.ensures.same c.replay.ensures
