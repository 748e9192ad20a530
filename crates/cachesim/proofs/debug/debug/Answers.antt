use Rattle.std.proofs.Common.{◌≡◌, ap, refl, subst, true, false, rules, ℕ, List, Option, None, Err}
use Rattle.std.proofs.lemmas.Option.{IfSome_then}
use Rattle.std.specs.Prelude.{IfSome}
use Rattle.trace_read.specs.TraceText.{keys_in}
use Rattle.trace_read.specs.declared.limits.TheConstants.Limits.{DEFAULT}
use Rattle.debug_commands.specs.Timeline.{TimelineData}
use Rattle.debug_policies.specs.ConfigFault.{ActorFault, ReturnsConfig}
use Rattle.debug_policies.specs.TwoPolicies.{policies_timeline}
use Rattle.cachesim.specs.DebugOutput.{PartArguments, Answering, AnsweringBegun, Debugging}
use Rattle.cachesim.specs.FaultCauses.{IsFoundIn, IsFoundInFile, IsOfCommands}
use Rattle.cachesim.specs.TraceOutput.{AreFaultless}
use Rattle.cachesim.proofs.Accepting.{pair_accepted}
use Rattle.cachesim.proofs.Found.{answers_left, err_is, known_text, of_dialogue, of_text, past_limit}
use Rattle.cachesim.proofs.debug.debug.Goals as goal

-- what holds of the accesses that were read from the file
debugging : (P : TimelineData → ℕ → Type 0) (asked : PartArguments) (file : Option (List ℕ)) (text keys : List ℕ) → IfSome file (λ xs. text ≡ xs) → AreFaultless DEFAULT asked.format text
    → keys ≡ keys_in asked.format text → P (policies_timeline keys asked.first asked.second) 0 → Debugging P asked file
debugging P asked file text keys has sound are holds =
    IfSome_then file has (λ bytes is. subst (λ (xs : List ℕ). AreFaultless DEFAULT asked.format xs × P (policies_timeline (keys_in asked.format xs) asked.first asked.second) 0) is
    (sound, subst (λ (ks : List ℕ). P (policies_timeline ks asked.first asked.second) 0) are holds))

pub returns : goal.returns
returns g c =
    let asked = c.args.arguments.now.policies in
    let known = g.F.Files.known c.args.files.now in
    let file = known c.args.arguments.now.trace in
    let input = g.R.CountedRead.remaining c.args.input.now in
    let before = g.W.CountedWrite.contents c.args.out.now in
    let after = g.W.CountedWrite.contents c.run_debug.new.out in
    let text = c.as_slice.result.now in
    let read = c.in_ok-trace.ensures.ok in
    let has = known_text known c.as_str.result.now c.args.arguments.now.trace c.in_ok-bytes.bytes.items text c.as_str.ensures c.in_ok-bytes.ensures.bytes c.as_slice.ensures.value in
    record {
      done = debugging (Answering true input before after) asked file text _ has (read.0, read.1) read.2 c.in_ok-run_debug.ensures.done;
      leaves = tt;
      fault = tt;
      reads = search rules;
      writes = search rules;
      flushed = search rules;
    }

pub returns-in_err-run_debug : goal.returns-in_err-run_debug
returns-in_err-run_debug g c =
    let asked = c.args.arguments.now.policies in
    let known = g.F.Files.known c.args.files.now in
    let file = known c.args.arguments.now.trace in
    let input = g.R.CountedRead.remaining c.args.input.now in
    let before = g.W.CountedWrite.contents c.args.out.now in
    let after = g.W.CountedWrite.contents c.run_debug.new.out in
    let text = c.as_slice.result.now in
    let read = c.in_ok-trace.ensures.ok in
    let failed = c.in_err-run_debug.ensures in
    let has = known_text known c.as_str.result.now c.args.arguments.now.trace c.in_ok-bytes.bytes.items text c.as_str.ensures c.in_ok-bytes.ensures.bytes c.as_slice.ensures.value in
    let sound = of_text file text (AreFaultless DEFAULT asked.format) has (read.0, read.1) in
    let none = subst (λ (f : Option ActorFault). ReturnsConfig f (Err c.in_err-run_debug.field-0.0)) (pair_accepted asked c.requires) failed.config in
    record {
      done = search rules;
      leaves = err_is _ c.from_residual-in_err-run_debug.result _ c.from_residual-in_err-run_debug.ensures.1
          (answers_left (Debugging (Answering false input before after) asked file) (Debugging (AnsweringBegun input before after) asked file) _ _
          (λ same. debugging (Answering false input before after) asked file text _ has (read.0, read.1) read.2 (failed.large (ap Err same)))
          (debugging (AnsweringBegun input before after) asked file text _ has (read.0, read.1) read.2 failed.part));
      fault = err_is _ c.from_residual-in_err-run_debug.result _ c.from_residual-in_err-run_debug.ensures.1 (of_dialogue (IsFoundInFile file (IsFoundIn asked.format (IsOfCommands input))) input _
          (λ h. IfSome_then file sound (λ bytes s. (s, (refl, h)))) (λ i same. none i (ap Err same))
          (λ same. IfSome_then input (failed.large (ap Err same)) (λ bytes writes. past_limit _ _ bytes writes.1.fits)));
      reads = search rules;
      writes = search rules;
      flushed = search rules;
    }
