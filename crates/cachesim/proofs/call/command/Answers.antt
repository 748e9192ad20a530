use Rattle.std.proofs.Common.{◌≡◌, ◌⊎◌, inl, inr, refl, subst, sym, ℕ, Option, None, Some, Result, Ok, Err, ◌∙◌, ◌≢◌, ap, rules, List}
use Rattle.std.specs.Prelude.{string_bytes}
use Rattle.std.specs.Io.KnownBytes.{Appends}
use Rattle.std.proofs.lemmas.Option.{IfSome_then}
use Rattle.std.proofs.lemmas.Result.{IfErr-at_err, IfOk-at_ok}
use Rattle.streams.specs.Part.{AppendsPart}
use Rattle.streams.specs.Tally.{Exhausts, FailsWhere, IsServed}
use Rattle.streams.specs.declared.retry_budget.TheConstants.{INTERRUPTIONS}
use Rattle.trace_read.specs.declared.fault.TraceFault.TheVariants as trace
use Rattle.debug_commands.specs.declared.fault.DebugFault.TheVariants as debug
use Rattle.clap.specs.Words.{HasKind, IsAmong, Kinds, Text, kind_of}
use Rattle.clap.specs.declared.Error.{Error}
use Rattle.clap.specs.declared.error.ErrorKind.TheVariants as kind
use Rattle.command_line.specs.ParseResult.{AsksFor, IsRefused, ParsedBy}
use Rattle.command_line.specs.declared.arguments.Arguments.TheVariants as asked
use Rattle.command_line.specs.declared.fault.ParseFault.TheVariants.{Incomplete, LongIntervals, Refused, Stripes, WholeTrace}
use Rattle.streams.proofs.Tallies.{uncalled}
use Rattle.cachesim.specs.CallFaults.{Fault, Tally, AreServed, BlamesCalls, IsOfRead, IsOfWrite}
use Rattle.cachesim.specs.declared.fault.Fault.TheVariants.{Debug, Trace, Write, OutOfMemory}
use Rattle.cachesim.specs.DebugOutput.{KnownFiles}
use Rattle.cachesim.specs.Outcome.{ParseFault, Arguments, AsksHelp, DoneUnsaid, IsDone, IsSaid, RefusesWords, is_help}
use Rattle.cachesim.specs.Subcommand.{IsToSay}
use Rattle.cachesim.proofs.call.command.Goals as goal

neither : {P Q : Type 0} → (P → ⊥) → (Q → ⊥) → P ⊎ Q → ⊥
neither p q (inl h) = p h
neither p q (inr h) = q h

module _ (i j o p : Tally) where
  at_fault : {A : Type 0} (fault : Fault) → FailsWhere (IsOfRead {A = A} (Err fault)) i j → FailsWhere (IsOfWrite {A = A} (Err fault)) o p
      → BlamesCalls fault i j o p
  at_fault (Trace trace.Read) reads writes = (reads.failing (inl refl), writes.served (neither (λ q. cc q) (λ q. cc q)))
  at_fault (Debug debug.Read) reads writes = (reads.failing (inr refl), writes.served (neither (λ q. cc q) (λ q. cc q)))
  at_fault (Debug debug.Write) reads writes = (reads.served (neither (λ q. cc q) (λ q. cc q)), writes.failing (inr refl))
  at_fault Write reads writes = (reads.served (neither (λ q. cc q) (λ q. cc q)), writes.failing (inl refl))
  at_fault (Trace _) reads writes = (reads.served (neither (λ q. cc q) (λ q. cc q)), writes.served (neither (λ q. cc q) (λ q. cc q)))
  at_fault (Debug _) reads writes = (reads.served (neither (λ q. cc q) (λ q. cc q)), writes.served (neither (λ q. cc q) (λ q. cc q)))
  at_fault _ reads writes = (reads.served (neither (λ q. cc q) (λ q. cc q)), writes.served (neither (λ q. cc q) (λ q. cc q)))

  blamed_at : {A : Type 0} (r : Result A Fault) (fault : Fault) → r ≡ Err fault → FailsWhere (IsOfRead r) i j → FailsWhere (IsOfWrite r) o p
      → BlamesCalls fault i j o p
  blamed_at {A = A} r fault is reads writes =
      at_fault fault (subst (λ (s : Result A Fault). FailsWhere (IsOfRead s) i j) is reads) (subst (λ (s : Result A Fault). FailsWhere (IsOfWrite s) o p) is writes)

  served_at : {A : Type 0} (r : Result A Fault) (x : A) → r ≡ Ok x → FailsWhere (IsOfRead r) i j → FailsWhere (IsOfWrite r) o p → AreServed i j o p
  served_at r x is reads writes = (reads.served (neither (λ q. cc (is, q)) (λ q. cc (is, q))), writes.served (neither (λ q. cc (is, q)) (λ q. cc (is, q))))

-- what is said of the parse, where it gave this
parsed : (words : List Text) (r s : Result Arguments ParseFault) → r ≡ s → ParsedBy words r → ParsedBy words s
parsed words r s is h = subst (λ (x : Result Arguments ParseFault). ParsedBy words x) is h

among : (kinds : Kinds) (e : Error) → HasKind kinds e → kind_of e ≢ kind.OutOfMemory → IsAmong (kind_of e) kinds
among kinds e (inl h) n = absurd (n h)
among kinds e (inr h) n = h

refused_by : (words : List Text) (e : Error) → ParsedBy words (Err (Refused e)) → ¬ is_help (kind_of e) → kind_of e ≢ kind.OutOfMemory → IsRefused words RefusesWords
refused_by words e p h n = record { lists = p.lists; are = p.are; refused = (kind_of e, h, among _ e p.refused n) }

help_out : (e : Error) → is_help (kind_of e) → kind_of e ≢ kind.OutOfMemory
help_out e (inl h) same = let no : kind.DisplayHelp ≡ kind.OutOfMemory = subst (λ k. k ≡ kind.OutOfMemory) h same in absurd (cc no)
help_out e (inr h) same = let no : kind.DisplayVersion ≡ kind.OutOfMemory = subst (λ k. k ≡ kind.OutOfMemory) h same in absurd (cc no)

helped_by : (words : List Text) (e : Error) → ParsedBy words (Err (Refused e)) → is_help (kind_of e) → IsRefused words AsksHelp
helped_by words e p h = record { lists = p.lists; are = p.are; refused = (kind_of e, h, among _ e p.refused (help_out e h)) }

-- what was done is said, where it has no line
in_silence : (arguments : Arguments) (input line : Option (List ℕ)) (Silent : Type 0) → IsToSay arguments input None → Silent
    → IsSaid arguments input line line Silent
in_silence (asked.Sample sample) input line Silent none silent = absurd none
in_silence _ input line Silent none silent = silent

-- where it has one, all of it was written
by_line : (arguments : Arguments) (input silent line : Option (List ℕ)) (text : List ℕ) (Silent : Type 0) → IsToSay arguments input (Some text)
    → Appends silent line text → IsSaid arguments input silent line Silent
by_line (asked.Sample sample) input silent line text Silent is all =
    IfSome_then input is (λ bytes same. subst (Appends silent line) same all)
by_line _ input silent line text Silent is all = absurd (cc is)

-- or a beginning of it
unsaid : (words : List Text) (arguments : Arguments) (files : KnownFiles) (old new : Tally) (input before after silent line : Option (List ℕ))
    (text : List ℕ) (Served : Type 0) → AsksFor words (Ok arguments) → IsDone arguments files input before after → IsToSay arguments input (Some text)
    → Served → Exhausts INTERRUPTIONS old new → AppendsPart silent line text → DoneUnsaid words old new input before after silent line Served
unsaid words (asked.Sample sample) files old new input before after silent line text Served asks done is served failed part = record {
  sample = sample;
  asks = asks;
  sampled = done;
  served = served;
  failed = failed;
  part = IfSome_then input is (λ bytes same. subst (AppendsPart silent line) same part);
}
unsaid words _ files old new input before after silent line text Served asks done is served failed part = absurd (cc is)

pub returns-in-Err-Refused-clause-done : goal.returns-in-Err-Refused-clause-done
returns-in-Err-Refused-clause-done g c zero =
    let p = parsed _ _ _ (c.in-Err-Refused.is ∙ ap Err c.in-Err-Refused.field-0-is) c.parse.ensures.parsed in
    inr (helped_by _ c.in-Err-Refused.error p (c.answer_help.ensures.done zero), c.answer_help.ensures.silent zero)

pub returns-in-Err-Refused-clause-refused : goal.returns-in-Err-Refused-clause-refused
returns-in-Err-Refused-clause-refused g c two =
    let p = parsed _ _ _ (c.in-Err-Refused.is ∙ ap Err c.in-Err-Refused.field-0-is) c.parse.ensures.parsed in
    let a = c.answer_help.ensures.refused two in
    (inl (refused_by _ c.in-Err-Refused.error p a.0 a.1), refl, a.2)

pub returns-in-Err-Stripes-clause-refused : goal.returns-in-Err-Stripes-clause-refused
returns-in-Err-Stripes-clause-refused g c two =
    let e : c.parse.result ≡ Err Stripes = search rules in
    (inr (Stripes, parsed _ _ _ e c.parse.ensures.parsed, search rules), refl, refl)

pub returns-in-Err-WholeTrace-clause-refused : goal.returns-in-Err-WholeTrace-clause-refused
returns-in-Err-WholeTrace-clause-refused g c two =
    let e : c.parse.result ≡ Err WholeTrace = search rules in
    (inr (WholeTrace, parsed _ _ _ e c.parse.ensures.parsed, search rules), refl, refl)

pub returns-in-Err-LongIntervals-clause-refused : goal.returns-in-Err-LongIntervals-clause-refused
returns-in-Err-LongIntervals-clause-refused g c two =
    let e : c.parse.result ≡ Err LongIntervals = search rules in
    (inr (LongIntervals, parsed _ _ _ e c.parse.ensures.parsed, search rules), refl, refl)

pub returns-in-Err-Incomplete-clause-refused : goal.returns-in-Err-Incomplete-clause-refused
returns-in-Err-Incomplete-clause-refused g c two =
    let e : c.parse.result ≡ Err Incomplete = search rules in
    (inr (Incomplete, parsed _ _ _ e c.parse.ensures.parsed, search rules), refl, refl)

pub returns-in-Err-Refused-clause-faulted : goal.returns-in-Err-Refused-clause-faulted
returns-in-Err-Refused-clause-faulted g c one =
    let p = parsed _ _ _ (c.in-Err-Refused.is ∙ ap Err c.in-Err-Refused.field-0-is) c.parse.ensures.parsed in
    elim (c.answer_help.ensures.faulted one) [
      | inl h ↦ inl (record {
        fault = OutOfMemory;
        reported = h.0;
        ended = inr h.1;
        blames = (uncalled _, subst (λ o. IsServed (g.W.CountedWrite.tally c.args.out.now) (g.W.CountedWrite.tally o)) (sym h.1) (uncalled _));
      })
      | inr h ↦ inl (record { fault = Write; reported = h.0; ended = inr (helped_by _ c.in-Err-Refused.error p h.1); blames = (uncalled _, h.2) })
    ]

pub returns-in-Err-OutOfMemory-clause-faulted : goal.returns-in-Err-OutOfMemory-clause-faulted
returns-in-Err-OutOfMemory-clause-faulted g c one = inl (record {
  fault = OutOfMemory;
  reported = c.report_fault.ensures.reported;
  ended = inr refl;
  blames = (uncalled _, uncalled _);
})

pub returns-in-Ok-None-clause-done : goal.returns-in-Ok-None-clause-done
returns-in-Ok-None-clause-done g c zero =
    let none = IfOk-at_ok _ (c.in-Ok-None.is ∙ ap Ok c.in-Ok-None.field-0-is) c.perform-done.ensures.line in
    inl (
      c.in-Ok.arguments,
      parsed _ _ _ c.in-Ok.is c.parse.ensures.parsed,
      (IfOk-at_ok _ c.in-Ok-None.is c.perform-done.ensures.performed.done, in_silence _ _ _ _ none refl),
    )

pub returns-in-Ok-Some-clause-done : goal.returns-in-Ok-Some-clause-done
returns-in-Ok-Some-clause-done g c zero =
    let line = IfOk-at_ok _ (c.in-Ok-Some.is ∙ ap Ok c.in-Ok-Some.field-0-is) c.perform-done.ensures.line in
    let silent = g.X.CountedWrite.contents c.args.fault_out.now in
    let after = g.X.CountedWrite.contents c.report_done.new.fault_out in
    let text : c.as_bytes.result.now ≡ string_bytes c.in-Ok-Some.line = search rules in
    let all = subst (Appends silent after) text (c.report_done.ensures.line zero) in
    inl (
      c.in-Ok.arguments,
      parsed _ _ _ c.in-Ok.is c.parse.ensures.parsed,
      (IfOk-at_ok _ c.in-Ok-Some.is c.perform-done.ensures.performed.done, by_line _ _ silent after _ _ line all),
    )

pub returns-in-Ok-Some-clause-faulted : goal.returns-in-Ok-Some-clause-faulted
returns-in-Ok-Some-clause-faulted g c one =
    let line = IfOk-at_ok _ (c.in-Ok-Some.is ∙ ap Ok c.in-Ok-Some.field-0-is) c.perform-done.ensures.line in
    let silent = g.X.CountedWrite.contents c.args.fault_out.now in
    let after = g.X.CountedWrite.contents c.report_done.new.fault_out in
    let text : c.as_bytes.result.now ≡ string_bytes c.in-Ok-Some.line = search rules in
    let part = subst (AppendsPart silent after) text (c.report_done.ensures.part one) in
    let served = served_at _ _ _ _ c.perform-done.result _ c.in-Ok-Some.is c.perform-done.ensures.performed.reads c.perform-done.ensures.performed.writes in
    let done = IfOk-at_ok _ c.in-Ok-Some.is c.perform-done.ensures.performed.done in
    let flushed = IfOk-at_ok _ c.in-Ok-Some.is c.perform-done.ensures.performed.flushed in
    inr (unsaid _ _ _ _ _ _ _ _ silent after _ _ (parsed _ _ _ c.in-Ok.is c.parse.ensures.parsed) done line (served, flushed) (c.report_done.ensures.failed one) part)

pub returns-in-Err-clause-faulted : goal.returns-in-Err-clause-faulted
returns-in-Err-clause-faulted g c one =
    let due = IfErr-at_err _ c.in-Err.is c.perform-done.ensures.performed.fault in
    let leaves = IfErr-at_err _ c.in-Err.is c.perform-done.ensures.performed.leaves in
    inl (record {
      fault = c.in-Err.fault;
      reported = c.report_fault-in-Err.ensures.reported;
      ended = inl (c.in-Ok.arguments, parsed _ _ _ c.in-Ok.is c.parse.ensures.parsed, record { due = due; leaves = leaves });
      blames = blamed_at _ _ _ _ c.perform-done.result _ c.in-Err.is c.perform-done.ensures.performed.reads c.perform-done.ensures.performed.writes;
    })

pub returns-in-Err-Refused-clause-served : goal.returns-in-Err-Refused-clause-served
returns-in-Err-Refused-clause-served g c zero =
    let done = c.answer_help.ensures.served zero in
    let silent = c.answer_help.ensures.silent zero in (
      (uncalled _, done.0),
      done.1,
      subst (λ x. IsServed (g.X.CountedWrite.tally c.args.fault_out.now) (g.X.CountedWrite.tally x)) (sym silent) (uncalled _),
    )

pub returns-in-Ok-None-clause-served : goal.returns-in-Ok-None-clause-served
returns-in-Ok-None-clause-served g c zero = (
  served_at _ _ _ _ c.perform-done.result _ c.in-Ok-None.is c.perform-done.ensures.performed.reads c.perform-done.ensures.performed.writes,
  IfOk-at_ok _ c.in-Ok-None.is c.perform-done.ensures.performed.flushed,
  uncalled _,
)

pub returns-in-Ok-Some-clause-served : goal.returns-in-Ok-Some-clause-served
returns-in-Ok-Some-clause-served g c zero = (
  served_at _ _ _ _ c.perform-done.result _ c.in-Ok-Some.is c.perform-done.ensures.performed.reads c.perform-done.ensures.performed.writes,
  IfOk-at_ok _ c.in-Ok-Some.is c.perform-done.ensures.performed.flushed,
  c.report_done.ensures.served zero,
)
