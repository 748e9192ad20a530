use Rattle.std.proofs.Common.{◌≡◌, ◌≤◌, ◌⊎◌, ◌++◌, ◌∙◌, ap, refl, subst, sym, arith, inl, inr, ℕ, suc, List, [], ◌∷◌, length, get_or, Option, None, Some, Result, map, Ok, Err}
use Rattle.std.specs.Prelude.{IfErr, IfSome, IfOk, IsOkAnd}
use Rattle.std.specs.Io.KnownBytes.{Appends}
use Rattle.std.proofs.lemmas.Grind.{pieces}
use Rattle.std.proofs.lemmas.Option.{IfSome_then}
use Rattle.std.proofs.lemmas.Result.{IfErr-at_err, IfErr-weaker, on_ok_weaker}
use Rattle.engine_base.specs.History.{Entries, IsLegal}
use Rattle.engine_base.specs.declared.worker.TheConstants.{MAX_WORKERS}
use Rattle.shell_model.specs.Shell.{Step, Reply, Shell, act}
use Rattle.shell_model.specs.ReachableShell.{worker_of}
use Rattle.engine_base.specs.declared.limits.TheConstants.{MAX_TRACE_BYTES}
use Rattle.trace_read.specs.TraceText.{fault_in, keys_in}
use Rattle.journal.specs.Session.{SessionState}
use Rattle.journal_text.specs.Journal.{journal_of}
use Rattle.journal_text.specs.declared.version.Version.TheVariants.{Two}
use Rattle.workers.specs.DriveFaults.{Call, LeavesFault}
use Rattle.workers.specs.Runs.{first_cause, IsCauseIn}
use Rattle.workers.specs.declared.run.Cause.TheVariants as cause
use Rattle.workers.specs.declared.run.DriveFault.TheVariants.{Workers, Held, OutOfMemory, Stopped}
use Rattle.cachesim.specs.DriveOutput.{Fault, DriveFault, Cause, Driven, Format, Config, IsEmptySession, IsJournalOf, IsOfRun, IsStopped, IsStoppedRun, LeavesDrive, LeavesRun}
use Rattle.cachesim.specs.FaultCauses.{IsFoundIn, IsOfMachine}
use Rattle.cachesim.specs.WorkerReads.{AreOfReadsUpTo, IsDealt, AreWalksOfReads}
use Rattle.cachesim.specs.declared.fault.Fault.TheVariants as fault
use Rattle.cachesim.proofs.Dealing.{reads_made}
use Rattle.cachesim.proofs.drive.drive.Goals as goal

abbrev State : Type 0
State = SessionState Shell Shell Step Reply

could_begin : (fault : DriveFault) (pieces : List (List Call)) (session : State)
    → LeavesFault fault pieces session → 1 ≤ length pieces → length pieces ≤ MAX_WORKERS → session.engine.holder ≡ None → IsOfRun fault
could_begin (Workers s) pieces session left some few free = let many = left.1 some in absurd (omega (many, few, arith))
could_begin (Held w s) pieces session left some few free = absurd (cc (sym (ap worker_of free) ∙ left.3))
could_begin (OutOfMemory s) pieces session left some few free = tt
could_begin (Stopped driven cause) pieces session left some few free = tt

-- some worker was refused for the cause of the first
refused_one : (refusals : List (Option Cause)) (why : Cause) → Some why ≡ first_cause refusals → (w : ℕ) × (get_or refusals w None ≡ Some why)
refused_one [] why e = absurd (cc e)
refused_one (None ∷ refusals) why e = let one = refused_one refusals why e in (suc one.0, one.1)
refused_one (Some other ∷ refusals) why e = (0, sym e)

-- what the entries of a session that had none show of a refusal
shown_from_none : (w : ℕ) (old new news : Entries) (before limit : ℕ) → old ≡ [] → new ≡ old ++ news → before ≡ limit → (refusal : Option Cause)
    → IfSome refusal (IsCauseIn w old news before) → IfSome refusal (IsCauseIn w [] new limit)
shown_from_none w old new news before limit none entered same refusal h =
    let all : news ≡ new = sym (entered ∙ ap (λ es. es ++ news) none) in
    subst (λ l. IfSome refusal (IsCauseIn w [] new l)) same (subst (λ es. IfSome refusal (IsCauseIn w [] es before)) all
    (subst (λ es. IfSome refusal (IsCauseIn w es news before)) none h))

module _ (config : Config) (workers : ℕ) (format : Format) (input before after : Option (List ℕ)) (pieces : List (List Call)) (session : State)
    (empty : IsEmptySession config session) (keys : List ℕ)
    (read : IfSome input (λ bytes. (length bytes ≤ MAX_TRACE_BYTES) × (fault_in format bytes ≡ None) × (keys ≡ keys_in format bytes)))
    (dealt : IsDealt workers keys pieces) where
  -- the journal of a run over dealt pieces is one of the accesses
  journal_of_run : (Walks : ℕ → ℕ → List ℕ → Entries → Type 0) (Room : ℕ → Type 0) (new : State)
      → Walks session.engine.config.stripes workers keys new.kept
      → new.opening ≡ session.opening → IsLegal act new.opening new.kept → Room (length new.kept) → Appends before after (journal_of Two new.kept)
      → IsJournalOf (Walks config.stripes workers) Room config format input before after
  journal_of_run Walks Room new made opening legal room written = record {
    opening = session.opening;
    opened = empty.opened;
    steps = new.kept;
    legal = subst (λ o. IsLegal act o new.kept) opening legal;
    room = room;
    walks = IfSome_then input read (λ bytes h. (
      (h.0, h.1),
      subst (λ ks. Walks config.stripes workers ks new.kept) h.2
          (subst (λ n. Walks n workers keys new.kept) (ap (λ x. x.config.stripes) (empty.same ∙ empty.opened.is)) made),
    ));
    written = written;
  }

  module _ (Kept : Type 0) (run : Result Driven DriveFault) (limit : session.limit ≡ config.journal_limit)
      (left : IfErr run (λ f. LeavesFault f pieces session)) where
    stopped : (why : Cause) → IsStoppedRun run why before after → IsStopped why config workers format input before after
    stopped why (driven, is, few, written) =
        let all = IfErr-at_err (λ f. LeavesFault f pieces session) is left in
        let up_to = all.2 in
        journal_of_run (AreOfReadsUpTo why config.journal_limit) _ driven.session (record {
          refusals = up_to.refusals;
          of_each = up_to.of_each ∙ dealt.many;
          first = up_to.first;
          walks = reads_made _ workers keys pieces session driven.session dealt empty.none up_to.run;
          refused = λ w. shown_from_none w session.kept driven.session.kept up_to.run.news session.limit config.journal_limit
              empty.none up_to.run.entered limit (get_or up_to.refusals w None) (up_to.refused w);
        }) up_to.run.opening all.1 (
          subst (λ l. length driven.session.kept ≤ l) (up_to.run.limit ∙ limit) few,
          λ same. (
              let one = refused_one up_to.refusals cause.JournalFull (subst (λ k. Some k ≡ first_cause up_to.refusals) same up_to.first) in
              let here : IfSome (Some cause.JournalFull) (IsCauseIn one.0 session.kept up_to.run.news session.limit) =
              subst (λ r. IfSome r (IsCauseIn one.0 session.kept up_to.run.news session.limit)) one.1 (up_to.refused one.0) in
              ap (λ (es : Entries). length es) up_to.run.entered ∙ here ∙ limit
              ),
        ) written

    leaves : (f : Fault) → LeavesRun run before after f → LeavesDrive config workers format f input before after Kept
    leaves fault.JournalFull h = stopped cause.JournalFull h
    leaves fault.OutOfMemory (inl same) = inl same
    leaves fault.OutOfMemory (inr h) = inr (stopped cause.Memory h)
    leaves fault.Write h = tt
    leaves _ h = absurd h

    of_run : (f : Fault) → LeavesRun run before after f → IsOfMachine f ⊎ IfSome input (IsFoundIn format (λ g. g ≡ fault.JournalFull) f)
    of_run fault.OutOfMemory h = inl tt
    of_run fault.Write h = inl tt
    of_run fault.JournalFull h = inr (IfSome_then input read (λ bytes sound. ((sound.0, sound.1), refl)))
    of_run _ h = absurd h

-- what follows from what is said of the value in an `Ok`
held : {X Y G : Type 0} (r : Result X Y) {P Q R : X → Type 0} → IsOkAnd r P → IfOk r Q → IfOk r R → ((x : X) → P x → Q x → R x → G) → G
held (Ok x) p q r then = then x p q r
held (Err e) p q r then = absurd p

pub returns : goal.returns
returns g c =
    let arguments = c.args.arguments.now in
    let input = g.R.CountedRead.remaining c.args.input.now in
    let session = c.in_ok-session.session in
    let first = c.in_ok-session.ensures in
    let pieces = map (λ p. p.items) c.in_ok-pieces.pieces.items in
    let run = c.drive-run.ensures in
    let written = c.write_run in
    record {
      done = on_ok_weaker written.result (λ done. held c.drive-run.result done run.run run.legal (λ driven written run legal.
          journal_of_run arguments.config arguments.workers arguments.format input _ _ _ session first _ c.in_ok-trace.ensures.ok c.in_ok-pieces.ensures
          AreWalksOfReads (λ n. n ≤ arguments.config.journal_limit) driven.session (reads_made _ arguments.workers _ _ session driven.session c.in_ok-pieces.ensures first.none run) run.opening legal
          (subst (λ l. length driven.session.kept ≤ l) (run.limit ∙ first.limit) written.0) written.1)) written.ensures.written;
      leaves = IfErr-weaker written.result _ _ (λ fault left. leaves arguments.config arguments.workers arguments.format input _ _
          pieces session first _ c.in_ok-trace.ensures.ok c.in_ok-pieces.ensures _ c.drive-run.result first.limit run.fault fault left) written.ensures.leaves;
      fault = IfErr-weaker written.result _ _ (λ fault left. of_run arguments.config arguments.workers arguments.format input _ _
          pieces session first _ c.in_ok-trace.ensures.ok c.in_ok-pieces.ensures (Unit {0}) c.drive-run.result first.limit run.fault fault left) written.ensures.leaves;
      reads = record {
        failing = λ p. absurd (written.ensures.unread p);
        served = λ none. c.in_ok-trace.ensures.tally.served (λ wrong. absurd (cc (c.in_ok-trace.is, wrong)));
      };
      writes = written.ensures.writes;
      flushed = written.ensures.flushed;
    }

pub write_run-requires : goal.write_run-requires
write_run-requires g c =
    let first = c.in_ok-session.ensures in
    let pieces = map (λ p. p.items) c.in_ok-pieces.pieces.items in
    let n : length pieces ≡ c.args.arguments.now.workers = c.in_ok-pieces.ensures.many in
    IfErr-weaker c.drive-run.result _ _ (λ fault left. could_begin fault pieces c.in_ok-session.session left (omega (n, c.requires.some, arith))
    (omega (n, c.requires.few, arith)) (ap (λ x. x.holder) (first.same ∙ first.opened.is))) c.drive-run.ensures.fault
