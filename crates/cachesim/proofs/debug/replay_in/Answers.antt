use Rattle.std.proofs.Common.{◌≡◌, ◌∙◌, ap, subst, ℕ, Bool, List, [], ◌++◌, Option, length, refl, true, false, rules, Err}
use Rattle.std.specs.Prelude.{IfSome}
use Rattle.std.proofs.lemmas.List.{append-nil}
use Rattle.std.proofs.lemmas.Option.{IfSome_then}
use Rattle.shell_model.specs.Shell.{Step, Reply, Shell, act}
use Rattle.journal.specs.Session.{SessionState}
use Rattle.journal_text.specs.Journal.{IsJournalText}
use Rattle.debug_commands.specs.Dialogue.{dialogue_of, WritesDialogue}
use Rattle.debug_commands.specs.Timeline.{TimelineData}
use Rattle.debug_commands.specs.Replay.{replay_timeline}
use Rattle.cachesim.specs.DebugOutput.{Config, Answering, AnsweringBegun, IsReplayed}
use Rattle.cachesim.specs.DriveOutput.{IsEmptySession}
use Rattle.cachesim.specs.FaultCauses.{IsFoundInFile, IsOfReplay}
use Rattle.cachesim.proofs.Found.{answers_left, err_is, known_text, of_dialogue, of_text, past_limit}
use Rattle.cachesim.proofs.debug.replay_in.Goals as goal

-- what holds of a session of an empty cache that read the journal
replayed : (P : TimelineData → ℕ → Type 0) (config : Config) (journal : List ℕ) (first now : SessionState Shell Shell Step Reply)
    → IsEmptySession config first → IsJournalText act first.opening first.limit journal now.kept → now.opening ≡ first.opening → now.tail ≡ []
    → P (replay_timeline now.opening (now.kept ++ now.tail)) (length now.kept) → IsReplayed P config journal
replayed P config journal first now empty read same none h = record {
  opening = first.opening;
  opened = empty.opened;
  steps = now.kept;
  journal = subst (λ l. IsJournalText act first.opening l journal now.kept) empty.limit read;
  answers = subst (λ o. P (replay_timeline o now.kept) (length now.kept)) same
      (subst (λ es. P (replay_timeline now.opening es) (length now.kept)) (ap (λ t. now.kept ++ t) none ∙ append-nil now.kept) h);
}

-- the position at which the session stands then
answering : (all : Bool) (input before after : Option (List ℕ)) (t : TimelineData) (at position : ℕ)
    → IfSome input (λ commands. WritesDialogue (dialogue_of t at commands) all before after position) → Answering all input before after t at
answering all input before after t at position h = IfSome_then input h (λ commands writes. (position, writes))

pub returns : goal.returns
returns g c =
    let known = g.F.Files.known c.args.files.now in
    let text = c.as_slice.result.now in
    let has = known_text known c.as_str.result.now c.args.arguments.now.journal c.in_ok-bytes.bytes.items text c.as_str.ensures c.in_ok-bytes.ensures.bytes c.as_slice.ensures.value in
    record {
      done = of_text _ text _ has (replayed (Answering true (g.R.CountedRead.remaining c.args.input.now) _ _) c.args.arguments.now.config text
          c.args.session.now c.read_journal.new.session c.requires
          c.in_ok-read_journal.ensures.ok c.read_journal.ensures.opening c.read_journal.ensures.tail
          (answering true _ _ _ _ _ (length c.run_replay.new.session.kept) c.in_ok-run_replay.ensures.done));
      leaves = tt;
      fault = tt;
      reads = search rules;
      writes = search rules;
      flushed = search rules;
    }

pub returns-in_err-run_replay : goal.returns-in_err-run_replay
returns-in_err-run_replay g c =
    let config = c.args.arguments.now.config in
    let known = g.F.Files.known c.args.files.now in
    let file = known c.args.arguments.now.journal in
    let input = g.R.CountedRead.remaining c.args.input.now in
    let before = g.W.CountedWrite.contents c.args.out.now in
    let after = g.W.CountedWrite.contents c.run_replay.new.out in
    let text = c.as_slice.result.now in
    let failed = c.in_err-run_replay.ensures in
    let has = known_text known c.as_str.result.now c.args.arguments.now.journal c.in_ok-bytes.bytes.items text c.as_str.ensures c.in_ok-bytes.ensures.bytes c.as_slice.ensures.value in
    record {
      done = search rules;
      leaves = err_is _ c.from_residual-in_err-run_replay.result _ c.from_residual-in_err-run_replay.ensures.1 (answers_left _ _ _ _
          (λ same. of_text _ text _ has (replayed (Answering false input before after) config text
          c.args.session.now c.read_journal.new.session c.requires
          c.in_ok-read_journal.ensures.ok c.read_journal.ensures.opening c.read_journal.ensures.tail
          (answering false input before after _ _ (length c.run_replay.new.session.kept) (failed.large (ap Err same)))))
          (of_text _ text _ has (replayed (AnsweringBegun input before after) config text
          c.args.session.now c.read_journal.new.session c.requires
          c.in_ok-read_journal.ensures.ok c.read_journal.ensures.opening c.read_journal.ensures.tail failed.part)));
      fault = err_is _ c.from_residual-in_err-run_replay.result _ c.from_residual-in_err-run_replay.ensures.1
          (of_dialogue (IsFoundInFile file (IsOfReplay config input)) input _
          (λ h. of_text file text _ has (c.args.session.now.opening, c.requires.opened, (refl, h))) (λ i same. failed.config i (ap Err same))
          (λ same. IfSome_then input (failed.large (ap Err same)) (λ bytes writes. past_limit _ _ bytes writes.fits)));
      reads = search rules;
      writes = search rules;
      flushed = search rules;
    }
