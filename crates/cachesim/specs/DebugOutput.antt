-- What `debug` and `replay` write: answers to the commands of the input, about what a file has.
use Rattle.std.specs.Prelude.{ℕ, Bool, List, Option, IfSome, length}
pub use Rattle.engine_base.specs.declared.config.Config.{Config}
use Rattle.engine_base.specs.History.{Entries}
pub use Rattle.command_line.specs.declared.arguments.PartArguments.{PartArguments}
use Rattle.shell_model.specs.Shell.{Shell, act}
use Rattle.maintenance.specs.EmptyShell.{IsOpened}
use Rattle.streams.specs.Part.{AppendsPart}
use Rattle.journal_text.specs.Journal.{IsJournalText}
use Rattle.debug_commands.specs.Dialogue.{dialogue_of, WritesDialogue}
use Rattle.debug_commands.specs.Timeline.{TimelineData}
use Rattle.debug_policies.specs.TwoPolicies.{policies_timeline}
use Rattle.debug_commands.specs.Replay.{replay_timeline}
use Rattle.cachesim.specs.TraceOutput.{IfFaultless}

-- what is known of the bytes of the file at a path
abbrev pub KnownFiles : Type 0
KnownFiles = List ℕ → Option (List ℕ)

-- the bytes written answer the commands of the input about the timeline, from a position on: all of them, or those
-- before a line that is too large
abbrev pub Answering : Bool → Option (List ℕ) → Option (List ℕ) → Option (List ℕ) → TimelineData → ℕ → Type 0
Answering all input before after t at =
    IfSome input (λ commands. (position : ℕ) × WritesDialogue (dialogue_of t at commands) all before after position)

-- the bytes written are a beginning of these answers
abbrev pub AnsweringBegun : Option (List ℕ) → Option (List ℕ) → Option (List ℕ) → TimelineData → ℕ → Type 0
AnsweringBegun input before after t at =
    IfSome input (λ commands. AppendsPart before after (dialogue_of t at commands).text)

-- the bytes of the file have no fault, and P holds of the two policies over its accesses, none of them made at first
abbrev pub Debugging : (TimelineData → ℕ → Type 0) → PartArguments → Option (List ℕ) → Type 0
Debugging P asked file = IfFaultless asked.format file (λ keys. P (policies_timeline keys asked.first asked.second) 0)

-- the bytes are a journal of steps from the empty cache of the configuration on, and P holds of them, all of them made at
-- first
pub record IsReplayed (P : TimelineData → ℕ → Type 0) (config : Config) (bytes : List ℕ) : Type 0 where
  pub opening : Shell
  pub opened : IsOpened config opening
  pub steps : Entries
  pub journal : IsJournalText act opening config.journal_limit bytes steps
  pub answers : P (replay_timeline opening steps) (length steps)

abbrev pub Replaying : (TimelineData → ℕ → Type 0) → Config → Option (List ℕ) → Type 0
Replaying P config file = IfSome file (IsReplayed P config)
