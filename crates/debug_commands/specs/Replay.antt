-- The session of a concurrent cache as the debugger walks it: its steps are the applied and the undone ones together.
use Rattle.std.specs.Prelude.{ℕ, ◌-◌, Bool, true, false, nat_lt, Option, Some, None, [], ◌++◌, length, take}
use Rattle.std.specs.Prelude.{slice_get}
use Rattle.std.specs.Borrow.{GName, MutBor}
pub use Rattle.engine_base.specs.declared.entry.Entry.{Entry}
use Rattle.engine_base.specs.declared.step.Act.TheVariants.{Look}
use Rattle.engine_base.specs.declared.step.Reply.TheVariants.{Hit, Full, Lost, Evicted, Rejected}
use Rattle.engine_base.specs.History.{data_after, Entries}
use Rattle.journal.specs.Session.{SessionState}
use Rattle.debug_commands.specs.Timeline.{TimelineData}
use Rattle.debug_commands.specs.declared.breakpoint.StepFacts.{StepFacts}
use Rattle.debug_commands.specs.declared.command.Dialect.TheVariants.{Journal}
use Rattle.journal_text.specs.Journal.{Step, Reply, journal_of}
use Rattle.journal_text.specs.declared.version.Version.TheVariants.{Two}
use Rattle.shell_model.specs.Shell.{Act, Shell, act}
use Rattle.debug_commands.specs.ShownState.{shown_text}

-- the key of a look that found it
abbrev pub hit_key : Act → Reply → Option ℕ
hit_key (Look key) (Hit node) = Some key
hit_key a r = None

-- the key that an eviction took out
abbrev pub left_on_step : Reply → Option ℕ
left_on_step (Evicted item) = Some item.key
left_on_step (Rejected item) = Some item.key
left_on_step r = None

-- whether the reply drops an offer
abbrev pub is_dropped : Reply → Bool
is_dropped Full = true
is_dropped Lost = true
is_dropped r = false

abbrev pub step_facts : Act → Reply → Bool → StepFacts
step_facts a r halved = record {
  hit = hit_key a r;
  evicted = left_on_step r;
  evicted_too = None;
  halved = halved;
  parted = false;
  dropped = is_dropped r;
}

-- the state after the first n steps
abbrev pub state_at : Shell → Entries → ℕ → Shell
state_at opening steps n = data_after act opening (take n steps)

-- the age of the sketch falls at step n
abbrev pub halves_on_step : Shell → Entries → ℕ → Bool
halves_on_step opening steps n =
    nat_lt (state_at opening steps n).frequency.age (state_at opening steps (n - 1)).frequency.age

abbrev pub entry_facts : Option (Entry Step Reply) → Bool → StepFacts
entry_facts None halved =
    record { hit = None; evicted = None; evicted_too = None; halved = halved; parted = false; dropped = false }
entry_facts (Some e) halved = step_facts e.step.act e.reply halved

abbrev pub replay_timeline : Shell → Entries → TimelineData
replay_timeline opening steps = record {
  dialect = Journal;
  end = length steps;
  facts = λ n. entry_facts (slice_get steps (n - 1)) (halves_on_step opening steps n);
  shown = λ n. shown_text (state_at opening steps n);
  viewed = λ v n. [];
  own = λ n. journal_of Two (take n steps);
}

-- what a walk through a borrowed session leaves: which one it is, the state it was opened on, its limit, and its steps,
-- applied and undone together
pub record Walked : Type 0 where
  pub name : GName
  pub opening : Shell
  pub limit : ℕ
  pub steps : Entries

abbrev pub walked_in : MutBor (SessionState Shell Shell Step Reply) → Walked
walked_in s = record {
  name = s.ghost_name;
  opening = s.now.opening;
  limit = s.now.limit;
  steps = s.now.kept ++ s.now.tail;
}
