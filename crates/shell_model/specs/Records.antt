-- The records of steps, and how a record undoes its step.
use Rattle.std.specs.Prelude.{ℕ, ◌-◌, ◌≤◌, Option, Some, None}
use Rattle.shell_model.specs.declared.stats.Counted.TheVariants as counted
pub use Rattle.shell_model.specs.declared.record.ShellRecord.{ShellRecord}
use Rattle.shell_model.specs.declared.record.Change.TheVariants as change
use Rattle.shell_model.specs.ShellStats.{Reply, counted_of, shell_stats_with, AllCounts}
use Rattle.shell_model.specs.Changes.{Change, before_change, FitsChange, change_asks, change_size}
use Rattle.shell_model.specs.Shell.{Step, Shell, act_reply}

-- the count that the reply raises, and the change
abbrev pub record_by : Option (Reply × Change) → ShellRecord
record_by None = record { counted = counted.Nothing; change = change.Nothing }
record_by (Some p) = record { counted = counted_of p.0; change = p.1 }

-- The record of a step, from the shell before it. It is this and nothing beside: its only list is that of a halving
-- that the recording of a key brought.
abbrev pub shell_record_of : Step → Shell → ShellRecord
shell_record_of s x = record_by (act_reply s.worker s.act x)

abbrev pub undone_step : ShellRecord → Shell → Shell
undone_step r x =
    let y = before_change r.change x in
    record y { stats = shell_stats_with (λ n. n - 1) r.counted x.stats; applied = x.applied - 1 }

pub record FitsStep (r : ShellRecord) (x : Shell) : Type 0 where
  pub stats : AllCounts (λ n. 1 ≤ n) r.counted x.stats
  pub applied : 1 ≤ x.applied
  pub change : FitsChange r.change x

abbrev pub step_asks : ShellRecord → Type 0
step_asks r = change_asks r.change

-- the words that the record holds in lists
abbrev pub record_size : ShellRecord → ℕ
record_size r = change_size r.change
