-- The record of a step fits what it left, and undoes it.
use Rattle.std.proofs.Common.{◌≡◌, ℕ, ◌+◌, ◌-◌, ◌≤◌, nat_lt, Option, Some, None, ◌∙◌, refl, arith}
use Rattle.std.proofs.lemmas.Bool.{cond_both}
use native.Mathlib.Numerals.{unary_clauses}
use Rattle.shell_model.specs.declared.stats.Counted.TheVariants as counted
use Rattle.shell_model.specs.declared.stats.ShellStats.{ShellStats}
use Rattle.shell_model.specs.declared.record.Change.TheVariants.{Nothing, Read, Applied, Evicted}
use Rattle.shell_model.specs.Changes.{Change, after_change, before_change, FitsChange}
use Rattle.shell_model.specs.Shell.{Step, Reply, Shell, act_reply, with_shell, act_effect, counted_reply, act}
use Rattle.shell_model.specs.ShellStats.{Counted, counted_of, shell_stats_with, AllCounts, shell_stats_after}
use Rattle.shell_model.specs.Records.{ShellRecord, record_by, shell_record_of, undone_step, FitsStep}
use Rattle.shell_model.specs.Consistency.{IsConsistent}
use Rattle.shell_model.proofs.Undoing.{GoesTo, reply-goes}

plus-less : (a b : ℕ) → a + b - b ≡ a
plus-less a b = omega arith

-- what the reply added is taken away again
uncounted-counted : (c : Counted) (s : ShellStats) → shell_stats_with (λ n. n - 1) c (shell_stats_with (λ n. n + 1) c s) ≡ s
uncounted-counted counted.Nothing s = refl
uncounted-counted _ s = simp unary_clauses

counted-fits : (c : Counted) (s : ShellStats) → AllCounts (λ n. 1 ≤ n) c (shell_stats_with (λ n. n + 1) c s)
counted-fits counted.Nothing s = tt
counted-fits counted.Rejected s = (omega arith, omega arith)
counted-fits _ s = omega arith

tallied-fits : (c : Change) (y : Shell) (s : ShellStats) (n : ℕ) → FitsChange c y → FitsChange c record y { stats = s; applied = n }
tallied-fits (Read k i t) y s n h = (record { moves = h.0.moves; frequency = h.0.frequency; stays = h.0.stays }, h.1, h.2)
tallied-fits (Applied b q i t) y s n h = (record { moves = h.0.moves; frequency = h.0.frequency; stays = h.0.stays }, h.1, h.2, h.3)
tallied-fits (Evicted b g) y s n h = (record { moves = h.0.moves; table = h.0.table }, h.1)
tallied-fits _ y s n h = h

tallied-back : (c : Change) (y : Shell) (s : ShellStats) (n : ℕ) → before_change c record y { stats = s; applied = n } ≡ record (before_change c y) { stats = s; applied = n }
tallied-back Nothing y s n = refl
tallied-back _ y s n = refl

pub same-tally : (c : Change) (y : Shell) → record (before_change c y) { stats = y.stats; applied = y.applied } ≡ before_change c y
same-tally Nothing y = refl
same-tally _ y = refl

abbrev pub IsUndone : ShellRecord → Shell → Option (Reply × Shell) → Type 0
IsUndone r x None = Unit {0}
IsUndone r x (Some p) = FitsStep r p.1 × (undone_step r p.1 ≡ x)

counted-undone : (x : Shell) (o : Option (Reply × Change)) → GoesTo x o → IsUndone (record_by o) x (counted_reply (with_shell x o))
counted-undone x None g = tt
counted-undone x (Some p) g =
    let y : Shell = after_change p.1 x in (
      record {
        stats = counted-fits (counted_of p.0) y.stats;
        applied = omega arith;
        change = tallied-fits p.1 (after_change p.1 x) (shell_stats_after p.0 y.stats) (y.applied + 1) g.fits;
      },
      rw (tallied-back p.1 (after_change p.1 x) (shell_stats_after p.0 y.stats) (y.applied + 1), uncounted-counted (counted_of p.0) y.stats, plus-less y.applied 1) (same-tally p.1 (after_change p.1 x) ∙ g.back),
    )

-- the record of a step of the shell leads back from what the step left
pub act-undone : (x : Shell) (s : Step) → IsConsistent x → IsUndone (shell_record_of s x) x (act x s)
act-undone x s w =
    cond_both (nat_lt x.applied 4294967296) (counted_reply (act_effect s.worker s.act x)) None (IsUndone (shell_record_of s x) x)
    (λ e. counted-undone x (act_reply s.worker s.act x) (reply-goes s.worker s.act x w)) (λ e. tt)
