-- Which journal can be copied.
use Rattle.std.specs.Prelude.{◌≡◌, ◌≤◌, [], length}
use Rattle.journal.specs.Session.{SessionState}
use Rattle.shell_model.specs.Shell.{Step, Reply, Shell}
use Rattle.maintenance.specs.EmptyShell.{Config, IsOpened}

-- The copy was opened alike, has no entry yet, and has room for those of the session.
pub record CanHold (session copy : SessionState Shell Shell Step Reply) : Type 0 where
  pub alike : copy.opening ≡ session.opening
  pub kept : copy.kept ≡ []
  pub tail : copy.tail ≡ []
  pub room : length session.kept ≤ copy.limit

-- two caches just opened with one configuration are one state
abbrev pub OpenedAlikeLaw : Type 0
OpenedAlikeLaw = (c : Config) (x y : Shell) → IsOpened c x → IsOpened c y → y ≡ x
