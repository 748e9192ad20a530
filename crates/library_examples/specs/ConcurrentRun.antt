-- A session of the concurrent cache in which nothing happened yet.
use Rattle.std.specs.Prelude.{◌≡◌, [], None}
use Rattle.engine_base.specs.declared.limits.TheConstants.{MAX_JOURNAL_LIMIT}
use Rattle.journal.specs.Session.{SessionState}
use Rattle.shell_model.specs.Shell.{Step, Reply, Shell}
use Rattle.maintenance.specs.EmptyShell.{Config, IsOpened}

-- no step was made, the cache is one that was just opened, and there is room for as many steps as a session may have
pub record IsNew (c : Config) (s : SessionState Shell Shell Step Reply) : Type 0 where
  pub opening : IsOpened c s.opening
  pub free : s.engine.holder ≡ None
  pub kept : s.kept ≡ []
  pub tail : s.tail ≡ []
  pub limit : s.limit ≡ MAX_JOURNAL_LIMIT
