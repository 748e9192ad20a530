use Rattle.std.proofs.Common.{rules, ◌≡◌, ◌≤◌, Ok}
use Rattle.engine_base.specs.Config.{config_fault}
use Rattle.engine_base.specs.declared.config.Config.{Config}
use Rattle.engine_base.specs.declared.limits.TheConstants.{MAX_JOURNAL_LIMIT}
use Rattle.cachesim.proofs.drive.open_session.Goals as goal

-- an accepted configuration has a journal limit in its range
limit_within : (config : Config) → config_fault config ≡ Ok tt → (1 ≤ config.journal_limit) × (config.journal_limit ≤ MAX_JOURNAL_LIMIT)
limit_within config ok = search rules

pub open-requires-clause-limit : goal.open-requires-clause-limit
open-requires-clause-limit c = limit_within c.args.config.now c.requires
