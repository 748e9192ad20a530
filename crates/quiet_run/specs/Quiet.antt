-- The simulation: a concurrent cache at which nothing is under way, beside a cache of W-TinyLFU.
use Rattle.std.specs.Prelude.{◌≡◌, ◌≤◌, Some, None, [], length, replicate}
pub use Rattle.engine_base.specs.declared.config.Config.{Config}
use Rattle.engine_base.specs.declared.drain.Drain.TheVariants.{Idle}
use Rattle.segments.specs.Items.{Item, occurrences}
use Rattle.queue_cache.specs.declared.design.QueueSetup.{QueueSetup}
use Rattle.queue_cache.specs.QueueCache.{QueueState}
use Rattle.queue_cache.specs.WindowTinyLfu.{window_tiny_lfu}
use Rattle.shell_model.specs.Shell.{Shell, window_size}
use Rattle.replacement.specs.Counts.{queue_occurrences}
use Rattle.quiet_run.specs.Nodes.{nodeless_queues, HasKeysOnce}

-- W-TinyLFU on the same configuration
abbrev pub quiet_setup : Config → QueueSetup
quiet_setup c = record { design = window_tiny_lfu; config = c }

-- The shell x holds what the policy's cache d holds, and nothing waits in it: the three queues have the same keys in
-- the same order, the table lists just what is queued, each key once, and the frequency is the same.
pub record IsQuiet (x : Shell) (d : QueueState) : Type 0 where
  pub setup : d.setup ≡ quiet_setup x.config
  pub queues : d.queues ≡ nodeless_queues x.queues
  pub frequency : d.frequency ≡ Some x.frequency
  pub table : (i : Item) → occurrences i x.table ≡ queue_occurrences i x.queues
  pub once : HasKeysOnce x.queues
  pub window : length x.queues.window ≤ window_size x.config
  pub stripes : x.stripes ≡ replicate x.config.stripes []
  pub writes : x.writes ≡ []
  pub drain : x.drain ≡ Idle
  pub holder : x.holder ≡ None
