use Rattle.std.proofs.Common.{◌≡◌, [], Ok}
use Rattle.std.proofs.lemmas.List.Elements.{All-cons, All-nil}
use Rattle.engine_base.specs.Config.{config_fault}
use Rattle.policies.specs.Design.{Job}
use Rattle.thread_tests.proofs.queue_tests.the_queues_over_a_trace_that_is_kept.Goals as goal

abbrev IsChecked : Job → Type 0
IsChecked job = config_fault job.config ≡ Ok tt

pub queues_text-requires-clause-checked : goal.queues_text-requires-clause-checked
queues_text-requires-clause-checked g c κs =
    All-cons IsChecked c.in_ok-online_job.field-0 [] (c.in_ok-online_job.ensures 0).0 (All-nil IsChecked)
