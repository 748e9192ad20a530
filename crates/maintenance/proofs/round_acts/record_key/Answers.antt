use Rattle.shell_model.specs.Frequency.{frequency_recorded, shell_frequency_record}
use Rattle.maintenance.proofs.round_acts.record_key.Goals as goal

pub returns-clause-state : goal.returns-clause-state
unfolding frequency_recorded
returns-clause-state c = c.record.ensures.after

pub returns-clause-made : goal.returns-clause-made
unfolding shell_frequency_record
returns-clause-made c = c.record.ensures.record_is
