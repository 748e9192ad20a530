use Rattle.shell_model.specs.Frequency.{frequency_unrecorded, FitsFrequency}
use Rattle.maintenance.proofs.undo.unrecord_key.Goals as goal

pub unrecord-requires : goal.unrecord-requires
unfolding FitsFrequency
unrecord-requires c = c.requires

pub returns : goal.returns
unfolding frequency_unrecorded
returns c = c.unrecord.ensures
