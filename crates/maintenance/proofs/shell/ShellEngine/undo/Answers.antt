use Rattle.shell_model.proofs.Reached.{reached-sound}
use Rattle.shell_model.specs.Records.{undone_step}
use Rattle.maintenance.proofs.shell.ShellEngine.undo.Goals as goal

pub undo-requires-clause-left : goal.undo-requires-clause-left
undo-requires-clause-left c = rw c.self.view_is (reached-sound (undone_step c.args.done c.args.self.now) c.requires.reached).left
