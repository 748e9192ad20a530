use Rattle.maintenance.proofs.shell.Shell.reachable.Goals as goal

pub returns : goal.returns
returns c = rw (← c.self.view_is) c.self.invariant
