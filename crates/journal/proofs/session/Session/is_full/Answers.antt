use Rattle.journal.proofs.Chain.{sound_of}
use Rattle.journal.proofs.session.Session.is_full.Goals as goal

pub returns-clause-sound : goal.returns-clause-sound
returns-clause-sound g c = rw (← c.self.view_is) (sound_of g.E.Engine.act g.E.Engine.record_of g.E.Engine.fits g.E.Engine.undone g.E.Engine.words_of g.E.Engine.count g.E.Engine.pace g.met.E.Engine.counted g.met.E.Engine.paced g.E.Engine.seen _ _ _ _ _ c.self.invariant.journal)
