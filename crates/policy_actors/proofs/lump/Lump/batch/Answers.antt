use Rattle.std.proofs.Common.{rules}
use Rattle.std.specs.Arc.{arc_value}
use Rattle.policy_actors.proofs.Lumps.{is_batch}
use Rattle.policy_actors.proofs.lump.Lump.batch.Goals as goal

pub returns : goal.returns
returns g c = let s = c.args.self.now in
    is_batch g.S.FedTrace.size c.args.number s.place c.in_ok-start.start c.min.result s.is_end c.if-left-size-2.result (arc_value s.accesses).items
    (search rules) (search rules) (search rules) (search rules) (search rules) (search rules)
    g.S.FedTrace.most g.S.FedTrace.known _ (search rules) (search rules) (search rules) s.few s.piece s.at_end s.before_end
