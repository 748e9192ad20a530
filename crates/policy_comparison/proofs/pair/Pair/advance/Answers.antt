use Rattle.std.proofs.Common.{OnOk, subst}
use Rattle.std.proofs.iter.Serving.{serving}
use Rattle.streams.proofs.Results.{at_success}
use Rattle.policy_comparison.specs.Pair.{HasMade}
use Rattle.policy_comparison.proofs.pair.Pair.advance.Goals as goal

pub join_mut-one-requires-after_bounds : goal.join_mut-one-requires-after_bounds
join_mut-one-requires-after_bounds g c κs within =
    let n = c.requires in (
      (n.0, record { trace = n.2.trace; place = n.2.place; next = n.2.next; few = n.2.few; taken = n.2.taken.one }),
      (n.1, record { trace = n.2.trace; place = n.2.place; next = n.2.next; few = n.2.few; taken = n.2.taken.other }),
    )

pub returns : goal.returns
returns g c = λ first second trace n next has.
    let both = c.join_mut-one in
    let one : OnOk both.result.0 (HasMade c.args.keys.now c.args.self.now.first both.new.f.0.now) = grind (serving, both.ensures) in
    let other : OnOk both.result.1 (HasMade c.args.keys.now c.args.self.now.second both.new.g.0.now) = grind (serving, both.ensures) in
    let made = subst (λ r. OnOk r (HasMade c.args.keys.now c.args.self.now.first both.new.f.0.now)) c.in_ok-one.was one in
    at_success both.result.1 _ _ (λ more. record { one = made.noted first trace n next has.one; other = more.noted second trace n next has.other }) other
