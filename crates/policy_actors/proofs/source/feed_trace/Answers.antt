use Rattle.std.proofs.lemmas.Grind.{common_steps}
use Rattle.std.proofs.Common.{◌∙◌, arith, length, ap, List, ℕ, length-drop}
use Rattle.policy_actors.proofs.Pieces.{begun, ended, followed, grown, next, room}
use Rattle.policy_actors.proofs.source.feed_trace.Goals as goal

pub loop-rest-init : goal.loop-rest-init
loop-rest-init g c = begun c.args.trace.now c.new-read.result.items c.keys-rest.result.now c.args.feeder.now.place c.requires.none c.new-read.ensures.items c.keys-rest.ensures.keys

pub take-requires-clause-few : goal.take-requires-clause-few
take-requires-clause-few g c = let l = c.loop-rest in let all = c.args.trace.now in let s = c.split_at in let read = c.extend_from_slice.new.self.items in
    omega (
      arith,
      c.requires.few,
      room all read s.result.1.now l.feeder.place l.invariant.0
          (grown all l.read.items l.rest.now s.result.0.now read s.result.1.now l.feeder.place 65536 l.invariant.1 c.in_ok-extend_from_slice.ensures.items s.ensures.front s.ensures.back),
    )

pub take-requires-clause-next : goal.take-requires-clause-next
take-requires-clause-next g c = let l = c.loop-rest in let all = c.args.trace.now in let s = c.split_at in let read = c.extend_from_slice.new.self.items in
    next all read s.result.1.now l.feeder.place l.invariant.0
    (grown all l.read.items l.rest.now s.result.0.now read s.result.1.now l.feeder.place 65536 l.invariant.1 c.in_ok-extend_from_slice.ensures.items s.ensures.front s.ensures.back)
    g.S.FedTrace.known c.requires.known

pub loop-rest-smaller : goal.loop-rest-smaller
loop-rest-smaller g c = let e = ap (λ (l : List ℕ). length l) c.split_at.ensures.back in omega (arith, e, length-drop 65536 c.loop-rest.rest.now, c.loop-rest-test.true)

pub loop-rest-preserved : goal.loop-rest-preserved
loop-rest-preserved g c = let l = c.loop-rest in let all = c.args.trace.now in let s = c.split_at in let read = c.extend_from_slice.new.self.items in let f = c.take.ensures in
    followed all read s.result.1.now l.feeder.place l.invariant.0
    (grown all l.read.items l.rest.now s.result.0.now read s.result.1.now l.feeder.place 65536 l.invariant.1 c.in_ok-extend_from_slice.ensures.items s.ensures.front s.ensures.back)
    c.take.new.keys.items c.take.new.self.place f.order f.taken f.left

pub give-requires-clause-few : goal.give-requires-clause-few
give-requires-clause-few g c = let l = c.loop-rest in let all = c.args.trace.now in
    omega (arith, c.requires.few, (ended all l.read.items l.rest.now _ l.feeder.place l.invariant.0 l.invariant.1 c.in_ok-extend_from_slice-2.ensures.items).0)

pub give-requires-clause-next : goal.give-requires-clause-next
give-requires-clause-next g c = grind (arith, common_steps)

pub returns : goal.returns
returns g c = let l = c.loop-rest in
    c.give.ensures.place ∙ (ended c.args.trace.now l.read.items l.rest.now _ l.feeder.place l.invariant.0 l.invariant.1 c.in_ok-extend_from_slice-2.ensures.items).0
