use Rattle.std.proofs.Common.{Option, option_map, ap, ◌∙◌, arith, None}
use Rattle.replacement.specs.Admission.{admits_in}
use Rattle.replacement.specs.Table.{Queue, hit_in}
use Rattle.replacement.proofs.Leaving.{hit-effect}
use Rattle.replacement.proofs.accesses.access_planned.Goals as goal
use Rattle.replacement.proofs.Planned.{plan-at}
use Rattle.std.proofs.lemmas.Bool.Decides.{nat_tests}

pub windowed-requires-clause-room : goal.windowed-requires-clause-room
windowed-requires-clause-room g c = let a = c.requires.room (c.hit.ensures.absent.0 c.in-None.is) in let b = c.hit.ensures.spare in omega arith

pub direct-requires-clause-room : goal.direct-requires-clause-room
direct-requires-clause-room g c = let a = c.requires.room (c.hit.ensures.absent.0 c.in-None.is) in let b = c.hit.ensures.spare in omega arith

pub returns-in-Some-clause-effect : goal.returns-in-Some-clause-effect
returns-in-Some-clause-effect g c =
    hit-effect c.args.rules.now (admits_in (option_map (λ f. f.now) c.args.frequency)) c.args.item c.args.segments.now.lists c.hit.new.segments.lists c.in-Some.moves c.in-Some.ensures.record

pub returns-in-Windowed-clause-effect : goal.returns-in-Windowed-clause-effect
returns-in-Windowed-clause-effect g c =
    let absent = c.hit.ensures.absent.0 c.in-None.is in
    let same = c.hit.ensures.lists ∙ ap (λ (p : Option Queue). hit_in c.args.rules.now.protected c.args.item p c.args.segments.now.lists) absent in
    (grind (arith, nat_tests, plan-at c.args.rules.now (admits_in (option_map (λ f. f.now) c.args.frequency)) c.args.item c.args.segments.now.lists None absent))

pub returns-in-Direct-clause-effect : goal.returns-in-Direct-clause-effect
returns-in-Direct-clause-effect g c =
    let absent = c.hit.ensures.absent.0 c.in-None.is in
    let same = c.hit.ensures.lists ∙ ap (λ (p : Option Queue). hit_in c.args.rules.now.protected c.args.item p c.args.segments.now.lists) absent in
    (grind (arith, nat_tests, plan-at c.args.rules.now (admits_in (option_map (λ f. f.now) c.args.frequency)) c.args.item c.args.segments.now.lists None absent))
