use Rattle.std.proofs.Common.{◌∙◌, sym, ap, arith, ◌*◌, ◌-◌}
use Rattle.clairvoyant.proofs.Records.{stands, hit-back, kept-back, evicted-back, evicted-within, rejected-back}
use Rattle.clairvoyant.proofs.clairvoyant.OptimalCore.unserve.Goals as goal

pub returns-in-Hit : goal.returns-in-Hit
returns-in-Hit c =
    let s = stands c.args.self.now.capacity c.args.self.now.uses c.args.place _ (sym c.in-Hit.is ∙ c.requires.record) in
    hit-back c.args.self.now.capacity c.args.self.now.uses c.args.place c.requires.place c.args.ranks.now _ c.rank-rank.ensures.rank s c.take.new.self c.put.new.self _ (ap (λ n. 2 * n - 1 - c.args.place) c.len.ensures.len)
    (record { size = c.take.ensures.size; tests = c.take.ensures.takes }) (record { size = c.put.ensures.size; tests = c.put.ensures.puts }) c.requires.tied

pub returns-in-Kept : goal.returns-in-Kept
returns-in-Kept c =
    let s = stands c.args.self.now.capacity c.args.self.now.uses c.args.place _ (sym c.in-Kept.is ∙ c.requires.record) in
    kept-back c.args.self.now.capacity c.args.self.now.uses c.args.place c.requires.place c.args.ranks.now _ c.rank-rank.ensures.rank s c.take-in-Kept.new.self
    (record { size = c.take-in-Kept.ensures.size; tests = c.take-in-Kept.ensures.takes }) c.requires.tied

pub put-requires-in-Evicted : goal.put-requires-in-Evicted
put-requires-in-Evicted c =
    let s = stands c.args.self.now.capacity c.args.self.now.uses c.args.place _ (sym c.in-Evicted.is ∙ c.requires.record) in
    let within = evicted-within c.args.self.now.capacity c.args.self.now.uses c.args.place c.requires.place c.args.ranks.now _ c.rank-rank.ensures.rank c.in-Evicted.gone s in
    omega (arith, within, c.take-in-Evicted.ensures.size, c.requires.tied.size)

pub returns-in-Evicted : goal.returns-in-Evicted
returns-in-Evicted c =
    let s = stands c.args.self.now.capacity c.args.self.now.uses c.args.place _ (sym c.in-Evicted.is ∙ c.requires.record) in
    evicted-back c.args.self.now.capacity c.args.self.now.uses c.args.place c.requires.place c.args.ranks.now _ c.rank-rank.ensures.rank c.in-Evicted.gone s c.take-in-Evicted.new.self c.put-in-Evicted.new.self
    (record { size = c.take-in-Evicted.ensures.size; tests = c.take-in-Evicted.ensures.takes })
    (record { size = c.put-in-Evicted.ensures.size; tests = c.put-in-Evicted.ensures.puts }) c.requires.tied

pub returns-in-Rejected : goal.returns-in-Rejected
returns-in-Rejected c =
    let s = stands c.args.self.now.capacity c.args.self.now.uses c.args.place _ (sym c.in-Rejected.is ∙ c.requires.record) in
    rejected-back c.args.self.now.capacity c.args.self.now.uses c.args.place c.requires.place c.args.ranks.now _ c.rank-rank.ensures.rank _ s c.requires.tied
