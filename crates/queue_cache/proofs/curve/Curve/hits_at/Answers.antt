use Rattle.std.proofs.Common.{◌≡◌, ◌-◌, ◌<◌, suc, length, sym, ap, ◌∙◌, arith}
use Rattle.std.proofs.lemmas.List.{get_or_read}
use Rattle.queue_cache.specs.Curve.{CurveData}
use Rattle.queue_cache.specs.Distances.{hits_within}
use Rattle.queue_cache.proofs.Prefix.{no-hits}
use Rattle.queue_cache.proofs.Reading.{hits-there}
use Rattle.queue_cache.proofs.curve.Curve.hits_at.Goals as goal

pub returns-then-capacity-eq0 : goal.returns-then-capacity-eq0
returns-then-capacity-eq0 c = λ keys gives. sym (ap (λ m. hits_within m keys) c.if-capacity-eq0.true ∙ no-hits keys)

pub returns : goal.returns
returns c = λ keys gives.
    let hits = c.self.inside.hits.items in let n = c.args.capacity in
    let on : suc (n - 1) ≡ n = omega arith in
    let within : n - 1 < length hits = omega (arith, c.requires, ap (λ (d : CurveData). length d.hits) c.self.view_is) in
    get_or_read hits _ _ within c.index.ensures 0 ∙ (hits-there keys hits c.self.inside.accesses (c.self.view_is ∙ gives) (n - 1) within ∙ ap (λ m. hits_within m keys) on)
