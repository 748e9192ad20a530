use Rattle.std.proofs.Common.{◌≡◌, ◌+◌, ◌≤◌, ℕ, List, min, length, sym, ◌∙◌, arith}
use Rattle.queue_cache.specs.Curve.{curve_of}
use Rattle.queue_cache.specs.Distances.{hits_within}
use Rattle.queue_cache.proofs.Counting.{hits-and-held, stats-read}
use Rattle.queue_cache.proofs.Reading.{counted, hits-long, hits-read}
use Rattle.queue_cache.proofs.curve.Curve.stats.Goals as goal
use Rattle.queue_cache.proofs.curve.Curve.stats.Goals.{After-hits_at-hits}

is-held : (c : goal.After-hits_at-hits) → c.min-held.result ≡ min (length c.self.inside.hits.items) c.args.capacity
is-held c = omega (arith, c.min-held.ensures, c.len.ensures)

read : (c : goal.After-hits_at-hits) (keys : List ℕ) → c.args.self.now ≡ curve_of keys → c.hits_at-hits.result ≡ hits_within c.args.capacity keys
read c keys gives = c.hits_at-hits.ensures keys gives ∙ hits-read keys c.self.inside.hits.items c.self.inside.accesses (c.self.view_is ∙ gives) c.args.capacity c.min-held.result (is-held c)

room : (c : goal.After-hits_at-hits) → c.hits_at-hits.result + c.min-held.result ≤ c.self.inside.accesses
room c =
    let i = c.self.invariant in let hits = c.self.inside.hits.items in let n = c.self.inside.accesses in
    omega (arith, hits-and-held c.args.capacity i.keys, read c i.keys (sym c.self.view_is ∙ i.gives), is-held c, hits-long i.keys hits n i.gives, counted i.keys hits n i.gives)

pub stats_by-requires : goal.stats_by-requires
stats_by-requires c = omega (arith, room (goal.at.stats_by-requires c).After-hits_at-hits)

pub returns : goal.returns
returns c = λ s keys gives is-lru cap.
    let at = (goal.at.returns c).After-hits_at-hits in
    let hits = c.self.inside.hits.items in let n = c.self.inside.accesses in let is = c.self.view_is ∙ gives in
    c.stats_by.ensures ∙ stats-read s keys n c.hits_at-hits.result c.min-held.result c.args.capacity is-lru cap c.requires (counted keys hits n is) (read at keys gives) (omega (arith, is-held at, hits-long keys hits n is))
