use Rattle.std.proofs.Common.{◌≡◌, ◌∙◌, ◌+◌, ◌*◌, ◌≤◌, Bool, ℕ, List, drop, get_or, take, ap, sym, arith, length-drop}
use Rattle.std.proofs.lemmas.List.{get_or-drop}
use Rattle.engine_base.specs.declared.limits.TheConstants.{MAX_STEPS}
use Rattle.policy_comparison.specs.CacheAccess.{StandsAt}
use Rattle.policy_comparison.specs.Comparison.{Comparison, counts_of}
use Rattle.policy_comparison.specs.ComparedRows.{EndsRow, HasCounted, HasCut, rows_in}
use Rattle.policy_comparison.proofs.Compared.{counts-few, counts-more}
use Rattle.policy_comparison.proofs.CutHits.{all-are}
use Rattle.policy_comparison.proofs.compared_rows.ComparedRows.count.Goals.{After-count-2}
use Rattle.policy_comparison.proofs.compared_rows.ComparedRows.count.Goals as goal

pub count-requires : goal.count-requires
count-requires c = let n = c.requires in counts-few n.hits n.place c.args.self.now.counts MAX_STEPS n.few n.counted.cut.counts

pub count-requires-2 : goal.count-requires-2
count-requires-2 c =
    let n = c.requires in
    let old = c.args.self.now in
    let past = rows_in old * n.every in
    counts-few (drop past n.hits) old.interval.accesses old.interval MAX_STEPS (omega (arith, n.few, length-drop past n.hits)) n.counted.cut.interval

-- so many are counted, one of them more than before
more : (c : goal.After-count-2) (every : ℕ) (hits : List (Bool × Bool)) (n : ℕ) → StandsAt hits n (c.args.first, c.args.second)
    → HasCounted every hits n c.args.self.now
    → HasCut every hits (n + 1) (record c.args.self.now { counts = c.count.new.self; interval = c.count-2.new.self })
more c every hits n next has =
    let old = c.args.self.now in
    let hit : Bool × Bool = (c.args.first, c.args.second) in
    let past = rows_in old * every in
    let one : c.count-2.new.self.accesses ≡ old.interval.accesses + 1 = ap (λ (x : Comparison). x.accesses) c.count-2.ensures in
    let behind : StandsAt (drop past hits) old.interval.accesses hit = record {
      within = omega (arith, next.within, has.cut.place, length-drop past hits);
      same = λ d. get_or-drop past hits old.interval.accesses d ∙ ap (λ k. get_or hits k d) (sym has.cut.place) ∙ next.same d;
    }
    in
    record {
      size = has.cut.size;
      some = has.cut.some;
      within = omega (arith, next.within);
      counts = c.count.ensures ∙ counts-more hits n hit old.counts next has.cut.counts;
      interval = c.count-2.ensures ∙ counts-more (drop past hits) old.interval.accesses hit old.interval behind has.cut.interval
          ∙ ap (λ k. counts_of (take k (drop past hits))) (sym one);
      rows = has.cut.rows;
      place = omega (arith, has.cut.place, one);
    }

-- with the last one of an interval
last : (c : goal.After-count-2) (every : ℕ) (hits : List (Bool × Bool)) (n : ℕ) → StandsAt hits n (c.args.first, c.args.second)
    → HasCounted every hits n c.args.self.now → c.args.self.now.every ≤ c.count-2.new.self.accesses
    → EndsRow every hits (n + 1) (record c.args.self.now { counts = c.count.new.self; interval = c.count-2.new.self })
last c every hits n next has end =
    let old = c.args.self.now in
    let one : c.count-2.new.self.accesses ≡ old.interval.accesses + 1 = ap (λ (x : Comparison). x.accesses) c.count-2.ensures in
    let whole : c.count-2.new.self.accesses ≡ every = omega (arith, one, has.cut.size, has.few, end) in
    record { cut = more c every hits n next has; end = ap (λ k. take k (drop (rows_in old * every) hits)) whole }

pub returns-then-self : goal.returns-then-self
returns-then-self c = λ every hits n next has.
    record { cut = more ((goal.at.returns-then-self c).After-count-2) every hits n next has; few = c.if-self.true }

pub end_row-requires-clause-begun : goal.end_row-requires-clause-begun
end_row-requires-clause-begun c =
    let n = c.requires in
    let all = all-are n.every n.hits (n.place + 1) _ (more ((goal.at.end_row-requires-clause-begun c).After-count-2) n.every n.hits n.place n.next n.counted) in
    record { some = omega (arith, ap (λ (x : Comparison). x.accesses) c.count-2.ensures); part = omega (arith, all) }

pub end_row-requires-clause-whole : goal.end_row-requires-clause-whole
end_row-requires-clause-whole c =
    let one : c.count-2.new.self.accesses ≡ c.args.self.now.interval.accesses + 1 = ap (λ (x : Comparison). x.accesses) c.count-2.ensures in
    omega (arith, one, c.if-self.false, c.requires.counted.few)

pub returns : goal.returns
returns c = λ every hits n next has. c.end_row.ensures every hits (n + 1) (last ((goal.at.returns c).After-count-2) every hits n next has c.if-self.false)
