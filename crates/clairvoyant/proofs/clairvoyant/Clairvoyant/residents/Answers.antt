use Rattle.std.proofs.Common.{◌≡◌, ℕ, ◌+◌, ◌<◌, ◌*◌, List, length, arith, ap, ◌∙◌, sym, subst}
use Rattle.std.proofs.lemmas.List.Sorted.{IsNonDecreasingBy-from_sort}
use Rattle.engine_base.specs.Stats.{one_if}
use Rattle.clairvoyant.specs.Belady.{belady_residents}
use Rattle.clairvoyant.proofs.Belady.{residents-seen}
use Rattle.clairvoyant.proofs.Listing.{times, is_listed, listed-held, listed-other, listed-residents}
use Rattle.clairvoyant.proofs.clairvoyant.Clairvoyant.residents.Goals as goal
use Rattle.clairvoyant.proofs.clairvoyant.Clairvoyant.residents.Goals.{then-has+in_ok-push, else-has}

pub loop-rank-preserved : goal.loop-rank-preserved
loop-rank-preserved c =
    let s = c.self.inside in
    let t = s.core.uses in
    let i = s.stats.accesses in
    let r = belady_residents s.core.capacity t i in
    let q = c.loop-rank.rank in
    let keys = c.loop-rank.keys.items in
    let within : q < 2 * length t = omega (arith, c.loop-rank-test.true, c.len-size.ensures.len) in
    let P : List ℕ → Type 0 = λ l. (k : ℕ) → times k l ≡ one_if (is_listed t i r (q + 1) k) in
    record {
      all = elim c.if-has.branch [
        | then-has+in_ok-push w ↦ subst P (sym (ap (λ v. v.items) w.keys-is ∙ w.in_ok-push.ensures.items))
            (listed-held t i r c.self.invariant.reached.within (residents-seen s.core.capacity t i) s.ranks c.self.invariant.tied q within keys c.loop-rank.invariant.all w.key_at.result w.key_at.ensures (sym c.has.ensures ∙ w.if-has.true))
        | else-has w ↦ subst P (sym (ap (λ v. v.items) w.keys-is))
            (listed-other t i r c.self.invariant.reached.within (residents-seen s.core.capacity t i) s.ranks c.self.invariant.tied q within keys c.loop-rank.invariant.all (sym c.has.ensures ∙ w.if-has.false))
      ];
    }

pub returns : goal.returns
returns c =
    let s = c.self.inside in
    let t = s.core.uses in
    let i = s.stats.accesses in
    let r = belady_residents s.core.capacity t i in
    let keys = c.loop-rank.keys.items in
    let end : c.loop-rank.rank ≡ 2 * length t = omega (arith, c.loop-rank-test.false, c.loop-rank.auto.rank-end, c.len-size.ensures.len) in
    let P : ℕ → Type 0 = λ n. (k : ℕ) → times k keys ≡ one_if (is_listed t i r n k) in
    listed-residents s.core.capacity t i keys c.sort_unstable.new.self.items c.self.invariant.reached.within (subst P end c.loop-rank.invariant.all) c.sort_unstable.ensures.permutation
    (IsNonDecreasingBy-from_sort (λ x. x) c.sort_unstable.new.self.items c.sort_unstable.ensures.sorted)
    ∙ ap (λ d. d.residents) c.self.view_is
