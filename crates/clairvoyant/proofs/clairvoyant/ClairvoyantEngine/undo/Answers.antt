use Rattle.std.proofs.lemmas.Bool.Decides.{nat_tests}
use Rattle.std.proofs.Common.{arith, subst, sym}
use Rattle.clairvoyant.specs.RankSet.{IsTied}
use Rattle.clairvoyant.specs.Belady.{belady_residents}
use Rattle.engine_base.specs.Stats.{IsCounted}
use Rattle.clairvoyant.proofs.Undoing.{fitting, up, back-counted, back-shown, back-keeping}
use Rattle.clairvoyant.proofs.clairvoyant.ClairvoyantEngine.undo.Goals as goal

pub overflow_sub-place : goal.overflow_sub-place
overflow_sub-place c = let s = c.self.inside in omega (arith, up s.core.capacity s.core.uses s.stats c.args.done c.args.self.now c.self.view_is c.self.invariant.reached c.requires)

pub unserve-requires-clause-place : goal.unserve-requires-clause-place
unserve-requires-clause-place c = let s = c.self.inside in omega (arith, up s.core.capacity s.core.uses s.stats c.args.done c.args.self.now c.self.view_is c.self.invariant.reached c.requires, c.self.invariant.reached.within)

pub unserve-requires-clause-tied : goal.unserve-requires-clause-tied
unserve-requires-clause-tied c =
    let s = c.self.inside in
    subst (λ n. IsTied s.core.uses n (belady_residents s.core.capacity s.core.uses n) s.ranks) (up s.core.capacity s.core.uses s.stats c.args.done c.args.self.now c.self.view_is c.self.invariant.reached c.requires) c.self.invariant.tied

pub unserve-requires-clause-record : goal.unserve-requires-clause-record
unserve-requires-clause-record c = let s = c.self.inside in (fitting s.core.capacity s.core.uses s.stats c.args.done c.args.self.now c.self.view_is c.self.invariant.reached c.requires).last

pub uncount-requires : goal.uncount-requires
uncount-requires c = let s = c.self.inside in subst (λ o. IsCounted o s.stats) (sym c.outcome.ensures) (back-counted s.core.capacity s.core.uses s.stats c.args.done c.args.self.now c.self.view_is c.self.invariant.reached c.requires)

pub invariant_of-self : goal.invariant_of-self
invariant_of-self c = grind (arith, nat_tests, back-keeping)

pub returns-clause-ok : goal.returns-clause-ok
returns-clause-ok c = grind (arith, nat_tests, back-shown)
