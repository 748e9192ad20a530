use Rattle.std.proofs.lemmas.Bool.Decides.{nat_tests}
use Rattle.std.proofs.lemmas.Grind.{common_steps, get_or_default_zero}
use Rattle.std.proofs.Common.{◌≡◌, ◌≢◌, ◌+◌, ◌<◌, ◌∙◌, ap, sym, arith, length, cond, eqb, subst, set, get_or}
use mir.Val.{bool_byte}
use Rattle.std.proofs.lemmas.List.{length-set}
use Rattle.trace_index.specs.KeyCells.{number_among, homes_among, AreCells}
use Rattle.trace_index.proofs.KeyCells.{IsSearched, none-below, absent, before, put-table, put-updates, in-numbers, taken-after, count-fits}
use Rattle.trace_index.proofs.key_cells.KeyCells.put.Goals as goal
use Rattle.trace_index.proofs.key_cells.KeyCells.put.Goals.{After-search-place, After-replace-before}

found : (c : goal.After-search-place) → IsSearched c.self.inside.homes c.self.inside.keys.items c.self.inside.numbers.items c.args.key c.min-end.result c.search-place.result
found c = grind (arith, nat_tests)

-- the cell that was found, and what it had
abbrev IsFound : goal.After-replace-before → Type 0
IsFound c = IsSearched c.self.inside.homes c.self.inside.keys.items c.self.inside.numbers.items c.args.key c.min-end.result c.search-place.result

here : (c : goal.After-replace-before) → IsFound c → c.search-place.result < length c.self.inside.numbers.items
here c its = in-numbers _ _ _ _ 0 _ _ c.self.invariant.table its c.if-place-end.false

its-number : (c : goal.After-replace-before) → IsFound c → c.replace-before.result ≡ get_or c.self.inside.numbers.items c.search-place.result 0
its-number c its = c.replace-before.ensures.value ∙ c.index_mut-2.ensures.value ∙ get_or_default_zero _ _ _ (here c its)

pub returns-then-place-end-clause-none : goal.returns-then-place-end-clause-none
returns-then-place-end-clause-none c _ = grind (arith, common_steps, none-below, absent, found)

pub invariant_of-self : goal.invariant_of-self
invariant_of-self c =
    let at = (goal.at.invariant_of-self c).After-replace-before in
    let its = found (goal.at.invariant_of-self c).After-search-place in
    let cells = c.self.invariant in
    let keys = c.self.inside.keys.items in
    let numbers = c.self.inside.numbers.items in
    let place = c.search-place.result in
    subst (λ n. AreCells c.self.inside.homes (c.self.inside.count + bool_byte (eqb c.replace-before.result 0)) (set keys place c.args.key) (set numbers place n))
    (sym c.replace-before.ensures.after) record {
      table = put-table _ _ _ _ c.args.number _ _ cells.table its c.if-place-end.false c.requires;
      long = cells.long ∙ ap homes_among (sym (length-set numbers place c.args.number));
      few = cells.few;
      counted = taken-after _ _ _ _ _ place _ cells (here at its) c.requires (its-number at its);
    }

pub overflow_add-self : goal.overflow_add-self
overflow_add-self c =
    let at = (goal.at.overflow_add-self c).After-replace-before in
    let its = found (goal.at.overflow_add-self c).After-search-place in
    record { fits = count-fits _ _ _ _ _ _ _ c.self.invariant (here at its) c.requires (its-number at its) }

pub returns-clause-old : goal.returns-clause-old
returns-clause-old c = search (arith, found (goal.at.returns-clause-old c).After-search-place, its-number, before)

pub returns-clause-updates : goal.returns-clause-updates
returns-clause-updates c k =
    let its = found (goal.at.returns-clause-updates c).After-search-place in
    let after : c.replace-before.new.dest ≡ c.args.number = c.replace-before.ensures.after in
    let some : c.replace-before.new.dest ≢ 0 = λ z. c.requires (sym after ∙ z) in
    put-updates _ _ _ c.args.key c.replace-before.new.dest _ _ c.self.invariant.table its c.if-place-end.false some k
    ∙ (λ i. cond (eqb c.args.key k) (after i) (number_among (c.self.view_is i) k))
