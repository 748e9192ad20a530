use Rattle.std.proofs.lemmas.Bool.Decides.{nat_tests}
use Rattle.std.proofs.Common.{◌≡◌, arith, ◌∙◌, ap, sym, ◌+◌, ◌<◌, length}
use Rattle.std.specs.Vec.{with_items}
use Rattle.std.proofs.lemmas.List.{with_items_is}
use Rattle.sketch.specs.Counters.{counter_at}
use Rattle.sketch.specs.Sketch.{touched_table, IsTable}
use Rattle.sketch.proofs.Halves.{table_is}
use Rattle.sketch.proofs.Tables.{keyed, own_column, flags_are, kept_is}
use Rattle.sketch.proofs.Undoing.{untouched_is, touch_fits}
use Rattle.sketch.proofs.sketch.Sketch.touch.Goals as goal

pub returns-clause-after : goal.returns-clause-after
returns-clause-after c = search (arith, with_items_is, own_column, keyed)

pub returns-clause-record_is : goal.returns-clause-record_is
returns-clause-record_is c = grind (arith, nat_tests, flags_are)

pub invariant_of-self : goal.invariant_of-self
invariant_of-self c =
    let some : 0 < c.self.inside.width = omega (arith, c.self.invariant.0) in
    let were = rw c.deref_mut.ensures.value at c.raise_rows-were.ensures.were in
    let after = returns-clause-after c ∙ ap (touched_table c.args.key) (sym c.self.view_is) in
    let n : length c.raise_rows-were.new.words ≡ c.self.inside.words.len = omega (arith, c.raise_rows-were.auto.words, c.deref_mut.ensures.len) in
    let items : length (with_items c.self.inside.words c.raise_rows-were.new.words).items ≡ length c.raise_rows-were.new.words = ap length (with_items_is c.self.inside.words c.raise_rows-were.new.words n) in (
      c.self.invariant.0,
      c.self.invariant.1,
      omega (arith, items, n, c.self.inside.words.ok.0, c.self.invariant.2),
      c.self.invariant.3,
      c.self.invariant.4,
      kept_is c.self.inside.width c.self.inside.spread some c.args.key (counter_at c.self.inside.words.items) c.columns-columns.result c.columns-columns.ensures.value c.raise_rows-were.result were _ _ after
          (rw (← c.least_of_four.ensures) (ap (λ n. n + 1) c.min-least.ensures)),
      c.self.invariant.6,
    )

pub returns-clause-fits : goal.returns-clause-fits
returns-clause-fits c =
    let is : IsTable c.args.self.now = rw (← c.self.view_is) (table_is c.self.inside.width c.self.inside.spread c.self.inside.words.items c.self.invariant.0 c.self.invariant.3) in
    rw (returns-clause-record_is c, returns-clause-after c) (touch_fits c.args.self.now is c.args.key)

pub returns-clause-undone : goal.returns-clause-undone
returns-clause-undone c =
    let is : IsTable c.args.self.now = rw (← c.self.view_is) (table_is c.self.inside.width c.self.inside.spread c.self.inside.words.items c.self.invariant.0 c.self.invariant.3) in
    untouched_is c.args.self.now is c.args.key _ _ (returns-clause-record_is c) (returns-clause-after c)
