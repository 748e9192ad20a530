use Rattle.std.proofs.lemmas.Bool.Decides.{nat_tests}
use Rattle.std.proofs.Common.{◌≡◌, ◌∙◌, refl, ap, length, get_or, arith}
use Rattle.std.specs.Vec.{with_items}
use Rattle.std.proofs.lemmas.List.{with_items_is}
use Rattle.engine_base.specs.Bits.{bit_of}
use Rattle.trace_index.specs.Uses.{last_below, number_of}
use Rattle.queue_cache.proofs.Windows.{hit-window, filled-window, moved-window, oldest-low, hits-small}
use Rattle.queue_cache.proofs.reuses.Reuses.access.Goals as goal
use Rattle.queue_cache.proofs.reuses.Reuses.access.Goals.{After-number-before}
use Rattle.queue_cache.proofs.Counting.{last-low}

noted : (c : After-number-before) → c.number-before.result ≡ number_of (last_below c.args.self.now c.args.place (get_or c.args.self.now c.args.place 0))
noted c = c.number-before.ensures ∙ ap (λ t. number_of (last_below t c.args.place (get_or t c.args.place 0))) c.self.view_is

pub overflow_add-window : goal.overflow_add-window
overflow_add-window c = grind (arith, nat_tests, hits-small, noted (goal.at.overflow_add-window c).After-number-before)

pub set-requires : goal.set-requires
set-requires c = grind (arith, nat_tests, last-low, noted)

pub returns-then-before-window-clause-window : goal.returns-then-before-window-clause-window
returns-then-before-window-clause-window c =
    let w = c.requires.window in
    let n : length c.set.new.words ≡ c.args.window.now.renewed.len = omega (arith, c.set.auto.words, c.deref_mut.ensures.len) in
    let items : (with_items c.args.window.now.renewed c.set.new.words).items ≡ c.set.new.words = with_items_is c.args.window.now.renewed c.set.new.words n in
    let bits = rw c.deref_mut.ensures.value at c.set.ensures in
    hit-window c.args.self.now c.args.place c.requires.place c.number-before.result (noted (goal.at.returns-then-before-window-clause-window c).After-number-before) c.args.window.now w _ (omega (arith, c.if-before-window.true)) refl refl refl refl
    (ap length items ∙ omega (arith, n, c.args.window.now.renewed.ok.0))
    (λ q. ap (λ l. bit_of l q) items ∙ bits q)

pub returns-then-window-clause-window : goal.returns-then-window-clause-window
returns-then-window-clause-window c =
    filled-window c.args.self.now c.args.place c.requires.place c.number-before.result (noted (goal.at.returns-then-window-clause-window c).After-number-before) c.args.window.now c.requires.window (omega (arith, c.if-before-window.false)) c.if-window.true

pub overflow_add-window-2 : goal.overflow_add-window-2
overflow_add-window-2 c =
    let w = c.requires.window in
    let low = oldest-low c.args.self.now c.args.place c.requires.place c.number-before.result (noted (goal.at.overflow_add-window-2 c).After-number-before) c.args.window.now w (omega (arith, c.if-before-window.false)) c.if-window.false c.oldest.result c.oldest.ensures in
    omega (arith, low, c.requires.place, w.room, w.few)

pub returns-clause-window : goal.returns-clause-window
returns-clause-window c =
    moved-window c.args.self.now c.args.place c.requires.place c.number-before.result (noted (goal.at.returns-clause-window c).After-number-before) c.args.window.now c.requires.window (omega (arith, c.if-before-window.false)) c.if-window.false c.oldest.result c.oldest.ensures
