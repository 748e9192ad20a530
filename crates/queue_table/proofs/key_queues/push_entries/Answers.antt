use Rattle.std.proofs.Common.{rules, refl, ◌≡◌, ◌∙◌, ◌++◌, ◌+◌, [], ◌∷◌, ap, sym, suc, List, ℕ, take, append_assoc, arith}
use Rattle.std.specs.Prelude.{slice_index_or}
use Rattle.queue_table.specs.Entries.{Item, entry}
use Rattle.queue_table.specs.QueueTable.{queues}
use Rattle.queue_table.specs.Moves.{Entry, item_of}
use Rattle.queue_table.proofs.Beside.{one-more}
use Rattle.queue_table.proofs.key_queues.push_entries.Goals as goal

pub loop-item-preserved : goal.loop-item-preserved
loop-item-preserved g c q w is =
    let l : List Entry = queues c.args.table.now q in
    let i : ℕ = c.loop-item.item-index in
    let item : Item = slice_index_or c.args.items.now i (item_of 0) in
    let x : Entry = entry item c.count_beside-count.result in
    let before : List Entry = c.args.entries.now.items in
    let next : i + 1 ≡ suc i = omega arith in
    let at : slice_index_or c.args.items.now i (item_of 0) ≡ item = refl in
    let more : take (suc i) l ≡ take i l ++ x ∷ [] =
    one-more l c.args.items.now i (item_of 0) item c.count_beside-count.result is c.loop-item-test.true at (λ n h. c.count_beside-count.ensures q n w h) in
    let pushed : c.push.new.self.items ≡ c.loop-item.entries.items ++ x ∷ [] = search rules in
    pushed ∙ ap (λ e. e ++ x ∷ []) (c.loop-item.invariant q w is) ∙ append_assoc before (take i l) (x ∷ [])
    ∙ ap (λ e. before ++ e) (sym (ap (λ n. take n l) next ∙ more))
