use Rattle.std.proofs.Common.{◌∙◌}
use Rattle.std.proofs.lemmas.List.{get_or_default}
use Rattle.queue_table.proofs.Indexing.{root-whole, first-in-bucket}
use Rattle.queue_table.proofs.slot_index.SlotIndex.first_slot.Goals as goal

pub returns : goal.returns
returns c item_of used x =
    let b = c.bucket_of-bucket in
    let w = root-whole _ _ _ item_of used x b.result b.ensures.within in
    first-in-bucket _ _ _ item_of used x b.result c.args.item _ b.ensures.bucket b.ensures.within (c.index.ensures ∙ get_or_default _ _ _ 0 w.within)
