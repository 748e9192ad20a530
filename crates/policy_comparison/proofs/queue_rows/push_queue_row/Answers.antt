use Rattle.std.proofs.Common.{◌≡◌, ◌∙◌, [], ◌∷◌, ◌++◌, ap, List, ℕ}
use Rattle.std.specs.Fmt.{decimal}
use Rattle.segments.specs.NamedQueue.{NamedQueueData}
use Rattle.segments.specs.declared.named_queue.QueueKey.{QueueKey}
use Rattle.streams.proofs.Results.{at_success}
use Rattle.policy_comparison.specs.QueueRows.{cell, held_in, marked_in}
use Rattle.policy_comparison.proofs.Rows.{row-added}
use Rattle.policy_comparison.proofs.queue_rows.push_queue_row.Goals as goal

pub returns : goal.returns
returns c =
    let queue : NamedQueueData = c.args.queue.now in
    let front : List ℕ = c.push_interval.new.text.items in
    let named : List ℕ = c.push_pieces.new.text.items in
    let counted : List ℕ = c.push_count.new.text.items in
    let second : named ≡ front ++ (44 ∷ (queue.name ++ [])) =
    c.in_ok-push_pieces.ensures ∙ ap (λ (n : List ℕ). front ++ (44 ∷ (n ++ []))) (c.as_bytes.ensures.value ∙ c.name.ensures) in
    let third : counted ≡ named ++ (44 ∷ decimal (held_in queue)) =
    c.in_ok-push_count.ensures ∙ ap (λ (n : ℕ). named ++ (44 ∷ decimal n)) c.held_in.ensures in
    let marked : List ℕ = c.push_marked.new.text.items in
    let fourth : marked ≡ counted ++ (44 ∷ cell (marked_in queue.keys)) =
    c.in_ok-push_marked.ensures ∙ ap (λ (keys : List QueueKey). counted ++ (44 ∷ cell (marked_in keys))) c.keys.ensures in
    at_success c.push_counts_line.result _ _
    (row-added c.args.text.now.items front named counted marked c.push_counts_line.new.text.items c.args.interval.now queue c.args.left
    c.in_ok-push_interval.ensures second third fourth) c.push_counts_line.ensures
