use Rattle.std.proofs.Common.{◌≡◌, ◌∙◌, ◌++◌, [], ap, subst, List, ℕ}
use Rattle.std.specs.List.{flat_map}
use Rattle.std.specs.Prelude.{codes, OnOk}
use Rattle.segments.specs.NamedQueue.{NamedQueueData}
use Rattle.segments.specs.declared.named_queue.QueueKey.{QueueKey}
use Rattle.debug_policies.specs.Inside.{key_text}
use Rattle.policy_comparison.proofs.Texts.{added_behind}
use Rattle.debug_policies.proofs.inside.push_queue.Goals as goal

pub returns : goal.returns
returns c =
    let queue : NamedQueueData = c.args.queue.now in
    let text : List ℕ = c.args.text.now.items in
    let mid : List ℕ = c.push_pieces.new.text.items in
    let last : List ℕ = c.push_keys_line.new.text.items in
    let first : mid ≡ text ++ (codes " " ++ (queue.name ++ [])) =
    c.in_ok-push_pieces.ensures ∙ ap (λ n. text ++ (codes " " ++ (n ++ []))) (c.as_bytes.ensures.value ∙ c.name.ensures) in
    let more : OnOk c.push_keys_line.result (last ≡ mid ++ (flat_map key_text queue.keys ++ codes "\n")) =
    subst (λ (k : List QueueKey). OnOk c.push_keys_line.result (last ≡ mid ++ (flat_map key_text k ++ codes "\n"))) c.keys.ensures c.push_keys_line.ensures in
    added_behind c.push_keys_line.result text (codes " ") queue.name [] (flat_map key_text queue.keys ++ codes "\n") mid last first more
