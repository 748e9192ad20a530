use Rattle.std.proofs.Common.{◌∙◌, ◌++◌, [], ap, List, ℕ}
use Rattle.std.specs.Prelude.{codes}
use Rattle.engine_base.specs.declared.stats.Stats.{Stats}
use Rattle.step_record.specs.Job.{name_of}
use Rattle.streams.specs.Texts.{count_text}
use Rattle.streams.proofs.Results.{at_success}
use Rattle.policy_comparison.proofs.Texts.{four, three}
use Rattle.debug_policies.proofs.one_policy.push_counts.Goals as goal

pub returns : goal.returns
returns c =
    let text : List ℕ = c.args.text.now.items in
    let label : List ℕ = c.args.label.now in
    let name : List ℕ = name_of c.args.job.now.policy c.args.job.now.sizes in
    let s : Stats = c.args.stats.now in
    let front : List ℕ = label ++ (codes " " ++ name) in
    let hits : List ℕ = count_text (codes " hits ") s.hits in
    let misses : List ℕ = count_text (codes " misses ") s.misses in
    let evictions : List ℕ = count_text (codes " evictions ") s.evictions in
    let rejections : List ℕ = count_text (codes " rejections ") s.rejections in
    at_success c.push_counts_line.result _ _
    (λ k. k ∙ ap (λ t. t ++ ((hits ++ (misses ++ (evictions ++ (rejections ++ [])))) ++ codes "\n")) c.in_ok-push_policy.ensures
    ∙ ap (λ r. (text ++ front) ++ r) (four hits misses evictions rejections (codes "\n"))
    ∙ three text label (codes " ") name (hits ++ (misses ++ (evictions ++ (rejections ++ codes "\n")))))
    c.push_counts_line.ensures
