use Rattle.std.proofs.Common.{◌≡◌, ◌∙◌, ◌++◌, [], ◌∷◌, ap, List, ℕ}
use Rattle.std.specs.Prelude.{codes}
use Rattle.std.specs.List.{flat_map}
use Rattle.streams.specs.Texts.{count_text}
use Rattle.streams.proofs.Results.{at_success}
use Rattle.policies.specs.Reports.{rate_of}
use Rattle.report.specs.IntervalText.{interval_numbers}
use Rattle.report.specs.Text.{rate_text_of}
use Rattle.step_record.specs.Job.{name_of}
use Rattle.policy_comparison.proofs.Rows.{interval-added}
use Rattle.policy_comparison.proofs.queue_rows.push_interval.Goals as goal

pub returns : goal.returns
returns c =
    let i = c.args.interval.now in
    let r = i.report in
    let front : List ℕ = c.push_name.new.text.items in
    let mid : List ℕ = c.push_numbers.new.text.items in
    let second : mid ≡ front ++ flat_map (count_text (codes ",")) (interval_numbers i) =
    c.in_ok-push_numbers.ensures ∙ ap (λ (ns : List ℕ). front ++ flat_map (count_text (codes ",")) ns) c.interval_numbers.ensures in
    at_success c.push_pieces.result _ _
    (λ k. interval-added c.args.text.now.items (name_of r.policy r.sizes) (interval_numbers i) (rate_text_of (rate_of r)) front mid
    c.push_pieces.new.text.items c.in_ok-push_name.ensures second
    (k ∙ ap (λ (t : List ℕ). mid ++ (44 ∷ (t ++ []))) (c.as_bytes.ensures.value ∙ c.in_ok-rate.ensures ∙ ap rate_text_of c.rate.ensures)))
    c.push_pieces.ensures
