use Rattle.std.proofs.Common.{◌==◌, Some, None, arith, rules, ◌∙◌}
use Rattle.std.proofs.lemmas.Bool.{ne_eqb}
use Rattle.std.proofs.lemmas.List.{get_or_default}
use Rattle.std.proofs.lemmas.List.Splits.{slice_split_first, slice_split_none}
use Rattle.std.proofs.lemmas.Str.Pattern.{split_once_first, split_parts}
use Rattle.command_line.proofs.policy_words.first_part.Goals as goal

pub returns-in-Some : goal.returns-in-Some
returns-in-Some c =
    let text = c.args.text.now in
    let parts = split_once_first 58 text (Some (c.in-Some.first, c.in-Some.rest)) c.in-Some.ensures.cases (omega arith) in
    record { parts = rw (parts.1, parts.2) (slice_split_first (λ b. b == 58) text 0 parts.0); shorter = search rules }

pub returns-in-None : goal.returns-in-None
returns-in-None c =
    let text = c.args.text.now in
    let lacks = split_parts 58 text None c.in-None.ensures.cases (omega arith) in
    record {
      parts = slice_split_none (λ b. b == 58) text (λ k d within. ne_eqb _ 58 (λ e. lacks k within (get_or_default text k 0 d within ∙ e)));
      shorter = tt;
    }
