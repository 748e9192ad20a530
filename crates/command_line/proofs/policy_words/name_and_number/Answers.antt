use Rattle.std.proofs.Common.{◌∙◌, ◌+◌, Some, None, ap, arith, drop, length, sym, take, take_all}
use Rattle.std.proofs.lemmas.List.{drop_all}
use Rattle.std.proofs.lemmas.Str.Pattern.{split_once_first}
use Rattle.command_line.proofs.policy_words.name_and_number.Goals as goal

pub returns-in-Some : goal.returns-in-Some
returns-in-Some c =
    let parts = split_once_first 61 c.args.text.now (Some (c.in-Some.name, c.in-Some.number)) c.in-Some.ensures.cases (omega arith) in
    record { name = parts.1; number = parts.2 }

pub returns-in-None : goal.returns-in-None
returns-in-None c =
    let text = c.args.text.now in
    let at = split_once_first 61 text None c.in-None.ensures.cases (omega arith) in
    record {
      name = sym (ap (λ n. take n text) at ∙ take_all (length text) text (omega arith));
      number = sym (ap (λ n. drop (n + 1) text) at ∙ drop_all (length text + 1) text (omega arith));
    }
