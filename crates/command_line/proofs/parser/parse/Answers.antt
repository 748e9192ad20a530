use Rattle.std.proofs.Common.{◌≡◌, ◌∙◌, ap, refl, subst, sym, true, rules, map, List, [], Result, Ok, Err}
use Rattle.std.specs.Prelude.{IsErrAnd}
use Rattle.clap.specs.Words.{App, HasKind, Text, app_of, fault_of, is_simple, is_simple_and_free, subcommand_of, subcommand_rows_of}
use Rattle.clap.proofs.OnLiterals.{clap_on_literals}
use Rattle.command_line.specs.Choices.{WordLists, AreLists}
use Rattle.command_line.specs.ParseResult.{ParseFault, Arguments, IsAskedFor, ParsedBy}
use Rattle.command_line.specs.Program.{program_app}
use Rattle.command_line.specs.Values.{asked_in}
use Rattle.command_line.specs.declared.fault.ParseFault.TheVariants.{OutOfMemory, Refused}
use Rattle.command_line.proofs.parser.parse.Goals as goal

-- the program's command is one whose matches clap gives as a function of the words
simple : (lists : WordLists) → (is_simple (program_app lists) ≡ true) × (is_simple_and_free (program_app lists) ≡ true)
unfolding clap_on_literals
simple lists = (refl, refl)

given : (words : List Text) (r : Result Arguments ParseFault) (f : ParseFault) → IsErrAnd r (λ e. e ≡ f) → ParsedBy words (Err f) → ParsedBy words r
given words (Ok x) f is h = absurd is
given words (Err e) f is h = rw is h

asks : (words : List Text) (lists : WordLists) → AreLists lists → fault_of (program_app lists) words ≡ [] → (r : Result Arguments ParseFault)
    → IsAskedFor (asked_in (subcommand_of (program_app lists) words)) r → ParsedBy words r
asks words lists are taken (Err OutOfMemory) h = tt
asks words lists are taken (Err (Refused e)) h = absurd h
asks words lists are taken (Ok x) h = record { lists = lists; are = are; taken = taken; asks = sym h }
asks words lists are taken (Err _) h = record { lists = lists; are = are; taken = taken; asks = sym h }

pub returns-in_err-program-clause-parsed : goal.returns-in_err-program-clause-parsed
returns-in_err-program-clause-parsed c = given _ _ OutOfMemory c.from_residual.ensures.1 tt

pub returns-in_err-matches-clause-parsed : goal.returns-in_err-matches-clause-parsed
returns-in_err-matches-clause-parsed c =
    let lists : WordLists = record { formats = c.as_slice.result; spreads = c.as_slice-2.result; rates = c.as_slice-3.result } in
    let are : AreLists lists = search rules in
    let is : app_of c.in_ok-program.program ≡ program_app lists = c.in_ok-program.ensures in
    let kinds = c.in_err-matches.ensures.kinds (ap is_simple_and_free is ∙ (simple lists).1) in
    let error = c.in_err-matches.field-0.0 in
    given _ _ (Refused error) c.from_residual-in_err-matches.ensures.1
    (record { lists = lists; are = are; refused = subst (λ (a : App). HasKind (fault_of a (map (λ s. s.now) c.args.words.now)) error) is kinds })

pub returns-clause-parsed : goal.returns-clause-parsed
returns-clause-parsed c =
    let lists : WordLists = record { formats = c.as_slice.result; spreads = c.as_slice-2.result; rates = c.as_slice-3.result } in
    let are : AreLists lists = search rules in
    let is : app_of c.in_ok-program.program ≡ program_app lists = c.in_ok-program.ensures in
    let taken = c.in_ok-matches.ensures.kinds (ap is_simple_and_free is ∙ (simple lists).1) in
    let words : List Text = map (λ s. s.now) c.args.words.now in
    let rows : subcommand_rows_of c.in_ok-matches.matches ≡ subcommand_of (program_app lists) words =
    (c.in_ok-matches.ensures.matches (ap is_simple is ∙ (simple lists).0)).1 ∙ ap (λ a. subcommand_of a words) is in
    asks words lists are (ap (λ a. fault_of a words) (sym is) ∙ taken) c.arguments.result (rw (← rows) c.arguments.ensures.asked)
