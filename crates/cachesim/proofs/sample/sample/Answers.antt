use Rattle.std.proofs.Common.{◌≡◌, ◌∙◌, refl, subst, sym, arith, rules, ℕ, List, Option, Result, Ok, Err, length}
use Rattle.std.specs.Prelude.{IfErr}
use Rattle.std.specs.Io.KnownBytes.{Appends}
use Rattle.std.proofs.Math.Seq.{take-length}
use Rattle.std.proofs.lemmas.Option.{IfSome_then}
use Rattle.streams.specs.Part.{AppendsPart}
use Rattle.trace_read.specs.Written.{Counts}
use Rattle.cachesim.specs.FaultLine.{Fault}
use Rattle.cachesim.specs.SampleOutput.{SampleArguments, SampleCounts, counts_line, sample_line}
use Rattle.cachesim.proofs.sample.sample.Goals as goal

-- what holds whatever the fault is
at_any : {X P : Type 0} (r : Result X Fault) → P → IfErr r (λ fault. P)
at_any (Ok x) p = tt
at_any (Err fault) p = p

-- all of a text is a beginning of it
whole_part : (old new : Option (List ℕ)) (text : List ℕ) → Appends old new text → AppendsPart old new text
whole_part old new text all = (length text, omega arith, subst (Appends old new) (sym (take-length text)) all)

-- the line of these counts is that of the accesses
line_of : (sample : SampleArguments) (keys : List ℕ) (counts : SampleCounts) → Counts sample.inverse sample.seed keys counts
    → counts_line sample.inverse counts ≡ sample_line sample keys
line_of sample keys counts are = rw (are.accesses, are.kept, are.blocks) refl

pub returns-in_err-sample_line-clause-performed : goal.returns-in_err-sample_line-clause-performed
returns-in_err-sample_line-clause-performed g c =
    let whole = IfSome_then (g.R.CountedRead.remaining c.args.input.now) c.in_ok-counts.ensures.text (λ bytes all. whole_part _ _ _ all) in
    record {
      done = search rules;
      leaves = at_any c.from_residual-in_err-sample_line.result whole;
      fault = search rules;
      reads = search rules;
      writes = search rules;
      flushed = search rules;
    }

pub returns-clause-line : goal.returns-clause-line
returns-clause-line g c =
    IfSome_then (g.R.CountedRead.remaining c.args.input.now) c.in_ok-counts.ensures.counts (λ bytes are.
    c.in_ok-sample_line.ensures ∙ line_of c.args.arguments.now _ _ are)
