-- What `sample` writes: the sample of the trace, and a line that says what it is. (Defined by this project.)
use Rattle.std.specs.Prelude.{ℕ, List, ◌++◌, Option, IfSome, codes, length}
use Rattle.std.specs.Fmt.{decimal}
use Rattle.std.specs.Io.KnownBytes.{Appends}
use Rattle.streams.specs.Part.{AppendsPart}
use Rattle.trace_read.specs.TraceText.{keys_in}
use Rattle.trace_read.specs.declared.limits.TheConstants.Limits.{LONG}
use Rattle.trace_read.specs.Numbers.{numbers_text}
use Rattle.trace_read.specs.Sample.{block_count, sample_of}
pub use Rattle.trace_read.specs.declared.sample_counts.SampleCounts.{SampleCounts}
pub use Rattle.command_line.specs.declared.arguments.SampleArguments.{SampleArguments}
use Rattle.cachesim.specs.TraceOutput.{IfFaultlessWithin}

-- the accesses that are kept
abbrev pub kept_of : SampleArguments → List ℕ → List ℕ
kept_of sample keys = sample_of sample.inverse sample.seed keys

-- the bytes are a long trace, and the text of the accesses that are kept was written
abbrev pub IsSampled : SampleArguments → Option (List ℕ) → Option (List ℕ) → Option (List ℕ) → Type 0
IsSampled sample input before after = IfFaultlessWithin LONG sample.format input
    (λ keys. Appends before after (numbers_text (kept_of sample keys)))

-- a beginning of that text was written
abbrev pub IsPartSampled : SampleArguments → Option (List ℕ) → Option (List ℕ) → Option (List ℕ) → Type 0
IsPartSampled sample input before after = IfSome input (λ bytes.
    AppendsPart before after (numbers_text (kept_of sample (keys_in sample.format bytes))))

-- `K of A accesses, B blocks: --sampled 1/N --accesses A`
abbrev pub counts_line : ℕ → SampleCounts → List ℕ
counts_line inverse counts =
    decimal counts.kept ++ (codes " of " ++ (decimal counts.accesses ++ (codes " accesses, " ++ (decimal counts.blocks
    ++ (codes " blocks: --sampled 1/" ++ (decimal inverse ++ (codes " --accesses " ++ (decimal counts.accesses
    ++ codes "\n"))))))))

-- so of the accesses of a trace
abbrev pub sample_line : SampleArguments → List ℕ → List ℕ
sample_line sample keys = counts_line sample.inverse (record {
  kept = length (kept_of sample keys);
  accesses = length keys;
  blocks = block_count (kept_of sample keys);
})
