-- The words by which policies, formats, spreads and rates are named on the command line.
use Rattle.std.specs.Prelude.{◌≡◌, ℕ, Bool, false, List, [], ◌∷◌, Option, Some, None, map, find, option_map}
use Rattle.std.specs.Prelude.{codes, if◌then◌else◌}
use Rattle.std.specs.Borrow.{Bor}
use Rattle.std.specs.Option.{option_map_or}
use Rattle.std.specs.Str.{bytes_eq}
use Rattle.clap.specs.Words.{Text}
use Rattle.step_record.specs.Job.{word_of}
use Rattle.step_record.specs.declared.job.Policy.{Policy}
use Rattle.step_record.specs.declared.job.TheConstants.{POLICIES}
use Rattle.engine_base.specs.declared.config.Spread.{Spread}
use Rattle.engine_base.specs.declared.config.Spread.TheVariants.{Mixed, Plain}
use Rattle.trace_read.specs.Format.{format_word}
use Rattle.trace_read.specs.declared.format.Format.{Format}
use Rattle.trace_read.specs.declared.format.Format.TheVariants.{Lirs, Arc}
use Rattle.trace_read.specs.declared.limits.Limits.{Limits}
use Rattle.trace_read.specs.declared.limits.TheConstants.Limits.{DEFAULT, LONG}
pub use Rattle.command_line.specs.declared.choices.WordLists.{WordLists}

abbrev pub format_words : List Text
format_words = format_word Lirs ∷ format_word Arc ∷ []

abbrev pub spread_words : List Text
spread_words = codes "mixed" ∷ codes "plain" ∷ []

-- the rates of a sample: its word, and of how many blocks the sample has one
abbrev pub rates : List (Text × ℕ)
rates =
    (codes "1/2", 2) ∷ (codes "1/4", 4) ∷ (codes "1/8", 8) ∷ (codes "1/16", 16) ∷ (codes "1/32", 32)
    ∷ (codes "1/64", 64) ∷ (codes "1/128", 128) ∷ (codes "1/256", 256) ∷ (codes "1/512", 512) ∷ (codes "1/1024", 1024)
    ∷ (codes "1/2048", 2048) ∷ (codes "1/4096", 4096) ∷ (codes "1/8192", 8192) ∷ (codes "1/16384", 16384) ∷ (codes "1/32768", 32768)
    ∷ (codes "1/65536", 65536) ∷ (codes "1/131072", 131072) ∷ (codes "1/262144", 262144) ∷ (codes "1/524288", 524288) ∷ (codes "1/1048576", 1048576) ∷ []

abbrev pub rate_words : List Text
rate_words = map (λ rate. rate.0) rates

-- these words, somewhere in memory
abbrev pub AreWords : List Text → List (Bor Text) → Type 0
AreWords words names = map (λ s. s.now) names ≡ words

-- the lists have these words, somewhere in memory
pub record AreLists (lists : WordLists) : Type 0 where
  pub formats : AreWords format_words lists.formats.now
  pub spreads : AreWords spread_words lists.spreads.now
  pub rates : AreWords rate_words lists.rates.now

-- the policy that a word names
unfoldable pub policy_named : Text → Option Policy
policy_named word = find (λ policy. bytes_eq (word_of policy) word) POLICIES

abbrev pub and_more : {A : Type 0} → Option A → Option (List A) → Option (List A)
and_more None more = None
and_more (Some first) None = None
and_more (Some first) (Some more) = Some (first ∷ more)

-- what the words name, in order; none where one of the words names nothing
abbrev pub all_named : {A : Type 0} → (Text → Option A) → List Text → Option (List A)
all_named named [] = Some []
all_named named (word ∷ words) = and_more (named word) (all_named named words)

-- the format that a word names, or where there is none
abbrev pub format_named : Option Text → Format
format_named word =
    if option_map_or (λ w. bytes_eq w (format_word Arc)) word false then Arc else Lirs

-- the spread that a word names, or where there is none
abbrev pub spread_named : Option Text → Spread
spread_named word = if option_map_or (λ w. bytes_eq w (codes "plain")) word false then Plain else Mixed

-- whether an option that has no value is given, by what clap has as its value: `true` where it is
abbrev pub is_given : Option Text → Bool
is_given word = option_map_or (λ w. bytes_eq w (codes "true")) word false

-- the limits of a trace, by whether they are to be those of a long one
abbrev pub limits_named : Option Text → Limits
limits_named word = if is_given word then LONG else DEFAULT

-- of how many blocks a sample has one at the rate that a word names
unfoldable pub rate_named : Text → Option ℕ
rate_named word = option_map (λ rate. rate.1) (find (λ rate. bytes_eq word rate.0) rates)
