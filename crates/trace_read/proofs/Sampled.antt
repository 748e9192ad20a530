-- What a sample has written and kept of the first accesses of a trace.
use Rattle.std.proofs.Common.{◌≡◌, ◌∙◌, ◌+◌, ◌++◌, ◌==◌, ◌||◌, ℕ, List, [], length, take, drop, Option, ap, sym, subst, append-nil, refl, arith}
use Rattle.std.specs.HashSet.{contains}
use Rattle.std.specs.List.{IsDistinct, list_any}
use Rattle.std.specs.Set.{is_member}
use Rattle.std.specs.Io.KnownBytes.{Appends}
use Rattle.std.proofs.Math.Seq.{take-add}
use Rattle.std.proofs.lemmas.Cmp.{nat_eq_equiv}
use Rattle.std.proofs.lemmas.Map.Made.{length-from_keys}
use Rattle.std.proofs.lemmas.List.{length-append, take-append-drop, take_all}
use Rattle.std.proofs.lemmas.List.Elements.{filter-append}
use Rattle.std.proofs.lemmas.List.Folds.{list_any-append}
use Rattle.streams.proofs.Parts.{none_sent, part_of_more}
use Rattle.streams.proofs.Waiting.{broken, gathered, passed, started}
use Rattle.streams.specs.Part.{AppendsPart}
use Rattle.streams.specs.Waiting.{IsTextWritten}
use Rattle.trace_read.specs.Hash.{is_sampled}
use Rattle.trace_read.specs.SampledAccesses.{SampledAccesses, HasNothing, Keeps}
use Rattle.trace_read.specs.Numbers.{numbers_text}
use Rattle.trace_read.specs.Sample.{block_count, sample_of, sample_up_to}
use Rattle.trace_read.specs.Written.{Counts, SampleCounts}
use Rattle.trace_read.proofs.Sampling.{numbers-append}

-- ---- the sample of the first accesses

no_text : numbers_text [] ≡ []
unfolding numbers_text
no_text = refl

-- so much was kept of the first accesses, and written of their text or waits
pub record IsSampled (inverse seed taken : ℕ) (sample : SampledAccesses) (start now : Option (List ℕ)) (all : List ℕ) : Type 0 where
  pub counted : sample.accesses ≡ length (sample_up_to inverse seed taken all)
  pub blocks : (q : ℕ) → contains (λ a b. a == b) sample.blocks q ≡ is_member (λ a b. a == b) (sample_up_to inverse seed taken all) q
  pub text : IsTextWritten start now sample.text.items (numbers_text (sample_up_to inverse seed taken all))

module _ (inverse seed : ℕ) where
  pub nothing_sampled : (sample : SampledAccesses) (start : Option (List ℕ)) (all : List ℕ) → HasNothing sample → IsSampled inverse seed 0 sample start start all
  nothing_sampled sample start all none = record {
    counted = none.accesses;
    blocks = λ q. ap (λ k. list_any (λ x. q == x) k) none.blocks;
    text = started start sample.text.items _ (none.text ∙ sym no_text);
  }

  -- those of the first accesses, and those of the next
  sample_plus : (taken : ℕ) (keys all : List ℕ) → keys ≡ take (length keys) (drop taken all)
      → sample_up_to inverse seed (taken + length keys) all ≡ sample_up_to inverse seed taken all ++ sample_of inverse seed keys
  sample_plus taken keys all next =
      ap (sample_of inverse seed) (take-add taken (length keys) all ∙ ap (λ l. take taken all ++ l) (sym next))
      ∙ filter-append (is_sampled inverse seed) (take taken all) keys

  -- the next accesses were kept
  pub sampled_more : (taken : ℕ) (keys all : List ℕ) (old new : SampledAccesses) (start now : Option (List ℕ)) → keys ≡ take (length keys) (drop taken all)
      → Keeps old new (sample_of inverse seed keys) → IsSampled inverse seed taken old start now all → IsSampled inverse seed (taken + length keys) new start now all
  sampled_more taken keys all old new start now next keeps is =
      let plus = sample_plus taken keys all next in
      record {
        counted = keeps.count.accesses ∙ ap (λ m. m + length (sample_of inverse seed keys)) is.counted ∙ sym (ap length plus ∙ length-append _ _);
        blocks = λ q. keeps.count.blocks q ∙ ap (λ x. x || is_member (λ a b. a == b) (sample_of inverse seed keys) q) (is.blocks q)
            ∙ sym (ap (λ l. is_member (λ a b. a == b) l q) plus ∙ list_any-append (λ x. q == x) (sample_up_to inverse seed taken all) (sample_of inverse seed keys));
        text = gathered start now old.text.items new.text.items (numbers_text (sample_of inverse seed keys)) _ _ keeps.text (ap numbers_text plus ∙ numbers-append _ _) is.text;
      }

  -- what waits went on
  pub sampled_on : (taken : ℕ) (all : List ℕ) (old new : SampledAccesses) (start mid now : Option (List ℕ)) → new.blocks ≡ old.blocks → new.accesses ≡ old.accesses
      → IsTextWritten mid now new.text.items old.text.items → IsSampled inverse seed taken old start mid all → IsSampled inverse seed taken new start now all
  sampled_on taken all old new start mid now same count on is = record {
    counted = count ∙ is.counted;
    blocks = λ q. ap (λ k. contains (λ a b. a == b) k q) same ∙ is.blocks q;
    text = passed start mid now old.text.items new.text.items _ is.text on;
  }

  -- what is written is a beginning of the whole text, also where a part of what waits is written after it
  pub sampled_part : (taken : ℕ) (all : List ℕ) (sample : SampledAccesses) (start mid now : Option (List ℕ)) → AppendsPart mid now sample.text.items
      → IsSampled inverse seed taken sample start mid all → AppendsPart start now (numbers_text (sample_of inverse seed all))
  sampled_part taken all sample start mid now part is =
      subst (AppendsPart start now)
      (sym (ap (λ l. numbers_text (sample_of inverse seed l)) (sym (take-append-drop taken all))
      ∙ ap numbers_text (filter-append (is_sampled inverse seed) (take taken all) (drop taken all)) ∙ numbers-append _ _))
      (part_of_more start now _ _ (broken start mid now sample.text.items _ is.text part))

  pub sampled_so_far : (taken : ℕ) (all : List ℕ) (sample : SampledAccesses) (start now : Option (List ℕ)) → IsSampled inverse seed taken sample start now all
      → AppendsPart start now (numbers_text (sample_of inverse seed all))
  sampled_so_far taken all sample start now is = sampled_part taken all sample start now now (none_sent now sample.text.items) is

  -- of all accesses, where nothing waits
  pub sampled_all : (taken : ℕ) (all : List ℕ) (sample : SampledAccesses) (start now : Option (List ℕ)) → taken ≡ length all → sample.text.items ≡ [] → IsSampled inverse seed taken sample start now all
      → Appends start now (numbers_text (sample_of inverse seed all))
  sampled_all taken all sample start now long none is =
      let whole : take taken all ≡ all = take_all taken all (omega (arith, long)) in
      subst (Appends start now)
      (sym (ap (λ l. numbers_text (sample_of inverse seed l)) (sym whole) ∙ is.text.1 ∙ ap (λ w. is.text.0 ++ w) none ∙ append-nil is.text.0)) is.text.2

  pub sampled_counts : (taken : ℕ) (all : List ℕ) (sample : SampledAccesses) (start now : Option (List ℕ)) (counts : SampleCounts) → taken ≡ length all
      → (counts.accesses ≡ taken) × (counts.kept ≡ sample.accesses) → (counts.blocks ≡ length sample.blocks.keys) × IsDistinct (λ a b. a == b) sample.blocks.keys
      → IsSampled inverse seed taken sample start now all → Counts inverse seed all counts
  sampled_counts taken all sample start now counts long is size sampled =
      let whole : take taken all ≡ all = take_all taken all (omega (arith, long)) in
      record {
        accesses = is.0 ∙ long;
        kept = is.1 ∙ sampled.counted ∙ ap (λ l. length (sample_of inverse seed l)) whole;
        blocks = size.0 ∙ length-from_keys nat_eq_equiv sample.blocks.keys _ size.1 sampled.blocks ∙ ap (λ l. block_count (sample_of inverse seed l)) whole;
      }
