-- A sample grows by an access at a time.
use Rattle.std.proofs.Common.{◌≡◌, ◌<◌, ◌+◌, ◌==◌, ◌||◌, ◌++◌, ℕ, Bool, true, false, cond, List, [], ◌∷◌, length, take, get_or, refl, sym, ap, ◌∙◌, append-nil, append_assoc, arith}
use Rattle.std.specs.HashSet.{contains}
use Rattle.std.specs.Set.{is_member}
use Rattle.std.proofs.lemmas.Grind.{flat_map-append}
use Rattle.std.proofs.lemmas.List.Elements.{filter_more}
use Rattle.std.proofs.lemmas.List.Folds.{list_any-append}
use Rattle.std.proofs.lemmas.List.{length-append}
use Rattle.trace_read.specs.Hash.{is_sampled}
use Rattle.trace_read.specs.SampledAccesses.{SampledAccesses, Keeps}
use Rattle.trace_read.specs.Numbers.{numbers_text, number_line}
use Rattle.trace_read.specs.Sample.{sample_of}

pub numbers-append : (xs ys : List ℕ) → numbers_text (xs ++ ys) ≡ numbers_text xs ++ numbers_text ys
unfolding numbers_text
numbers-append xs ys = flat_map-append number_line xs ys

pub number-one : (key : ℕ) → numbers_text (key ∷ []) ≡ number_line key
unfolding numbers_text
number-one key = append-nil (number_line key)

or-false : (b : Bool) → (b || false) ≡ b
or-false true = refl
or-false false = refl

-- nothing was kept
pub keeps-none : (old new : SampledAccesses) → new.text.items ≡ old.text.items → new.accesses ≡ old.accesses → new.blocks ≡ old.blocks → Keeps old new []
unfolding numbers_text
keeps-none old new text accesses blocks = record {
  text = text ∙ sym (append-nil _);
  count = record {
    accesses = omega (arith, accesses);
    blocks = λ q. ap (λ b. contains (λ a b. a == b) b q) blocks ∙ sym (or-false (contains (λ a b. a == b) old.blocks q));
  };
}

or-assoc : (a b c : Bool) → ((a || b) || c) ≡ (a || (b || c))
or-assoc true b c = refl
or-assoc false b c = refl

-- some, and then more
pub keeps-then : (old mid new : SampledAccesses) (xs ys : List ℕ) → Keeps old mid xs → Keeps mid new ys → Keeps old new (xs ++ ys)
keeps-then old mid new xs ys first second = record {
  text = second.text ∙ ap (λ t. t ++ numbers_text ys) first.text ∙ append_assoc old.text.items (numbers_text xs) (numbers_text ys)
      ∙ ap (λ t. old.text.items ++ t) (sym (numbers-append xs ys));
  count = record {
    accesses = let both : length (xs ++ ys) ≡ length xs + length ys = length-append xs ys in omega (arith, first.count.accesses, second.count.accesses, both);
    blocks = λ q. second.count.blocks q ∙ ap (λ b. b || is_member (λ a b. a == b) ys q) (first.count.blocks q)
        ∙ or-assoc (contains (λ a b. a == b) old.blocks q) (is_member (λ a b. a == b) xs q) (is_member (λ a b. a == b) ys q)
        ∙ ap (λ b. contains (λ a b. a == b) old.blocks q || b) (sym (list_any-append (λ x. q == x) xs ys));
  };
}

-- the sample of one access more
pub sample-more : (inverse seed : ℕ) (keys : List ℕ) (i d : ℕ) → i < length keys
    → sample_of inverse seed (take (i + 1) keys) ≡ sample_of inverse seed (take i keys) ++ sample_of inverse seed (get_or keys i d ∷ [])
sample-more inverse seed keys i d within = filter_more (is_sampled inverse seed) keys i d within

-- a set that a key was put into has it, and what it had
pub put : (key q : ℕ) (b : Bool) → cond (key == q) true b ≡ (b || ((q == key) || false))
put key q b = grind arith
