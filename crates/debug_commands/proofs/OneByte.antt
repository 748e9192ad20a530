-- What a read of a single byte gives.
use Rattle.std.proofs.Common.{◌≡◌, ◌∙◌, ◌≤◌, ◌==◌, ℕ, false, List, [], ◌∷◌, ◌++◌, length, take, get_or, refl, ap, sym, arith, subst, Option}
use Rattle.std.proofs.KnownBytes.{Consumes-trans}
use Rattle.std.proofs.lemmas.Bool.{ne_eqb}
use Rattle.std.proofs.lemmas.List.Elements.{All-push}
use Rattle.std.specs.Io.KnownBytes.{Consumes}
use Rattle.streams.specs.Feeds.{HasNoFeed}

-- a chunk of one byte, of which some was read, is that byte
one_byte : (n : ℕ) (chunk : List ℕ) → length chunk ≡ 1 → n ≤ length chunk → (n ≡ 0 → ⊥) → take n chunk ≡ get_or chunk 0 0 ∷ []
one_byte n [] one within some = absurd (omega (arith, one))
one_byte n (b ∷ []) one within some =
    let is : n ≡ 1 = omega (arith, within, some) in ap (λ k. take k (b ∷ [])) is
one_byte n (b ∷ d ∷ ds) one within some = absurd (omega (arith, one))

whole_byte : (chunk : List ℕ) → length chunk ≡ 1 → chunk ≡ get_or chunk 0 0 ∷ []
whole_byte [] one = absurd (omega (arith, one))
whole_byte (b ∷ []) one = refl
whole_byte (b ∷ d ∷ ds) one = absurd (omega (arith, one))

pub one_more : (old mid new : Option (List ℕ)) (text chunk : List ℕ) (n : ℕ) → length chunk ≡ 1 → n ≤ length chunk → (n ≡ 0 → ⊥)
    → Consumes old mid text → Consumes mid new (take n chunk) → Consumes old new (text ++ get_or chunk 0 0 ∷ [])
one_more old mid new text chunk n one within some a b =
    Consumes-trans old mid new text (get_or chunk 0 0 ∷ []) a (subst (Consumes mid new) (one_byte n chunk one within some) b)

-- the byte is put behind the text
pub line_more : (old mid new : Option (List ℕ)) (text chunk now : List ℕ) (n : ℕ) → length chunk ≡ 1 → n ≤ length chunk → (n ≡ 0 → ⊥)
    → now ≡ text ++ chunk → Consumes old mid text → Consumes mid new (take n chunk) → Consumes old new now
line_more old mid new text chunk now n one within some e a b =
    subst (Consumes old new) (sym (e ∙ ap (λ t. text ++ t) (whole_byte chunk one))) (one_more old mid new text chunk n one within some a b)

pub feeds_more : (text chunk now : List ℕ) → length chunk ≡ 1 → (get_or chunk 0 0 ≡ 10 → ⊥) → now ≡ text ++ chunk → HasNoFeed text → HasNoFeed now
feeds_more text chunk now one other e h =
    subst HasNoFeed (sym (e ∙ ap (λ t. text ++ t) (whole_byte chunk one)))
    (All-push (λ b. (b == 10) ≡ false) text (get_or chunk 0 0) h (ne_eqb _ _ other))
