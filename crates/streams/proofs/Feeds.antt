-- The lines of a text: the first, and those behind it.
use Rattle.std.proofs.Common.{◌≡◌, ◌∙◌, ◌<◌, ◌+◌, ◌==◌, ℕ, false, List, [], ◌∷◌, ◌++◌, length, take, drop, get_or, ap, sym, subst, refl, arith, append_assoc}
use Rattle.std.proofs.lemmas.List.{append-nil}
use Rattle.std.proofs.lemmas.List.Elements.{All-append}
use Rattle.std.proofs.lemmas.List.Splits.{length-slice_split, slice_split_at, slice_split_none}
use Rattle.std.proofs.lemmas.List.Sums.{passes_at_first, split_at_first}
use Rattle.streams.specs.Feeds.{feed_in, lines_of, HasNoFeed}
use Rattle.streams.proofs.Cuts.{lacks_all, lacks_before}

-- a line with its line feed stands before the others
pub lines_fed : (l bytes : List ℕ) → HasNoFeed l → lines_of ((l ++ 10 ∷ []) ++ bytes) ≡ l ∷ lines_of bytes
lines_fed l bytes h = ap lines_of (append_assoc l (10 ∷ []) bytes) ∙ slice_split_at (λ b. b == 10) l 10 bytes h refl

-- a text without a line feed is one line
pub one_unfed : (l : List ℕ) → HasNoFeed l → lines_of l ≡ l ∷ []
one_unfed l h = slice_split_none (λ b. b == 10) l h

-- each text has a line
pub has_lines : (bytes : List ℕ) → lines_of bytes ≡ [] → ⊥
has_lines bytes e =
    let some = length-slice_split (λ b. b == 10) bytes in
    let none : length (lines_of bytes) ≡ 0 = ap length e in
    omega (arith, some, none)

-- ---- a line that was cut, and the bytes behind it

first_cut : (cut xs more : List ℕ) → HasNoFeed cut → feed_in xs < length xs
    → lines_of (cut ++ (xs ++ more)) ≡ (cut ++ take (feed_in xs) xs) ∷ lines_of (drop (feed_in xs + 1) xs ++ more)
first_cut cut xs more h lt =
    let feed = get_or xs (feed_in xs) 0 in
    let rest = drop (feed_in xs + 1) xs in
    let whole : cut ++ (xs ++ more) ≡ (cut ++ take (feed_in xs) xs) ++ (feed ∷ (rest ++ more)) =
    ap (λ l. cut ++ (l ++ more)) (split_at_first (λ b. b == 10) xs 0 lt)
    ∙ ap (λ l. cut ++ l) (append_assoc (take (feed_in xs) xs) (feed ∷ rest) more)
    ∙ sym (append_assoc cut (take (feed_in xs) xs) (feed ∷ (rest ++ more))) in
    ap lines_of whole
    ∙ slice_split_at (λ b. b == 10) (cut ++ take (feed_in xs) xs) feed (rest ++ more)
    (All-append (λ b. (b == 10) ≡ false) cut (take (feed_in xs) xs) h (lacks_before 10 xs)) (passes_at_first (λ b. b == 10) xs 0 lt)

-- it ends in the bytes
pub cut_line : (cut xs more : List ℕ) (end : ℕ) → HasNoFeed cut → end ≡ feed_in xs → end < length xs
    → lines_of (cut ++ (xs ++ more)) ≡ (cut ++ take end xs) ∷ lines_of (drop (end + 1) xs ++ more)
cut_line cut xs more end h at lt =
    subst (λ k. lines_of (cut ++ (xs ++ more)) ≡ (cut ++ take k xs) ∷ lines_of (drop (k + 1) xs ++ more)) (sym at)
    (first_cut cut xs more h (subst (λ k. k < length xs) at lt))

-- it does not
pub no_feed_more : (cut xs : List ℕ) → HasNoFeed cut → feed_in xs ≡ length xs → HasNoFeed (cut ++ xs)
no_feed_more cut xs h all = All-append (λ b. (b == 10) ≡ false) cut xs h (lacks_all 10 xs all)

-- it is the last
pub last_line : (cut : List ℕ) → HasNoFeed cut → lines_of (cut ++ []) ≡ cut ∷ []
last_line cut h = ap lines_of (append-nil cut) ∙ one_unfed cut h
