-- Each line of the table is read.
use Rattle.std.proofs.Common.{◌≡◌, ◌∙◌, ◌<◌, ◌≤◌, ◌^◌, ◌&&◌, ◌==◌, ℕ, Bool, true, false, List, [], ◌∷◌, ◌++◌, codes, length, map, ap, sym, refl, arith, Some, None}
use Rattle.std.proofs.lemmas.Bool.{and_from, and_parts, cond-true, lt-ltb, ne_eqb}
use Rattle.std.proofs.lemmas.Fmt.{decimal_is_IsNumeral, decimal_nonempty}
use Rattle.std.proofs.lemmas.List.{append-nil, map-append}
use Rattle.std.proofs.lemmas.List.Elements.{All-cons, All-nil, All-append}
use Rattle.std.proofs.lemmas.List.Splits.{slice_split_at, slice_split_none}
use Rattle.std.proofs.lemmas.Str.Parse.{digit_from_value}
use Rattle.std.proofs.lemmas.Bool.Decides.{nat_tests}
use Rattle.std.specs.Prelude.{nat_lt}
use Rattle.std.specs.Fmt.{decimal}
use Rattle.std.specs.List.{filter, list_all}
use Rattle.std.specs.Str.Parse.{AllDigits}
use Rattle.journal_text.specs.LineGrammar.{Step, Reply, Act, Entry, JournalLine, only_at, small_at, act_at, reply_at, entry_in, count_in, line_in}
use Rattle.journal_text.specs.Table.{Word, Named, Worker, Stripe, Wide, word_text, spaced_words, FitsWord, FitWords, act_words, reply_words, entry_words, count_words, line_words, text_of, Version, IsLine}
use Rattle.journal_text.specs.declared.line.JournalLine.TheVariants.{Made, Steps}
use Rattle.journal_text.proofs.Parsed.{number_back, small_back, act_back, reply_back}
use Rattle.engine_base.specs.declared.step.Act.TheVariants as act
use Rattle.engine_base.specs.declared.step.Answer.TheVariants as answer
use Rattle.engine_base.specs.declared.step.Reply.TheVariants as reply
use Rattle.streams.specs.Cuts.{Lacks}
use Rattle.streams.specs.Feeds.{HasNoFeed}
use Rattle.streams.specs.Numbers.{number_of}
use Rattle.streams.specs.Words.{is_word, number_at, words_in}

-- ---- words and entries

pub fit_parts : (xs ys : List Word) → FitWords (xs ++ ys) → FitWords xs × FitWords ys
fit_parts [] ys f = (tt, f)
fit_parts (x ∷ xs) ys f = let p = fit_parts xs ys f.1 in ((f.0, p.0), p.1)

entry_back : (e : Entry Step Reply) → FitWords (entry_words e) → entry_in (map word_text (entry_words e)) ≡ Some e
unfolding entry_in only_at
entry_back e f =
    let a = e.step.act in
    let r = e.reply in
    let behind = Named (codes "=") ∷ reply_words r in
    let parts = fit_parts (act_words a) behind f.1 in
    let worker : small_at 64 (map word_text (entry_words e)) ≡ Some (e.step.worker, map word_text (act_words a ++ behind)) = small_back _ 64 e.step.worker (omega arith) f.0 in
    let act : act_at (map word_text (act_words a ++ behind)) ≡ Some (a, map word_text behind) = ap act_at (map-append word_text (act_words a) behind) ∙ act_back (map word_text behind) a parts.0 in
    let reply : reply_at (map word_text (reply_words r)) ≡ Some (r, []) = ap reply_at (sym (append-nil (map word_text (reply_words r)))) ∙ reply_back [] r parts.1.1 in
    rw worker (rw act (rw reply refl))

count_back : (n : ℕ) → n < 2 ^ 64 → count_in (map word_text (count_words n)) ≡ Some n
unfolding count_in only_at
count_back n h = rw (number_back [] n h) refl

-- ---- the bytes of words

module _ (c : ℕ) where
  digits_lack : c < 48 → (ds : List ℕ) → AllDigits 10 ds → Lacks c ds
  digits_lack h [] d = All-nil (λ b. (b == c) ≡ false)
  digits_lack h (b ∷ ds) d =
      let r = digit_from_value b d.0 in
      All-cons (λ b. (b == c) ≡ false) b ds (ne_eqb b c (λ e. omega arith)) (digits_lack h ds d.1)

  decimal_lacks : c < 48 → (n : ℕ) → n < 2 ^ 64 → Lacks c (decimal n)
  decimal_lacks h n l = digits_lack h (decimal n) (decimal_is_IsNumeral n l).0.1

  printed_lacks : c < 33 → (xs : List ℕ) → list_all (nat_lt 32) xs ≡ true → Lacks c xs
  printed_lacks h [] e = All-nil (λ b. (b == c) ≡ false)
  printed_lacks h (b ∷ xs) e =
      let parts = and_parts (nat_lt 32 b) (list_all (nat_lt 32) xs) e in
      let above : 33 ≤ b = grind (arith, nat_tests, parts) in
      All-cons (λ b. (b == c) ≡ false) b xs (ne_eqb b c (λ e. omega arith)) (printed_lacks h xs parts.1)

-- a text that is not empty, of bytes above the space
abbrev is_printed : List ℕ → Bool
is_printed text = is_word text && list_all (nat_lt 32) text

-- the names among the words are
abbrev are_printed : List Word → Bool
are_printed [] = true
are_printed (Named n ∷ ws) = is_printed n && are_printed ws
are_printed (_ ∷ ws) = are_printed ws

reply_printed : (r : Reply) → are_printed (reply_words r) ≡ true
reply_printed (reply.Hit n) = refl
reply_printed r = refl

act_printed : (a : Act) → are_printed (act_words a) ≡ true
act_printed (act.AfterRead answer.Kept) = refl
act_printed (act.AfterRead answer.Full) = refl
act_printed (act.AfterRead answer.Lost) = refl
act_printed a = refl

printed_joined : (xs ys : List Word) → are_printed xs ≡ true → are_printed ys ≡ true → are_printed (xs ++ ys) ≡ true
printed_joined [] ys h k = k
printed_joined (Named n ∷ xs) ys h k =
    let both = and_parts (is_printed n) (are_printed xs) h in
    and_from (is_printed n) (are_printed (xs ++ ys)) both.0 (printed_joined xs ys both.1 k)
printed_joined (Worker n ∷ xs) ys h k = printed_joined xs ys h k
printed_joined (Stripe n ∷ xs) ys h k = printed_joined xs ys h k
printed_joined (Wide n ∷ xs) ys h k = printed_joined xs ys h k

entry_printed : (e : Entry Step Reply) → are_printed (entry_words e) ≡ true
entry_printed e = printed_joined (act_words e.step.act) (Named (codes "=") ∷ reply_words e.reply) (act_printed e.step.act) (reply_printed e.reply)

name_printed : (n : List ℕ) (ws : List Word) → are_printed (Named n ∷ ws) ≡ true → (is_word n ≡ true) × (list_all (nat_lt 32) n ≡ true)
name_printed n ws p = and_parts (is_word n) (list_all (nat_lt 32) n) (and_parts (is_printed n) (are_printed ws) p).0

-- each word has a byte
word_some : (w : Word) (ws : List Word) → FitsWord w → are_printed (w ∷ ws) ≡ true → is_word (word_text w) ≡ true
word_some (Named n) ws f p = (name_printed n ws p).0
word_some (Worker n) ws f p = lt-ltb 0 (length (decimal n)) (decimal_nonempty n (omega arith))
word_some (Stripe n) ws f p = lt-ltb 0 (length (decimal n)) (decimal_nonempty n (omega arith))
word_some (Wide n) ws f p = lt-ltb 0 (length (decimal n)) (decimal_nonempty n f)

module _ (c : ℕ) (low : c < 33) where
  word_lacks : (w : Word) (ws : List Word) → FitsWord w → are_printed (w ∷ ws) ≡ true → Lacks c (word_text w)
  word_lacks (Named n) ws f p = printed_lacks c low n (name_printed n ws p).1
  word_lacks (Worker n) ws f p = decimal_lacks c (omega arith) n (omega arith)
  word_lacks (Stripe n) ws f p = decimal_lacks c (omega arith) n (omega arith)
  word_lacks (Wide n) ws f p = decimal_lacks c (omega arith) n f

later_printed : (w : Word) (ws : List Word) → are_printed (w ∷ ws) ≡ true → are_printed ws ≡ true
later_printed (Named n) ws p = (and_parts (is_printed n) (are_printed ws) p).1
later_printed (Worker n) ws p = p
later_printed (Stripe n) ws p = p
later_printed (Wide n) ws p = p

spelled_words : (w : Word) (ws : List Word) → FitWords (w ∷ ws) → are_printed (w ∷ ws) ≡ true → words_in (spaced_words (w ∷ ws)) ≡ map word_text (w ∷ ws)
spelled_words w [] f p =
    ap (filter is_word) (slice_split_none (λ b. b == 32) (word_text w) (word_lacks 32 (omega arith) w [] f.0 p)) ∙ cond-true _ _ _ (word_some w [] f.0 p)
spelled_words w (v ∷ vs) f p =
    ap (filter is_word) (slice_split_at (λ b. b == 32) (word_text w) 32 (spaced_words (v ∷ vs)) (word_lacks 32 (omega arith) w (v ∷ vs) f.0 p) refl)
    ∙ cond-true _ _ _ (word_some w (v ∷ vs) f.0 p) ∙ ap (λ t. word_text w ∷ t) (spelled_words v vs f.1 (later_printed w (v ∷ vs) p))

-- a line has no line feed in it
spelled_lacks : (w : Word) (ws : List Word) → FitWords (w ∷ ws) → are_printed (w ∷ ws) ≡ true → Lacks 10 (spaced_words (w ∷ ws))
spelled_lacks w [] f p = word_lacks 10 (omega arith) w [] f.0 p
spelled_lacks w (v ∷ vs) f p =
    All-append (λ b. (b == 10) ≡ false) (word_text w) (32 ∷ spaced_words (v ∷ vs)) (word_lacks 10 (omega arith) w (v ∷ vs) f.0 p)
    (All-cons (λ b. (b == 10) ≡ false) 32 (spaced_words (v ∷ vs)) refl (spelled_lacks v vs f.1 (later_printed w (v ∷ vs) p)))

-- ---- lines

words_again : (l : JournalLine) → FitWords (line_words l) → words_in (text_of l) ≡ map word_text (line_words l)
unfolding text_of
words_again (Made e) f = spelled_words (Worker e.step.worker) _ f (entry_printed e)
words_again (Steps n) f = spelled_words (Named (codes "steps")) (Wide n ∷ []) f refl

-- the words of a count are no entry's
no_entry : (n : ℕ) → entry_in (map word_text (count_words n)) ≡ None
unfolding entry_in small_at number_at number_of
no_entry n = refl

-- Each line of the table is read.
pub line_again : (v : Version) (l : JournalLine) → IsLine v l → line_in (text_of l) ≡ Some l
unfolding IsLine line_in
line_again v (Made e) h = rw (words_again (Made e) h.0) (rw (entry_back e h.0) refl)
line_again v (Steps n) h = rw (words_again (Steps n) h.0) (rw (no_entry n) (rw (count_back n h.0.1.0) refl))

-- It has no line feed in it.
pub line_lacks : (v : Version) (l : JournalLine) → IsLine v l → HasNoFeed (text_of l)
unfolding IsLine text_of
line_lacks v (Made e) h = spelled_lacks (Worker e.step.worker) _ h.0 (entry_printed e)
line_lacks v (Steps n) h = spelled_lacks (Named (codes "steps")) (Wide n ∷ []) h.0 refl
