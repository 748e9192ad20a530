-- What words spell is read of them again.
use Rattle.std.proofs.Common.{◌≡◌, ◌∙◌, ◌<◌, ◌^◌, ℕ, true, List, ◌∷◌, ◌++◌, map, ap, sym, refl, arith, Option, Some, None}
use Rattle.std.proofs.lemmas.Bool.{cond-true, lt-ltb}
use Rattle.std.proofs.lemmas.Fmt.{decimal_is_IsNumeral}
use Rattle.std.proofs.lemmas.Str.Parse.{IsNumeralModel, numerals_by_value, tells_all_ascii_digits}
use Rattle.std.specs.Fmt.{decimal}
use Rattle.std.specs.Prelude.{nat_lt}
use Rattle.std.specs.Str.{all_ascii_digits}
use Rattle.std.specs.Str.Parse.{digits_value}
use Rattle.journal_text.specs.LineGrammar.{Reply, Answer, Act, Item, named_at, small_at, item_at, answer_at, act_at, reply_at}
use Rattle.journal_text.specs.Table.{word_text, FitWords, act_words, answer_reply, reply_word, reply_words}
use Rattle.engine_base.specs.declared.step.Act.TheVariants as act
use Rattle.engine_base.specs.declared.step.Answer.TheVariants as answer
use Rattle.engine_base.specs.declared.step.Reply.TheVariants as reply
use Rattle.streams.proofs.Numbers.{a_number}
use Rattle.streams.specs.Numbers.{number_of}
use Rattle.streams.specs.Reads.{◌>>=◌, first_named, with_rest}
use Rattle.streams.specs.Words.{number_at}

own : IsNumeralModel (λ ds. all_ascii_digits ds ≡ true) (digits_value 10)
own = numerals_by_value _ tells_all_ascii_digits

number_again : (n : ℕ) → n < 2 ^ 64 → number_of (decimal n) ≡ Some n
number_again n h =
    let numeral = decimal_is_IsNumeral n h in
    let value : digits_value 10 (decimal n) ≡ n = numeral.1 in
    sym (a_number (decimal n) numeral.0.0 (own.from (decimal n) numeral.0.1) (omega arith)) ∙ ap Some value

module _ (ws : List (List ℕ)) where
  pub number_back : (n : ℕ) → n < 2 ^ 64 → number_at (decimal n ∷ ws) ≡ Some (n, ws)
  unfolding number_at
  number_back n h = ap (with_rest ws) (number_again n h)

  pub small_back : (limit n : ℕ) → limit < 2 ^ 64 → n < limit → small_at limit (decimal n ∷ ws) ≡ Some (n, ws)
  unfolding small_at
  small_back limit n l h =
      rw (number_back n (omega arith)) (cond-true (nat_lt n limit) (Some (n, ws)) None (lt-ltb n limit h))

  pub item_back : (i : Item) → i.key < 2 ^ 64 → i.node < 2 ^ 64 → item_at (decimal i.key ∷ decimal i.node ∷ ws) ≡ Some (i, ws)
  unfolding item_at number_at
  item_back i k n = rw (number_again i.key k) (rw (number_again i.node n) refl)

  pub answer_back : (a : Answer) → answer_at (reply_word (answer_reply a) ∷ ws) ≡ Some (a, ws)
  unfolding answer_at named_at
  answer_back answer.Kept = refl
  answer_back answer.Full = refl
  answer_back answer.Lost = refl

-- a value made of what is read
read_as : {A B L : Type 0} (o : Option (A × L)) (f : A → B) (x : A) (l : L) → o ≡ Some (x, l)
    → ◌>>=◌ {B = B × L} o (λ k. Some (f k.0, k.1)) ≡ Some (f x, l)
read_as {A} {B} {L} o f x l h =
    let made : A × L → Option (B × L) = λ k. Some (f k.0, k.1) in
    ap (λ o. o >>= made) h

striped_back : (ws : List (List ℕ)) (make : ℕ → Item → Act) (s : ℕ) (i : Item) → s < 256 → i.key < 2 ^ 64 → i.node < 2 ^ 64
    → ◌>>=◌ {B = Act × List (List ℕ)} (small_at 256 (decimal s ∷ decimal i.key ∷ decimal i.node ∷ ws)) (λ n. (item_at n.1 >>= λ j. Some (make n.0 j.0, j.1))) ≡ Some (make s i, ws)
striped_back ws make s i hs hk hn =
    let made : ℕ × List (List ℕ) → Option (Act × List (List ℕ)) = λ n. (item_at n.1 >>= λ j. Some (make n.0 j.0, j.1)) in
    ap (λ o. o >>= made) (small_back (decimal i.key ∷ decimal i.node ∷ ws) 256 s (omega arith) hs)
    ∙ read_as _ (make s) i ws (item_back ws i hk hn)

pub act_back : (ws : List (List ℕ)) (a : Act) → FitWords (act_words a) → act_at (map word_text (act_words a) ++ ws) ≡ Some (a, ws)
unfolding act_at named_at
act_back ws (act.Look n) f = read_as _ act.Look n ws (number_back ws n f.1.0)
act_back ws (act.Offer s i) f = striped_back ws act.Offer s i f.1.0 f.1.1.0 f.1.1.1.0
act_back ws (act.Lose s i) f = striped_back ws act.Lose s i f.1.0 f.1.1.0 f.1.1.1.0
act_back ws (act.Put n) f = read_as _ act.Put n ws (number_back ws n f.1.0)
act_back ws (act.Remove n) f = read_as _ act.Remove n ws (number_back ws n f.1.0)
act_back ws (act.AfterRead a) f = read_as _ act.AfterRead a ws (answer_back ws a)
act_back ws (act.DrainRead s) f = read_as _ act.DrainRead s ws (small_back ws 256 s (omega arith) f.1.0)
act_back ws a f = refl

pub reply_back : (ws : List (List ℕ)) (r : Reply) → FitWords (reply_words r) → reply_at (map word_text (reply_words r) ++ ws) ≡ Some (r, ws)
unfolding reply_at named_at
reply_back ws (reply.Hit n) f = read_as _ reply.Hit n ws (number_back ws n f.1.0)
reply_back ws (reply.Added n) f = read_as _ reply.Added n ws (number_back ws n f.1.0)
reply_back ws (reply.Present n) f = read_as _ reply.Present n ws (number_back ws n f.1.0)
reply_back ws (reply.Removed n) f = read_as _ reply.Removed n ws (number_back ws n f.1.0)
reply_back ws (reply.Drained i) f = read_as _ reply.Drained i ws (item_back ws i f.1.0 f.1.1.0)
reply_back ws (reply.Applied i) f = read_as _ reply.Applied i ws (item_back ws i f.1.0 f.1.1.0)
reply_back ws (reply.Cleared i) f = read_as _ reply.Cleared i ws (item_back ws i f.1.0 f.1.1.0)
reply_back ws (reply.Shifted i) f = read_as _ reply.Shifted i ws (item_back ws i f.1.0 f.1.1.0)
reply_back ws (reply.Evicted i) f = read_as _ reply.Evicted i ws (item_back ws i f.1.0 f.1.1.0)
reply_back ws (reply.Rejected i) f = read_as _ reply.Rejected i ws (item_back ws i f.1.0 f.1.1.0)
reply_back ws r f = refl

-- the value that is found for a word
pub found_at : {A : Type 0} (spelled : A → List ℕ) (ns : List A) (words : List (List ℕ)) (w : List ℕ) (ws : List (List ℕ)) (o : Option A) → words ≡ w ∷ ws
    → o ≡ first_named spelled ns w → with_rest ws o ≡ named_at spelled ns words
unfolding named_at
found_at spelled ns words w ws o e h = ap (with_rest ws) h ∙ sym (ap (named_at spelled ns) e)
