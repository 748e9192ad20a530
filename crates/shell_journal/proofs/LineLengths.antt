-- How long the line of an entry is, whose nodes are small.
use Rattle.std.proofs.Common.{◌≡◌, ◌∙◌, ℕ, ◌+◌, ◌*◌, ◌^◌, ◌<◌, ◌≤◌, true, List, [], ◌∷◌, ◌++◌, codes, length, ap, refl, arith, length-append, nat_le}
use Rattle.std.proofs.lemmas.Bool.{and_parts}
use Rattle.std.proofs.lemmas.Bool.Decides.{nat_tests}
use Rattle.std.proofs.lemmas.Fmt.{length-decimal-le}
use Rattle.std.proofs.lemmas.List.Elements.{All-head, All-tail}
use Rattle.std.specs.Fmt.{decimal}
use Rattle.std.specs.List.{AllByRecursion, flat_map}
use Rattle.engine_base.specs.declared.limits.TheConstants.{MAX_STEPS}
use Rattle.engine_base.specs.declared.step.Act.TheVariants as a
use Rattle.engine_base.specs.declared.step.Reply.TheVariants as reply
use Rattle.engine_base.specs.Answers.{is_answer}
use Rattle.engine_base.specs.History.{Entries}
use Rattle.journal_text.specs.Journal.{Entry, Step, Reply, entry_line, AreLines}
use Rattle.journal_text.specs.Table.{Act, Item, act_word, act_words, answer_reply, behind, entry_words, is_in_version, item_words, reply_word, reply_words, spaced, spaced_words, text_of, word_text, FitWords, IsLine, Word, Named, Worker, Stripe, Wide}
use Rattle.journal_text.specs.declared.line.JournalLine.TheVariants.{Made}
use Rattle.journal_text.specs.declared.version.Version.TheVariants.{Two}
use Rattle.journal_text.proofs.LineLaws.{fit_parts}
use Rattle.journal_text.proofs.Spacing.{act_front, reply_front, spaced_append, spaced_none, spelled_spaced}
use Rattle.shell_journal.proofs.NodeBounds.{act_node, reply_node, IsLow}

-- ---- words

short-act : (b : Act) → nat_le (length (act_word b)) 10 ≡ true
short-act (a.Look k) = refl
short-act b = refl

short-reply : (r : Reply) → nat_le (length (reply_word r)) 10 ≡ true
short-reply (reply.Hit n) = refl
short-reply r = refl

-- a space and a word more
pub one-more : (w : Word) (ws : List Word) → length (spaced (w ∷ ws)) ≡ 1 + length (word_text w) + length (spaced ws)
unfolding spaced
one-more w ws = let both = length-append (word_text w) (spaced ws) in omega (arith, both)

pub none-more : length (spaced []) ≡ 0
none-more = ap (λ (t : List ℕ). length t) spaced_none

key-length : (n : ℕ) → n < 2 ^ 64 → length (decimal n) ≤ 20
key-length n h = length-decimal-le 20 n (omega arith) (omega arith) h

node-length : (n : ℕ) → n ≤ MAX_STEPS → length (decimal n) ≤ 10
node-length n h = length-decimal-le 10 n (omega arith) (omega arith) (omega arith)

stripe-length : (n : ℕ) → n < 256 → length (decimal n) ≤ 3
stripe-length n h = length-decimal-le 3 n (omega arith) (omega arith) (omega arith)

worker-length : (n : ℕ) → n < 64 → length (decimal n) ≤ 2
worker-length n h = length-decimal-le 2 n (omega arith) (omega arith) (omega arith)

item-length : (i : Item) → i.key < 2 ^ 64 → i.node ≤ MAX_STEPS → length (spaced (item_words i)) ≤ 32
item-length i k n =
    omega (arith, one-more (Wide i.key) (Wide i.node ∷ []), one-more (Wide i.node) [], none-more, key-length i.key k, node-length i.node n)

-- ---- acts and replies

-- a word at the front, and what is behind it
front-length : (words : List Word) (n : List ℕ) (rest : ℕ) → words ≡ Named n ∷ behind words → nat_le (length n) 10 ≡ true → length (spaced (behind words)) ≤ rest
    → length (spaced words) ≤ 11 + rest
front-length words n rest front short h =
    let few : length n ≤ 10 = grind (arith, nat_tests, short) in
    omega (arith, ap (λ ws. length (spaced ws)) front, one-more (Named n) (behind words), few, h)

abbrev act_width : Act → ℕ
act_width (a.Look k) = 21
act_width (a.Offer s i) = 36
act_width (a.Lose s i) = 36
act_width (a.Put k) = 21
act_width (a.Remove k) = 21
act_width (a.AfterRead b) = 11
act_width (a.DrainRead s) = 4
act_width b = 0

one-key : (n : ℕ) → n < 2 ^ 64 → length (spaced (Wide n ∷ [])) ≤ 21
one-key n h = omega (arith, one-more (Wide n) [], none-more, key-length n h)

offer-length : (s : ℕ) (i : Item) → s < 256 → i.key < 2 ^ 64 → i.node ≤ MAX_STEPS → length (spaced (Stripe s ∷ item_words i)) ≤ 36
offer-length s i h k l = omega (arith, one-more (Stripe s) (item_words i), stripe-length s h, item-length i k l)

act-numbers : (b : Act) → FitWords (act_words b) → act_node b ≤ MAX_STEPS → length (spaced (behind (act_words b))) ≤ act_width b
act-numbers (a.Look k) f l = one-key k f.1.0
act-numbers (a.Offer s i) f l = offer-length s i f.1.0 f.1.1.0 l
act-numbers (a.Lose s i) f l = offer-length s i f.1.0 f.1.1.0 l
act-numbers (a.Put k) f l = one-key k f.1.0
act-numbers (a.Remove k) f l = one-key k f.1.0
act-numbers (a.AfterRead b) f l =
    let few : length (reply_word (answer_reply b)) ≤ 10 = grind (arith, nat_tests, short-reply (answer_reply b)) in
    omega (arith, one-more (Named (reply_word (answer_reply b))) [], none-more, few)
act-numbers (a.DrainRead s) f l = omega (arith, one-more (Stripe s) [], none-more, stripe-length s f.1.0)
act-numbers b f l = omega (arith, none-more)

abbrev reply_width : Reply → ℕ
reply_width (reply.Hit n) = 11
reply_width (reply.Added n) = 11
reply_width (reply.Present n) = 11
reply_width (reply.Removed n) = 11
reply_width (reply.Drained i) = 32
reply_width (reply.Applied i) = 32
reply_width (reply.Cleared i) = 32
reply_width (reply.Shifted i) = 32
reply_width (reply.Evicted i) = 32
reply_width (reply.Rejected i) = 32
reply_width r = 0

one-node : (n : ℕ) → n ≤ MAX_STEPS → length (spaced (Wide n ∷ [])) ≤ 11
one-node n h = omega (arith, one-more (Wide n) [], none-more, node-length n h)

reply-numbers : (r : Reply) → FitWords (reply_words r) → reply_node r ≤ MAX_STEPS → length (spaced (behind (reply_words r))) ≤ reply_width r
reply-numbers (reply.Hit n) f l = one-node n l
reply-numbers (reply.Added n) f l = one-node n l
reply-numbers (reply.Present n) f l = one-node n l
reply-numbers (reply.Removed n) f l = one-node n l
reply-numbers (reply.Drained i) f l = item-length i f.1.0 l
reply-numbers (reply.Applied i) f l = item-length i f.1.0 l
reply-numbers (reply.Cleared i) f l = item-length i f.1.0 l
reply-numbers (reply.Shifted i) f l = item-length i f.1.0 l
reply-numbers (reply.Evicted i) f l = item-length i f.1.0 l
reply-numbers (reply.Rejected i) f l = item-length i f.1.0 l
reply-numbers r f l = omega (arith, none-more)

-- an act with one of its replies
widths : (b : Act) (r : Reply) → is_answer b r ≡ true → act_width b + reply_width r ≤ 36
widths (a.Look k) (reply.Hit n) h = omega arith
widths (a.Look k) reply.Miss h = omega arith
widths (a.Offer s i) reply.Kept h = omega arith
widths (a.Offer s i) reply.Full h = omega arith
widths (a.Lose s i) reply.Lost h = omega arith
widths (a.Put k) (reply.Added n) h = omega arith
widths (a.Put k) (reply.Present n) h = omega arith
widths (a.Put k) reply.WritesFull h = omega arith
widths (a.Remove k) (reply.Removed n) h = omega arith
widths (a.Remove k) reply.Absent h = omega arith
widths (a.Remove k) reply.WritesFull h = omega arith
widths (a.AfterRead b) reply.Go h = omega arith
widths (a.AfterRead b) reply.Drain h = omega arith
widths a.AfterWrite reply.Go h = omega arith
widths a.AfterWrite reply.Drain h = omega arith
widths a.Begin reply.Began h = omega arith
widths a.Begin reply.Busy h = omega arith
widths (a.DrainRead s) (reply.Drained i) h = omega arith
widths (a.DrainRead s) reply.Empty h = omega arith
widths a.DrainWrite (reply.Applied i) h = omega arith
widths a.DrainWrite (reply.Cleared i) h = omega arith
widths a.DrainWrite reply.Empty h = omega arith
widths a.DrainWrite reply.Enough h = omega arith
widths a.Evict (reply.Shifted i) h = omega arith
widths a.Evict (reply.Evicted i) h = omega arith
widths a.Evict (reply.Rejected i) h = omega arith
widths a.Evict reply.Fits h = omega arith
widths a.End reply.Idle h = omega arith
widths a.End reply.Again h = omega arith
widths a.End reply.NotYet h = omega arith
widths b r h = absurd (cc h)

-- ---- the line of an entry

pub line-length : (e : Entry Step Reply) → IsLine Two (Made e) → IsLow e → length (entry_line e) ≤ 63
unfolding text_of IsLine
line-length e line low =
    let acts = act_words e.step.act in
    let equals : List Word = Named (codes "=") ∷ reply_words e.reply in
    let parts = fit_parts acts equals line.0.1 in
    let right = and_parts (is_in_version Two e.step.act e.reply) (is_answer e.step.act e.reply) line.1 in
    let text : spaced_words (entry_words e) ≡ decimal e.step.worker ++ spaced (acts ++ equals) = spelled_spaced (Worker e.step.worker) (acts ++ equals) in
    let sizes : length (spaced_words (entry_words e)) ≡ length (decimal e.step.worker) + length (spaced (acts ++ equals)) =
    ap (λ (t : List ℕ). length t) text ∙ length-append (decimal e.step.worker) (spaced (acts ++ equals)) in
    let halves : length (spaced (acts ++ equals)) ≡ length (spaced acts) + length (spaced equals) =
    ap (λ (t : List ℕ). length t) (spaced_append acts equals) ∙ length-append (spaced acts) (spaced equals) in
    let reply_part : length (spaced equals) ≡ 2 + length (spaced (reply_words e.reply)) = one-more (Named (codes "=")) (reply_words e.reply) in
    let ended : length (entry_line e) ≡ length (spaced_words (entry_words e)) + 1 = length-append (spaced_words (entry_words e)) (10 ∷ []) in
    let w = worker-length e.step.worker line.0.0 in
    let acted = front-length acts (act_word e.step.act) (act_width e.step.act) (act_front e.step.act) (short-act e.step.act) (act-numbers e.step.act parts.0 low.of_act) in
    let answered = front-length (reply_words e.reply) (reply_word e.reply) (reply_width e.reply) (reply_front e.reply) (short-reply e.reply) (reply-numbers e.reply parts.1.1 low.of_reply) in
    let both = widths e.step.act e.reply right.1 in
    omega (arith, sizes, halves, reply_part, ended, w, acted, answered, both)

pub lines-length : (es : Entries) → AreLines Two es → AllByRecursion IsLow es → length (flat_map entry_line es) ≤ 63 * length es
lines-length [] lines low = omega arith
lines-length (e ∷ es) lines low =
    let first = line-length e (All-head (λ x. IsLine Two (Made x)) e es lines) low.0 in
    let others = lines-length es (All-tail (λ x. IsLine Two (Made x)) e es lines) low.1 in
    let both = length-append (entry_line e) (flat_map entry_line es) in
    omega (arith, first, others, both)
