-- Words written one after another make the text of their line.
use Rattle.std.proofs.Common.{◌≡◌, ◌∙◌, ℕ, List, [], ◌∷◌, ◌++◌, codes, ap, sym, refl, append_assoc}
use Rattle.std.proofs.lemmas.List.{append-nil}
use Rattle.std.specs.Fmt.{decimal}
use Rattle.journal_text.specs.Journal.{Step, Reply, Entry}
use Rattle.journal_text.specs.Table.{Act, word_text, spaced_words, spaced, act_word, act_words, behind, reply_word, reply_words, entry_words, Word, Named, Worker}
use Rattle.engine_base.specs.declared.step.Act.TheVariants as act
use Rattle.engine_base.specs.declared.step.Reply.TheVariants as reply

pub spaced_none : spaced [] ≡ []
unfolding spaced
spaced_none = refl

pub spaced_append : (xs ys : List Word) → spaced (xs ++ ys) ≡ spaced xs ++ spaced ys
unfolding spaced
spaced_append [] ys = refl
spaced_append (x ∷ xs) ys =
    ap (λ t. 32 ∷ (word_text x ++ t)) (spaced_append xs ys) ∙ ap (λ t. 32 ∷ t) (sym (append_assoc (word_text x) (spaced xs) (spaced ys)))

pub spelled_spaced : (w : Word) (ws : List Word) → spaced_words (w ∷ ws) ≡ word_text w ++ spaced ws
unfolding spaced
spelled_spaced w [] = sym (append-nil (word_text w))
spelled_spaced w (v ∷ vs) = ap (λ t. word_text w ++ (32 ∷ t)) (spelled_spaced v vs)

-- a space and a word more
pub word_more : (text pushed new : List ℕ) (w : Word) (ws : List Word) → pushed ≡ text ++ 32 ∷ [] → new ≡ pushed ++ word_text w
    → new ++ spaced ws ≡ text ++ spaced (w ∷ ws)
unfolding spaced
word_more text pushed new w ws p n =
    ap (λ t. t ++ spaced ws) (n ∙ ap (λ t. t ++ word_text w) p ∙ append_assoc text (32 ∷ []) (word_text w))
    ∙ append_assoc text (32 ∷ word_text w) (spaced ws)

pub words_more : (text a b : List ℕ) (w : Word) (ws : List Word) → a ≡ text ++ word_text w → b ≡ a ++ spaced ws → b ≡ text ++ spaced_words (w ∷ ws)
words_more text a b w ws h k =
    k ∙ ap (λ t. t ++ spaced ws) h ∙ append_assoc text (word_text w) (spaced ws) ∙ ap (λ t. text ++ t) (sym (spelled_spaced w ws))

-- a word with a space before it, and then others
pub name_more : (text a b : List ℕ) (n : List ℕ) (ws : List Word) → a ≡ text ++ spaced (Named n ∷ []) → b ≡ a ++ spaced ws → b ≡ text ++ spaced (Named n ∷ ws)
name_more text a b n ws h k =
    k ∙ ap (λ t. t ++ spaced ws) h ∙ append_assoc text (spaced (Named n ∷ [])) (spaced ws) ∙ ap (λ t. text ++ t) (sym (spaced_append (Named n ∷ []) ws))

-- acts and replies begin with their words
pub act_front : (a : Act) → act_words a ≡ Named (act_word a) ∷ behind (act_words a)
act_front (act.Look k) = refl
act_front a = refl

pub reply_front : (r : Reply) → reply_words r ≡ Named (reply_word r) ∷ behind (reply_words r)
reply_front (reply.Hit n) = refl
reply_front r = refl

pub entry_more : (text a b d e : List ℕ) (entry : Entry Step Reply) → a ≡ text ++ decimal entry.step.worker → b ≡ a ++ spaced (act_words entry.step.act)
    → d ≡ b ++ spaced (Named (codes "=") ∷ []) → e ≡ d ++ spaced (reply_words entry.reply) → e ≡ text ++ spaced_words (entry_words entry)
entry_more text a b d e entry ha hb hd he =
    let acts = act_words entry.step.act in
    let equals = Named (codes "=") ∷ reply_words entry.reply in
    let all : e ≡ a ++ spaced (acts ++ equals) =
    name_more b d e (codes "=") (reply_words entry.reply) hd he ∙ ap (λ t. t ++ spaced equals) hb ∙ append_assoc a (spaced acts) (spaced equals)
    ∙ ap (λ t. a ++ t) (sym (spaced_append acts equals)) in
    words_more text a e (Worker entry.step.worker) (acts ++ equals) ha all
