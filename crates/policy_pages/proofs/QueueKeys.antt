-- What the parts of an access make of the keys of the queues.
use Rattle.std.proofs.lemmas.Bool.Decides.{nat_tests}
use Rattle.std.proofs.Common.{eqb, ◌++◌, map, take, ◌≡◌, ℕ, ◌<◌, false, Option, Some, None, List, [], ◌∷◌, drop, ap, sym, ◌∙◌, refl, arith, ◌+◌, Bool, true, nat_lt, length, length-append, ◌≤◌, cond, ◌||◌}
use Rattle.std.proofs.lemmas.List.{length-map}
use Rattle.std.proofs.lemmas.Bool.{lt-ltb}
use Rattle.engine_base.specs.Keys.{has_key, keys_without}
use Rattle.queue_table.specs.Entries.{entry, entries_without}
use Rattle.queue_table.specs.Queues.{Queues, with_queue, after_send}
use Rattle.queue_table.specs.declared.records.Entry.{Entry}
use Rattle.queue_table.specs.Moves.{leaving, after_leaving, item_of}
use Rattle.queue_table.specs.Tabled.{IsTabled, keys_of, HasKeys, nodes_of}
use Rattle.queue_table.proofs.Tabled.{keys-taken, keys-append}
use Rattle.policy_pages.specs.Ghost.{ghost_with}
use Rattle.policy_pages.proofs.Ghost.{without-none, without-length}
use Rattle.policy_pages.proofs.Leavers.{any-out, any-sent, ghost_entries}
use Rattle.policy_pages.proofs.Weights.{has-append}

pub length-keys : (l : List Entry) → length (keys_of l) ≡ length l
length-keys l = length-map l (λ (e : Entry). e.item.key)

pub keys-length : (l m : List Entry) → length (keys_of l ++ keys_of m) ≡ length l + length m
keys-length l m = grind (arith, nat_tests, length-map, length-append (keys_of l) (keys_of m))

pub without-keys : (k : ℕ) (l : List Entry) → nodes_of l ≡ 0 → keys_of (entries_without (item_of k) l) ≡ keys_without k (keys_of l)
without-keys k l h = sym (keys-taken k l h)

-- ---- the accessed key goes to the recent end of a queue

pub keys-sent : (k m q : ℕ) (s : Queues) → HasKeys s → (j : ℕ)
    → keys_of (after_send (entry (item_of k) m) q s j) ≡ cond (eqb j q) (keys_without k (keys_of (s q)) ++ k ∷ []) (keys_without k (keys_of (s j)))
keys-sent k m q s z j = grind (arith, nat_tests, keys-append, without-keys)

-- ---- a queue's oldest key leaves it

-- the keys f of the queues, once the oldest of `from` has left it, for another queue or for good
abbrev pub keys_left : ℕ → Option (ℕ × ℕ) → (ℕ → List ℕ) → ℕ → List ℕ
keys_left from None f j = cond (eqb j from) (drop 1 (f from)) (f j)
keys_left from (Some to) f j =
    cond (eqb j to.0) (cond (eqb to.0 from) (drop 1 (f from)) (f to.0) ++ take 1 (f from)) (cond (eqb j from) (drop 1 (f from)) (f j))

keys-drop : (l : List Entry) → keys_of (drop 1 l) ≡ drop 1 (keys_of l)
keys-drop [] = refl
keys-drop (e ∷ l) = refl

keys-take : (n : ℕ) (l : List Entry) → keys_of (map (λ (e : Entry). entry e.item n) (take 1 l)) ≡ take 1 (keys_of l)
keys-take n [] = refl
keys-take n (e ∷ l) = refl

module _ (s : Queues) (from : ℕ) (t : IsTabled s) where
  abbrev keys : ℕ → List ℕ
  keys q = keys_of (s q)

  rest : (j : ℕ) → keys_of (with_queue from (drop 1 (s from)) s j) ≡ keys_left from None keys j
  rest j = (grind (arith, nat_tests)) ∙ ap (λ l. cond (eqb j from) l (keys j)) (keys-drop (s from))

  pub left-keys : (to : Option (ℕ × ℕ)) (j : ℕ) → keys_of (after_leaving (leaving from to) s j) ≡ keys_left from to keys j
  left-keys None j = ap (λ (u : Queues). keys_of (u j)) (any-out s t from) ∙ rest j
  left-keys (Some to) j =
      let u : Queues = with_queue from (drop 1 (s from)) s in
      let one : List Entry = map (λ (e : Entry). entry e.item to.1) (take 1 (s from)) in
      ap (λ (v : Queues). keys_of (v j)) (any-sent s t from to.0 to.1) ∙ (grind (arith, nat_tests))
      ∙ ap (λ l. cond (eqb j to.0) l (keys_of (u j))) (keys-append (u to.0) one ∙ ap (λ l. l ++ keys_of one) (rest to.0) ∙ ap (λ l. keys_left from None keys to.0 ++ l) (keys-take to.1 (s from)))
      ∙ ap (λ l. cond (eqb j to.0) (keys_left from None keys to.0 ++ take 1 (keys from)) l) (rest j)

pub without-drop : (k : ℕ) (l : List ℕ) → has_key k l ≡ false → keys_without k (drop 1 l) ≡ drop 1 l
without-drop k [] h = refl
without-drop k (v ∷ l) h = grind (arith, nat_tests, without-none k l)

pub without-cond : (k : ℕ) (g : Bool) (a b : List ℕ) {a2 b2 : List ℕ} → keys_without k a ≡ a2 → keys_without k b ≡ b2 → keys_without k (cond g a b) ≡ cond g a2 b2
without-cond k true a b ea eb = ea
without-cond k false a b ea eb = eb

pub first-of : (l : List Entry) → 1 ≤ length l → (e : Entry) × ((r : List Entry) × (l ≡ e ∷ r))
first-of [] n = absurd (omega (arith, n))
first-of (e ∷ r) n = (e, (r, refl))

pub apart-first : (k v : ℕ) (l : List ℕ) → has_key k (v ∷ l) ≡ false → eqb k v ≡ false
apart-first k v l h = grind (arith, nat_tests)

pub without-push : (k v : ℕ) (l : List ℕ) → eqb k v ≡ false → keys_without k (l ++ v ∷ []) ≡ keys_without k l ++ v ∷ []
without-push k v [] h = rw h refl
without-push k v (a ∷ l) h = grind (arith, nat_tests, without-push k v l)

-- ---- the keys of the ghost, less the accessed one

without-shorter : (k : ℕ) (l : List ℕ) → has_key k l ≡ true → length (keys_without k l) < length l
without-shorter k [] h = absurd (cc (h))
without-shorter k (a ∷ l) h = grind (arith, nat_tests, without-shorter k l, without-length k l)

remembered : (k size v : ℕ) (g : List ℕ) (r : Bool) → has_key k g ≡ r → eqb k v ≡ false → length g ≤ size
    → keys_without k (cond (r || nat_lt (length g) size) (g ++ v ∷ []) (drop 1 (g ++ v ∷ []))) ≡ ghost_with size v (keys_without k g)
remembered k size v g true h other few = search (arith, without-shorter k g h, lt-ltb, without-push k v g other)
remembered k size v g false h other few =
    grind (arith, nat_tests, has-append, without-none, without-cond, without-drop)

ghost-entries-keys : (f : Bool) (g : List Entry) → keys_of (ghost_entries f g) ≡ cond f (keys_of g) (drop 1 (keys_of g))
ghost-entries-keys v g = grind (arith, nat_tests)

pub ghost-keys : (k size : ℕ) (e : Entry) (g : List Entry) (r : Bool) → has_key k (keys_of g) ≡ r → eqb k e.item.key ≡ false → length (keys_of g) ≤ size
    → keys_without k (keys_of (ghost_entries (r || nat_lt (length g) size) (g ++ entry e.item 0 ∷ []))) ≡ ghost_with size e.item.key (keys_without k (keys_of g))
ghost-keys k size e g r h other few = grind (arith, nat_tests, ghost-entries-keys, keys-append, length-keys, remembered)
