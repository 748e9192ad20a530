-- What the record of an access says of it, and how it leads back.
use Rattle.std.proofs.lemmas.Bool.Decides.{nat_tests}
use Rattle.std.proofs.Common.{arith, ◌≡◌, ℕ, suc, ◌<◌, ◌≤◌, true, false, eqb, List, length, get_or, ap, sym, subst, refl, ◌-◌, ◌*◌, Bool, ◌∷◌, ◌∙◌}
use Rattle.std.proofs.lemmas.Bool.{lt-ltb, le-ltb, eq-eqb, ne_eqb, cases_eq, and_parts, eqb-true}
use Rattle.engine_base.specs.Keys.{has_key, keys_without}
use Rattle.clairvoyant.specs.declared.optimal_record.EvictedKey.{EvictedKey}
use Rattle.clairvoyant.specs.declared.optimal_record.OptimalRecord.TheVariants.{Hit, Kept, Evicted, Rejected}
use Rattle.clairvoyant.specs.Keys.{IsAscendingKeys}
use Rattle.clairvoyant.specs.Ranks.{rank, key_at}
use Rattle.clairvoyant.specs.Belady.{Outcome, farthest, belady_residents, belady_outcome}
use Rattle.clairvoyant.specs.OptimalRecord.{OptimalRecord, record_at, outcome_of, undone_keys}
use Rattle.clairvoyant.proofs.Keys.{without-put, without-swap, put-without}
use Rattle.clairvoyant.proofs.Belady.{Accesses, hit, kept, rejected, evicted, accesses, residents-ascending, residents-seen, farthest-is}
use Rattle.clairvoyant.proofs.Ranked.{IsMore, with-more, without-more, swap-more, IsEdited, more-there, tied-put, tied-taken, tied-on, tied-back, IsSeen, seen-own, seen-more, IsNamed, named, rank-own, rank-other}
use Rattle.clairvoyant.specs.Bits.{is_in_set}
use Rattle.clairvoyant.specs.RankSet.{IsTied}

-- the access at a place of the trace, by its record
abbrev pub Stands : ℕ → List ℕ → ℕ → OptimalRecord → Type 0
Stands c t i d = Accesses c t i (get_or t i 0) (belady_residents c t i) d (belady_outcome c t i) (belady_residents c t (suc i))

module _ (c : ℕ) (t : List ℕ) (i : ℕ) where
  pub stands : (d : OptimalRecord) → d ≡ record_at c t i → Stands c t i d
  stands d e = subst (λ x. Stands c t i x) (sym e) (accesses c t i (get_or t i 0) (belady_residents c t i))

  pub record-hit : has_key (get_or t i 0) (belady_residents c t i) ≡ true → Hit ≡ record_at c t i
  record-hit h = rw h refl

  module _ (h : has_key (get_or t i 0) (belady_residents c t i) ≡ false) where
    pub record-kept : length (belady_residents c t i) < c → Kept ≡ record_at c t i
    record-kept l = rw (h, lt-ltb (length (belady_residents c t i)) c l) refl

    module _ (full : c ≤ length (belady_residents c t i)) where
      pub record-rejected : farthest t i (get_or t i 0) (belady_residents c t i) ≡ get_or t i 0 → Rejected (get_or t i 0) ≡ record_at c t i
      record-rejected e = rw (h, le-ltb (length (belady_residents c t i)) c full, e, eq-eqb (get_or t i 0) (get_or t i 0) refl) refl

      pub record-evicted : (v n : ℕ) → farthest t i (get_or t i 0) (belady_residents c t i) ≡ v → has_key v (belady_residents c t i) ≡ true
          → rank t (suc i) v ≡ n → Evicted record { key = v; rank = n } ≡ record_at c t i
      record-evicted v n e there r = grind (arith, nat_tests, ne_eqb, le-ltb (length (belady_residents c t i)) c full)

-- ---- by the ways of an access

module _ {c : ℕ} {t : List ℕ} {i k : ℕ} {r : List ℕ} where
  keys-by : {d : OptimalRecord} {o : Outcome} {l : List ℕ} → Accesses c t i k r d o l → IsAscendingKeys r → undone_keys d k l ≡ r
  keys-by v s = grind (arith, nat_tests, without-put, without-swap, put-without)

  pub hit-mores : {o : Outcome} {l : List ℕ} → Accesses c t i k r Hit o l → IsMore (keys_without k r) k r × IsMore (keys_without k r) k l
  hit-mores (hit e) = (without-more k r e, without-more k r e)

  pub kept-more : {o : Outcome} {l : List ℕ} → Accesses c t i k r Kept o l → IsMore r k l
  kept-more (kept e f) = with-more k r e

  pub rejected-same : {j : ℕ} {o : Outcome} {l : List ℕ} → Accesses c t i k r (Rejected j) o l → (has_key k r ≡ false) × (l ≡ r)
  rejected-same (rejected e) = (e, refl)

  pub evicted-mores : {g : EvictedKey} {o : Outcome} {l : List ℕ} → Accesses c t i k r (Evicted g) o l
      → IsMore (keys_without g.key r) g.key r × IsMore (keys_without g.key r) k l × (g.rank ≡ rank t (suc i) g.key) × (eqb g.key k ≡ false)
  evicted-mores (evicted v e g) = (without-more v r g, swap-more k v r e g, refl, ne_eqb v k (λ s. absurd (cc (e, g, ap (λ x. has_key x r) s))))

-- its outcome is the definition's
pub outcome-is : (c : ℕ) (t : List ℕ) (i : ℕ) → outcome_of (record_at c t i) ≡ belady_outcome c t i
outcome-is c t i = (grind (arith, nat_tests))

-- the residents before it, from those after it
pub keys-back : (c : ℕ) (t : List ℕ) (i : ℕ) → undone_keys (record_at c t i) (get_or t i 0) (belady_residents c t (suc i)) ≡ belady_residents c t i
keys-back c t i = keys-by (accesses c t i (get_or t i 0) (belady_residents c t i)) (residents-ascending c t i)

-- ---- what serving an access changes of the ranks that are held, and undoing it changes back

module _ (c : ℕ) (t : List ℕ) (i : ℕ) (lt : i < length t) where
  abbrev key : ℕ
  key = get_or t i 0

  abbrev before : List ℕ
  before = belady_residents c t i

  abbrev after : List ℕ
  after = belady_residents c t (suc i)

  named-new : key_at t (rank t (suc i) key) ≡ key
  named-new = (named t (suc i) key (omega arith) (seen-own t i)).key

  named-before : (v : ℕ) → has_key v before ≡ true → IsNamed t i v
  named-before v there = named t i v (omega arith) (residents-seen c t i v there)

  -- ---- a key leaves and the accessed one comes

  module _ (m : List ℕ) (v : ℕ) (old : IsMore m v before) (new : IsMore m key after) (h h1 h2 : List Bool) where
    named-old : key_at t (rank t i v) ≡ v
    named-old = (named-before v (more-there m v before old)).key

    swapped : (out own : ℕ) → out ≡ rank t i v → own ≡ rank t (suc i) key → IsEdited h out false h1 → IsEdited h1 own true h2
        → IsTied t i before h → IsTied t (suc i) after h2
    swapped out own o w taken put tied =
        tied-put t (suc i) key named-new m after new h1 h2 own w put (tied-on t i lt m new.new h1 (tied-taken t i v named-old m before old h h1 out o taken tied))

    swapped-back : (out own : ℕ) → out ≡ rank t i v → own ≡ rank t (suc i) key → IsEdited h own false h1 → IsEdited h1 out true h2
        → IsTied t (suc i) after h → IsTied t i before h2
    swapped-back out own o w taken put tied =
        tied-put t i v named-old m before old h1 h2 out o put (tied-back t i lt m new.new h1 (tied-taken t (suc i) key named-new m after new h h1 own w taken tied))

  module _ (h : List Bool) (own : ℕ) (w : own ≡ rank t (suc i) key) where
    pub hit-tied : Stands c t i Hit → (h1 h2 : List Bool) (out : ℕ) → out ≡ 2 * length t - 1 - i → IsEdited h out false h1 → IsEdited h1 own true h2
        → IsTied t i before h → IsTied t (suc i) after h2
    hit-tied s h1 h2 out o = let mores = hit-mores s in swapped _ key mores.0 mores.1 h h1 h2 out own (o ∙ sym (rank-own t i lt)) w

    pub hit-back : Stands c t i Hit → (h1 h2 : List Bool) (out : ℕ) → out ≡ 2 * length t - 1 - i → IsEdited h own false h1 → IsEdited h1 out true h2
        → IsTied t (suc i) after h → IsTied t i before h2
    hit-back s h1 h2 out o = let mores = hit-mores s in swapped-back _ key mores.0 mores.1 h h1 h2 out own (o ∙ sym (rank-own t i lt)) w

    pub kept-tied : Stands c t i Kept → (h1 : List Bool) → IsEdited h own true h1 → IsTied t i before h → IsTied t (suc i) after h1
    kept-tied s h1 put tied = let more = kept-more s in tied-put t (suc i) key named-new before after more h h1 own w put (tied-on t i lt before more.new h tied)

    pub kept-back : Stands c t i Kept → (h1 : List Bool) → IsEdited h own false h1 → IsTied t (suc i) after h → IsTied t i before h1
    kept-back s h1 taken tied = let more = kept-more s in tied-back t i lt before more.new h1 (tied-taken t (suc i) key named-new before after more h h1 own w taken tied)

    pub rejected-tied : (j : ℕ) → Stands c t i (Rejected j) → IsTied t i before h → IsTied t (suc i) after h
    rejected-tied j s tied = let same = rejected-same s in subst (λ l. IsTied t (suc i) l h) (sym same.1) (tied-on t i lt before same.0 h tied)

    pub rejected-back : (j : ℕ) → Stands c t i (Rejected j) → IsTied t (suc i) after h → IsTied t i before h
    rejected-back j s tied = let same = rejected-same s in tied-back t i lt before same.0 h (subst (λ l. IsTied t (suc i) l h) same.1 tied)

    module _ (g : EvictedKey) (s : Stands c t i (Evicted g)) where
      left : g.rank ≡ rank t i g.key
      left = (evicted-mores s).2 ∙ rank-other t i g.key lt (evicted-mores s).3

      pub evicted-tied : (h1 h2 : List Bool) → IsEdited h g.rank false h1 → IsEdited h1 own true h2 → IsTied t i before h → IsTied t (suc i) after h2
      evicted-tied h1 h2 = swapped _ g.key (evicted-mores s).0 (evicted-mores s).1 h h1 h2 g.rank own left w

      pub evicted-back : (h1 h2 : List Bool) → IsEdited h own false h1 → IsEdited h1 g.rank true h2 → IsTied t (suc i) after h → IsTied t i before h2
      evicted-back h1 h2 = swapped-back _ g.key (evicted-mores s).0 (evicted-mores s).1 h h1 h2 g.rank own left w

      pub evicted-within : g.rank < 2 * length t
      evicted-within = rw left (named-before g.key (more-there _ g.key before (evicted-mores s).0)).within

  -- ---- what the ranks that are held say

  module _ (h : List Bool) (tied : IsTied t i before h) where
    -- the key is a resident where the rank that it has now is held
    pub tested : (b : Bool) (own : ℕ) → own ≡ 2 * length t - 1 - i → b ≡ is_in_set h own → has_key key before ≡ b
    tested b own e f = grind (arith, nat_tests, rank-own)

    module _ (none : has_key key before ≡ false) (new : ℕ) (is : new ≡ rank t (suc i) key) where
      -- none of the residents and the key ranks below m where nothing below m is held
      above : (m : ℕ) → m ≤ new → ((q : ℕ) → q < m → is_in_set h q ≡ false) → (a : ℕ) → has_key a (key ∷ before) ≡ true → m ≤ rank t (suc i) a
      above m le empty a g =
          let old : eqb a key ≡ false → has_key a before ≡ true = λ f. rw f at g in
          let n : eqb a key ≡ false → IsNamed t i a = λ f. named-before a (old f) in
          let held : eqb a key ≡ false → is_in_set h (rank t i a) ≡ has_key a before =
          λ f. (grind (arith, nat_tests, tied.ranks (rank t i a) (n f).within, (n f).key, refl)) in
          grind (arith, nat_tests, cases_eq a key, is, le, old, held, empty (rank t i a), rank-other t i a lt)

      soon-seen : (a : ℕ) → has_key a (key ∷ before) ≡ true → IsSeen t (suc i) a
      soon-seen a g = grind (arith, nat_tests, cases_eq a key, seen-own t i, seen-more, residents-seen, ne_eqb)

      -- the key itself leaves, or the one that the least rank is of
      pub none-out : ((q : ℕ) → q < new → is_in_set h q ≡ false) → farthest t i key before ≡ key
      none-out empty =
          farthest-is t i key before key lt soon-seen (rw (eq-eqb key key refl) refl)
          (λ a g. let low = above new (omega arith) empty a g in omega (arith, low, is))

      pub least-out : (m : ℕ) → m < new → is_in_set h m ≡ true → m < 2 * length t → ((q : ℕ) → q < m → is_in_set h q ≡ false)
          → (farthest t i key before ≡ key_at t m) × (has_key (key_at t m) before ≡ true) × (rank t (suc i) (key_at t m) ≡ m)
      least-out m less held within empty =
          let parts = and_parts (has_key (key_at t m) before) (eqb (rank t i (key_at t m)) m) (sym (tied.ranks m within) ∙ held) in
          let other : eqb (key_at t m) key ≡ false = ne_eqb (key_at t m) key (λ e. absurd (cc (parts.0, none, ap (λ x. has_key x before) e))) in
          let ranked : rank t (suc i) (key_at t m) ≡ m = rank-other t i (key_at t m) lt other ∙ eqb-true (rank t i (key_at t m)) m parts.1 in
          let out = farthest-is t i key before (key_at t m) lt soon-seen (rw (other, parts.0) refl)
          (λ a g. let low = above m (omega (arith, less)) empty a g in omega (arith, low, ranked)) in
          (out, parts.0, ranked)
