-- The table of moves without counting, in one queue: an access is one to the last distinct keys.
use Rattle.std.proofs.Common.{◌≡◌, ℕ, suc, zero, ◌-◌, ◌≤◌, true, false, nat_lt, Some, None, List, [], ◌∷◌, ◌++◌, length, map, drop, ap, ◌∙◌, sym, refl, arith, subst, inl, inr, append-nil}
use Rattle.std.proofs.lemmas.List.{append_assoc, length-map, map-append}
use Rattle.std.proofs.lemmas.Bool.{eq-eqb}
use Rattle.std.proofs.lemmas.Bool.Decides.{nat_tests}
use Rattle.engine_base.specs.Machine.{state_after_all}
use Rattle.engine_base.specs.Keys.{has_key, keys_without as without_key}
use Rattle.segments.specs.declared.records.Queue.TheVariants.{Window}
use Rattle.segments.specs.Items.{has_item, items_without, oldest_of, nodeless_item}
use Rattle.segments.specs.Queues.{queue_holding, queues_after_push}
use Rattle.replacement.specs.declared.rules.Placement.TheVariants.{Direct}
use Rattle.replacement.specs.declared.rules.Rules.{Rules}
use Rattle.replacement.specs.Admission.{admits_in}
use Rattle.replacement.specs.Table.{Response, kept_in, hit_response, hit_in, response_with_victim, response_without_trial, access}
use Rattle.replacement.proofs.Planned.{access-at}
use Rattle.queue_cache.specs.Lru.{lru, lru_residents, lru_outcome}
use Rattle.queue_cache.specs.QueueCache.{QueueSetup, QueueState, recorded_in, access_response, queue_access, empty_queue_state, state_after, outcome_after}
use Rattle.queue_cache.specs.SingleQueue.{single_queue}
use Rattle.queue_cache.specs.Theorems.{LruStepLaw}
use Rattle.queue_cache.proofs.Recency.{IsDistinct, moved, answer, two, without-none, distinct-distinct, residents-snoc, outcome-residents}

pub has-map : (k : ℕ) (l : List ℕ) → has_item (nodeless_item k) (map nodeless_item l) ≡ has_key k l
has-map k [] = refl
has-map k (a ∷ l) = grind (arith, nat_tests, has-map k l)

pub without-map : (k : ℕ) (l : List ℕ) → items_without (nodeless_item k) (map nodeless_item l) ≡ map nodeless_item (without_key k l)
without-map k [] = refl
without-map k (a ∷ l) = grind (arith, nat_tests, without-map k l)

abbrev one : ℕ → Rules
one c = record { capacity = c; window = 0; protected = 0; placement = Direct Window }

record IsAccess (c k : ℕ) (l : List ℕ) (r : Response) : Type 0 where
  lists : r.queues ≡ single_queue (moved c l k)
  outcome : r.outcome ≡ answer c l k

module _ (c k : ℕ) where
  one-hit : (l : List ℕ) → has_key k l ≡ true → IsAccess c k l (hit_response (hit_in 0 (nodeless_item k) (Some Window) (single_queue l)))
  one-hit l e = record { lists = rw (e, without-map k l, map-append nodeless_item (without_key k l) (k ∷ [])) refl; outcome = rw e refl }

  one-room : (l : List ℕ) → has_key k l ≡ false → nat_lt (length l) c ≡ true → IsAccess c k l (kept_in (queues_after_push Window (nodeless_item k) (single_queue l)))
  one-room l e f = record { lists = rw (e, f, map-append nodeless_item l (k ∷ [])) refl; outcome = rw (e, f) refl }

  one-full : (l : List ℕ) → has_key k l ≡ false → nat_lt (length l) c ≡ false → IsDistinct l → 1 ≤ c
      → IsAccess c k l (response_with_victim (admits_in None) Window (nodeless_item k) (oldest_of (map nodeless_item l)) (single_queue l))
  one-full v e f d w = grind (arith, nat_tests, eq-eqb, without-map, without-none, map-append)

  one-direct : (l : List ℕ) → has_key k l ≡ false → IsDistinct l → 1 ≤ c → IsAccess c k l (response_without_trial (one c) (admits_in None) Window (nodeless_item k) (single_queue l))
  one-direct l e d w = grind (arith, nat_tests, length-map, one-room, one-full)

  one-access : (l : List ℕ) → IsDistinct l → 1 ≤ c → IsAccess c k l (access (one c) (admits_in None) (nodeless_item k) (single_queue l))
  one-access l d w =
      elim (two (has_key k l)) [
        | inl e ↦
            let there : queue_holding (nodeless_item k) (single_queue l) ≡ Some Window = rw (has-map k l, e) refl in
            subst (IsAccess c k l) (sym (access-at (one c) (admits_in None) (nodeless_item k) (single_queue l) (Some Window) there)) (one-hit l e)
        | inr e ↦
            let there : queue_holding (nodeless_item k) (single_queue l) ≡ None = rw (has-map k l, e) refl in
            subst (IsAccess c k l) (sym (access-at (one c) (admits_in None) (nodeless_item k) (single_queue l) None there)) (one-direct l e d w)
      ]

distinct-drop : (n : ℕ) (l : List ℕ) → IsDistinct l → IsDistinct (drop n l)
distinct-drop zero l d = d
distinct-drop (suc n) [] d = tt
distinct-drop (suc n) (a ∷ l) d = distinct-drop n l d.1

residents-none : (c : ℕ) → lru_residents c [] ≡ []
residents-none c = let z : 0 - c ≡ 0 = omega arith in rw z refl

residents-one : (c k : ℕ) (xs : List ℕ) → 1 ≤ c → lru_residents c (xs ++ k ∷ []) ≡ moved c (lru_residents c xs) k
residents-one zero k xs h = absurd (omega arith)
residents-one (suc c) k xs h = residents-snoc c k xs

-- a cache of Lru, whose one queue has the last distinct keys
pub record IsLruAfter (s : QueueSetup) (keys : List ℕ) (d : QueueState) : Type 0 where
  setup : d.setup ≡ s
  frequency : d.frequency ≡ None
  pub queues : d.queues ≡ single_queue (lru_residents s.config.capacity keys)

module _ (s : QueueSetup) (is_lru : s.design ≡ lru) (room : 1 ≤ s.config.capacity) where
  response-lru : (past : List ℕ) (d : QueueState) (k : ℕ) → IsLruAfter s past d → IsAccess s.config.capacity k (lru_residents s.config.capacity past) (access_response k d)
  response-lru past d k h = grind (arith, nat_tests, one-access, distinct-drop, distinct-distinct)

  step-lru : (past : List ℕ) (d : QueueState) (k : ℕ) → IsLruAfter s past d → IsLruAfter s (past ++ k ∷ []) (queue_access k d).1
  step-lru past d k h = record {
    setup = h.setup;
    frequency = ap (recorded_in k) h.frequency;
    queues = (response-lru past d k h).lists ∙ ap single_queue (sym (residents-one s.config.capacity k past room));
  }

  from-lru : (past : List ℕ) (d : QueueState) (keys : List ℕ) → IsLruAfter s past d → IsLruAfter s (past ++ keys) (state_after_all queue_access d keys)
  from-lru past d [] h = subst (λ l. IsLruAfter s l d) (sym (append-nil past)) h
  from-lru past d (k ∷ keys) h =
      subst (λ l. IsLruAfter s l (state_after_all queue_access d (k ∷ keys))) (append_assoc past (k ∷ []) keys)
      (from-lru (past ++ k ∷ []) (queue_access k d).1 keys (step-lru past d k h))

  pub after-lru : (keys : List ℕ) → IsLruAfter s keys (state_after s keys)
  after-lru keys = from-lru [] (empty_queue_state s) keys record {
    setup = refl;
    frequency = rw is_lru refl;
    queues = ap single_queue (sym (residents-none s.config.capacity));
  }

  pub outcome-lru : (keys : List ℕ) (k : ℕ) → outcome_after s keys k ≡ lru_outcome s.config.capacity keys k
  outcome-lru keys k = (response-lru keys (state_after s keys) k (after-lru keys)).outcome ∙ sym (outcome-residents s.config.capacity k keys)

pub lru-steps : LruStepLaw
lru-steps s keys k is room = ((after-lru s is room keys).queues, outcome-lru s is room keys k)
