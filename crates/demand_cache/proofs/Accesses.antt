-- Accesses in a loop over a list of keys.
use Rattle.std.proofs.Common.{◌≡◌, ℕ, suc, ◌+◌, ◌++◌, ◌<◌, ◌≤◌, Some, None, List, [], ◌∷◌, map, take, drop, get_or, length, ap, sym, ◌∙◌, arith, append_assoc, drop-cons, length-drop, length-take, take-add, take-append-drop}
use Rattle.std.specs.Prelude.{slice_index}
use Rattle.std.proofs.lemmas.List.{take_more, take_all, get_or-map, length-map}
use Rattle.engine_base.specs.declared.limits.TheConstants.{MAX_STEPS}
use Rattle.engine_base.proofs.Limited.{accepted, refused}
use Rattle.engine_base.specs.Machine.{state_after_all}
use Rattle.policy_pages.specs.Residents.{Outcome}
use Rattle.engine_base.proofs.Machine.{state-append}
use Rattle.demand_cache.specs.DemandCache.{DemandState, demand_access, demand_act, demand_count, demand_may_ask, DemandStops}

-- the key of the name at a place
pub named-at : {K : Type 0} (key : K → ℕ) (names : List K) (keys : List ℕ) (i : ℕ) (x : K) → keys ≡ map key names → i < length names
    → x ≡ get_or names i x → key x ≡ slice_index keys i
named-at key names keys i x is below at = ap key at ∙ sym (ap (λ l. slice_index l i) is ∙ get_or-map key names i x 0 below)

pub named-length : {K : Type 0} (key : K → ℕ) (names : List K) (keys : List ℕ) → keys ≡ map key names → length keys ≡ length names
named-length key names keys is = ap length is ∙ length-map names key

-- the cache d is the one from the start after the first i of the keys
pub record HasMade (keys : List ℕ) (i : ℕ) (start d : DemandState) : Type 0 where
  pub policy : d.queues.policy ≡ start.queues.policy
  pub state : d ≡ state_after_all demand_access start (take i keys)
  pub counts : demand_count d ≡ demand_count start + i

pub has-made-next : (keys : List ℕ) (i : ℕ) (start d e : DemandState) (o : Outcome) → i < length keys → HasMade keys i start d → e.queues.policy ≡ d.queues.policy
    → demand_act d (slice_index keys i) ≡ Some (o, e) → HasMade keys (i + 1) start e
has-made-next keys i start d e o below made same h =
    let next : e ≡ (demand_access (slice_index keys i) d).1 = (accepted demand_count demand_access d (slice_index keys i) o e h).next in
    record {
      policy = same ∙ made.policy;
      state = next ∙ ap (λ s. (demand_access (slice_index keys i) s).1) made.state
          ∙ sym (state-append demand_access start (take i keys) (slice_index keys i ∷ []))
          ∙ ap (state_after_all demand_access start) (sym (take_more keys i 0 below));
      counts = let count = ap demand_count next in omega (arith, count, made.counts);
    }

pub is-accepted : (keys : List ℕ) (i : ℕ) (start d : DemandState) (k : ℕ) → i < length keys → HasMade keys i start d → demand_count start + length keys ≤ MAX_STEPS → demand_act d k ≡ None → ⊥
is-accepted keys i start d k below made room h = let full = refused demand_count demand_access d k h in omega (arith, full, made.counts)

pub has-made-all : (keys : List ℕ) (i : ℕ) (start d : DemandState) → length keys ≤ i → HasMade keys i start d → d ≡ state_after_all demand_access start keys
has-made-all keys i start d all made = made.state ∙ ap (state_after_all demand_access start) (take_all i keys all)

pub stops-next : (keys : List ℕ) (i : ℕ) (start d : DemandState) → i < length keys → HasMade keys i start d → demand_may_ask d (slice_index keys i)
    → DemandStops keys start d
stops-next keys i start d below made asks = record {
  made = take i keys;
  next = slice_index keys i;
  later = drop (suc i) keys;
  split = sym (take-append-drop i keys) ∙ ap (λ l. take i keys ++ l) (drop-cons keys i 0 below);
  stands = made.state;
  asks = asks;
}

-- ---- pieces of the keys, one after the other

pub counts-all : (keys : List ℕ) (d : DemandState) → demand_count (state_after_all demand_access d keys) ≡ demand_count d + length keys
counts-all [] d = omega arith
counts-all (k ∷ keys) d = let rest = counts-all keys (demand_access k d).1 in omega (arith, rest)

-- the cache d made the first m of the keys, and the piece has the next ones
module _ (keys piece : List ℕ) (m size : ℕ) (start d : DemandState) (was : d ≡ state_after_all demand_access start (take m keys)) (is : piece ≡ take size (drop m keys)) where
  pub room-for-piece : demand_count start + length keys ≤ MAX_STEPS → m ≤ length keys → m + size ≤ length keys → demand_count d + length piece ≤ MAX_STEPS
  room-for-piece room within fits =
      let count = ap demand_count was ∙ counts-all (take m keys) start in
      let long = ap (λ (l : List ℕ). length l) is in
      omega (arith, count, long, length-take m keys, length-take size (drop m keys), length-drop m keys, room, within, fits)

  pub piece-made : (e : DemandState) → e ≡ state_after_all demand_access d piece → e ≡ state_after_all demand_access start (take (m + size) keys)
  piece-made e made =
      made ∙ ap (λ (s : DemandState). state_after_all demand_access s piece) was
      ∙ sym (state-append demand_access start (take m keys) piece)
      ∙ ap (state_after_all demand_access start) (ap (λ (l : List ℕ). take m keys ++ l) is ∙ sym (take-add m size keys))

  -- what stops in the piece stops in the keys
  pub stopped-later : (e : DemandState) → DemandStops piece d e → DemandStops keys start e
  stopped-later e s =
      let rest = drop size (drop m keys) in
      record {
        made = take m keys ++ s.made;
        next = s.next;
        later = s.later ++ rest;
        split = sym (take-append-drop m keys)
            ∙ ap (λ l. take m keys ++ l) (sym (take-append-drop size (drop m keys)) ∙ ap (λ l. l ++ rest) (sym is ∙ s.split))
            ∙ ap (λ l. take m keys ++ l) (append_assoc s.made (s.next ∷ s.later) rest)
            ∙ sym (append_assoc (take m keys) s.made (s.next ∷ (s.later ++ rest)));
        stands = s.stands ∙ ap (λ (x : DemandState). state_after_all demand_access x s.made) was ∙ sym (state-append demand_access start (take m keys) s.made);
        asks = s.asks;
      }
