-- Queues by name whose keys are renamed: what the table of moves makes of them, where each candidate is admitted, is what it
-- makes of the queues, renamed.
use Rattle.std.proofs.Common.{◌≡◌, ℕ, Bool, true, false, cond, nat_lt, Option, Some, None, option_map, List, [], ◌∷◌, map, length, ap, ◌∙◌, refl, arith}
use Rattle.std.proofs.lemmas.Bool.Decides.{nat_tests}
use Rattle.std.proofs.lemmas.List.{length-map, map-append}
use Rattle.engine_base.specs.declared.item.Item.{Item}
use Rattle.segments.specs.Items.{nodeless_item, is_same_item, occurrences, items_without, oldest_of}
use Rattle.engine_base.specs.declared.outcome.Outcome.TheVariants.{Evicted}
use Rattle.segments.specs.declared.records.Queue.{Queue}
use Rattle.segments.specs.declared.records.Queue.TheVariants.{Window, Probation, Protected}
use Rattle.segments.specs.Queues.{Queues, queue_of, queue_holding, queues_after_push, queues_without, queues_after_move, total_items}
use Rattle.replacement.specs.Admission.{admits_in}
use Rattle.replacement.specs.Table.{Response, with_recent, queues_after_demotion, hit_in, rejection, contest, trial, trial_of, eviction}
use Rattle.replacement.specs.Table.{response_with_victim, miss_by, access_in, access}
use Rattle.replacement.specs.declared.rules.Placement.{Placement}
use Rattle.replacement.specs.declared.rules.Rules.{Rules}
use Rattle.replacement.specs.declared.rules.Placement.TheVariants.{Direct, Windowed}
use Rattle.demand_cache.specs.Names.{renamed_outcome}
use Rattle.demand_cache.proofs.RenamedMachines.{IsInjective}
use Rattle.demand_cache.proofs.RenamedQueues.{renamed_item, same-item}

abbrev pub renamed_segments : (ℕ → ℕ) → Queues → Queues
renamed_segments f s =
    record { window = map (renamed_item f) s.window; probation = map (renamed_item f) s.probation; protected = map (renamed_item f) s.protected }

abbrev pub renamed_response : (ℕ → ℕ) → Response → Response
renamed_response f r = record { outcome = renamed_outcome f r.outcome; left = option_map (renamed_item f) r.left; queues = renamed_segments f r.queues }

-- a choice between two values that a function gives
cond-of : {A B : Type 0} (g : A → B) (b : Bool) (x y : A) → cond b (g x) (g y) ≡ g (cond b x y)
cond-of g true x y = refl
cond-of g false x y = refl

abbrev admits : ℕ → ℕ → Bool
admits = admits_in None

module _ (f : ℕ → ℕ) (i : IsInjective f) where
  oldest-renamed : (l : List Item) → oldest_of (map (renamed_item f) l) ≡ option_map (renamed_item f) (oldest_of l)
  oldest-renamed [] = refl
  oldest-renamed (a ∷ l) = refl

  occurrences-renamed : (a : Item) (l : List Item) → occurrences (renamed_item f a) (map (renamed_item f) l) ≡ occurrences a l
  occurrences-renamed a [] = refl
  occurrences-renamed a (b ∷ l) = rw (same-item f i a b, occurrences-renamed a l) refl

  items-without-renamed : (a : Item) (l : List Item) → items_without (renamed_item f a) (map (renamed_item f) l) ≡ map (renamed_item f) (items_without a l)
  items-without-renamed a [] = refl
  items-without-renamed a (b ∷ l) = rw (same-item f i a b, items-without-renamed a l) (cond-of (map (renamed_item f)) (is_same_item a b) (items_without a l) (b ∷ items_without a l))

  -- ---- moves

  holding-renamed : (a : Item) (s : Queues) → queue_holding (renamed_item f a) (renamed_segments f s) ≡ queue_holding a s
  holding-renamed a s = rw (occurrences-renamed a s.window, occurrences-renamed a s.probation, occurrences-renamed a s.protected) refl

  push-renamed : (q : Queue) (a : Item) (s : Queues) → queues_after_push q (renamed_item f a) (renamed_segments f s) ≡ renamed_segments f (queues_after_push q a s)
  push-renamed Window a s = rw (map-append (renamed_item f) s.window (a ∷ [])) refl
  push-renamed Probation a s = rw (map-append (renamed_item f) s.probation (a ∷ [])) refl
  push-renamed Protected a s = rw (map-append (renamed_item f) s.protected (a ∷ [])) refl

  without-renamed : (a : Item) (s : Queues) → queues_without (renamed_item f a) (renamed_segments f s) ≡ renamed_segments f (queues_without a s)
  without-renamed a s = rw (items-without-renamed a s.window, items-without-renamed a s.probation, items-without-renamed a s.protected) refl

  move-renamed : (a : Item) (q : Queue) (s : Queues) → queues_after_move (renamed_item f a) q (renamed_segments f s) ≡ renamed_segments f (queues_after_move a q s)
  move-renamed a q s = ap (queues_after_push q (renamed_item f a)) (without-renamed a s) ∙ push-renamed q a (queues_without a s)

  recent-renamed : (o : Option Item) (q : Queue) (s : Queues) → with_recent (option_map (renamed_item f) o) q (renamed_segments f s) ≡ renamed_segments f (with_recent o q s)
  recent-renamed None q s = refl
  recent-renamed (Some a) q s = move-renamed a q s

  -- ---- a hit

  demotion-renamed : (size : ℕ) (s : Queues) → queues_after_demotion size (renamed_segments f s) ≡ renamed_segments f (queues_after_demotion size s)
  demotion-renamed size s =
      rw (length-map s.protected (renamed_item f), oldest-renamed s.protected, recent-renamed (oldest_of s.protected) Probation s)
      (cond-of (renamed_segments f) (nat_lt size (length s.protected)) (with_recent (oldest_of s.protected) Probation s) s)

  hit-renamed : (size : ℕ) (a : Item) (q : Queue) (s : Queues) → hit_in size (renamed_item f a) (Some q) (renamed_segments f s) ≡ renamed_segments f (hit_in size a (Some q) s)
  hit-renamed size a Window s = move-renamed a Window s
  hit-renamed size a Probation s = ap (queues_after_demotion size) (move-renamed a Protected s) ∙ demotion-renamed size (queues_after_move a Protected s)
  hit-renamed size a Protected s = move-renamed a Protected s

  -- ---- a miss

  total-renamed : (s : Queues) → total_items (renamed_segments f s) ≡ total_items s
  total-renamed s = simp length-map

  contest-renamed : (c : Item) (o : Option Item) (s : Queues) → contest admits (renamed_item f c) (option_map (renamed_item f) o) (renamed_segments f s) ≡ renamed_response f (contest admits c o s)
  contest-renamed c None s = rw (without-renamed c s) refl
  contest-renamed c (Some v) s =
      let out : Response = record { outcome = Evicted v.key; left = Some v; queues = queues_without v s } in
      rw (same-item f i c v, without-renamed c s, without-renamed v s) (cond-of (renamed_response f) (is_same_item c v) (rejection c s) out)

  trial-renamed : (r : Rules) (c : Item) (s : Queues) → trial r admits (renamed_item f c) (renamed_segments f s) ≡ renamed_response f (trial r admits c s)
  trial-renamed r c s = grind (arith, nat_tests, total-renamed s, oldest-renamed s.probation, contest-renamed c (oldest_of s.probation) s)

  trial-of-renamed : (r : Rules) (o : Option Item) (s : Queues) → trial_of r admits (option_map (renamed_item f) o) (renamed_segments f s) ≡ renamed_response f (trial_of r admits o s)
  trial-of-renamed r None s = refl
  trial-of-renamed r (Some c) s = ap (trial r admits (renamed_item f c)) (move-renamed c Probation s) ∙ trial-renamed r c (queues_after_move c Probation s)

  eviction-renamed : (r : Rules) (s : Queues) → eviction r admits (renamed_segments f s) ≡ renamed_response f (eviction r admits s)
  eviction-renamed r s = grind (arith, nat_tests, length-map s.window (renamed_item f), oldest-renamed s.window, trial-of-renamed r (oldest_of s.window) s)

  victim-renamed : (q : Queue) (a : Item) (o : Option Item) (s : Queues)
      → response_with_victim admits q (renamed_item f a) (option_map (renamed_item f) o) (renamed_segments f s) ≡ renamed_response f (response_with_victim admits q a o s)
  victim-renamed q a None s = refl
  victim-renamed q a (Some v) s = rw (without-renamed v s, push-renamed q a (queues_without v s)) refl

  queue-renamed : (q : Queue) (s : Queues) → queue_of q (renamed_segments f s) ≡ map (renamed_item f) (queue_of q s)
  queue-renamed Window s = refl
  queue-renamed Probation s = refl
  queue-renamed Protected s = refl

  miss-renamed : (p : Placement) (r : Rules) (a : Item) (s : Queues) → miss_by p r admits (renamed_item f a) (renamed_segments f s) ≡ renamed_response f (miss_by p r admits a s)
  miss-renamed (Direct q) r a s =
      grind (arith, nat_tests, total-renamed s, push-renamed q a s, queue-renamed q s, oldest-renamed (queue_of q s), victim-renamed q a (oldest_of (queue_of q s)) s)
  miss-renamed Windowed r a s = ap (eviction r admits) (push-renamed Window a s) ∙ eviction-renamed r (queues_after_push Window a s)

  in-renamed : (r : Rules) (a : Item) (o : Option Queue) (s : Queues) → access_in r admits (renamed_item f a) o (renamed_segments f s) ≡ renamed_response f (access_in r admits a o s)
  in-renamed r a None s = miss-renamed r.placement r a s
  in-renamed r a (Some q) s = rw (hit-renamed r.protected a q s) refl

  pub access-renamed : (r : Rules) (k : ℕ) (s : Queues) → access r admits (nodeless_item (f k)) (renamed_segments f s) ≡ renamed_response f (access r admits (nodeless_item k) s)
  unfolding access
  access-renamed r k s =
      ap (λ (o : Option Queue). access_in r admits (nodeless_item (f k)) o (renamed_segments f s)) (holding-renamed (nodeless_item k) s)
      ∙ in-renamed r (nodeless_item k) (queue_holding (nodeless_item k) s) s
