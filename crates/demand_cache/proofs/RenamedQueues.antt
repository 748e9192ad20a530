-- Queues whose keys are renamed: what a plan makes of them is what it makes of the queues, renamed.
use Rattle.std.proofs.Common.{◌≡◌, ℕ, zero, suc, ◌-◌, Bool, true, false, cond, Option, Some, None, option_map, List, [], ◌∷◌, map, ap, ◌∙◌, refl, arith}
use Rattle.std.proofs.Math.Path.{fun_ext}
use Rattle.std.proofs.lemmas.Bool.Decides.{nat_tests}
use Rattle.std.proofs.lemmas.List.{map-append}
use Rattle.engine_base.specs.declared.outcome.Outcome.TheVariants.{Hit}
use Rattle.queue_table.specs.Entries.{Item, is_same_item, entry, occurrences, entries_without, entries_counted, oldest_of}
use Rattle.queue_table.specs.Queues.{QUEUES, Queues, queue_below, queue_holding, after_push, after_removal, after_send}
use Rattle.engine_base.specs.declared.outcome.Outcome.{Outcome}
use Rattle.queue_table.specs.declared.records.Entry.{Entry}
use Rattle.queue_table.specs.declared.moves.Run.{Run}
use Rattle.queue_table.specs.Moves.{item_of, count_of, standing_at, standing, turned, after_turn, after_turns, after_run, count_or, turns_due}
use Rattle.queue_table.specs.Moves.{Leaving, departed, after_leaving, Own, stays, counts, goes, after_own, Plan, after_runs, after_first, after_second, after_all}
use Rattle.queue_table.specs.Moves.{evicted, outcome_after, outcome_of}
use Rattle.demand_cache.specs.Names.{renamed_outcome}
use Rattle.demand_cache.proofs.RenamedMachines.{IsInjective}

abbrev pub renamed_item : (ℕ → ℕ) → Item → Item
renamed_item f i = record { key = f i.key; node = i.node }

abbrev pub renamed_entry : (ℕ → ℕ) → Entry → Entry
renamed_entry f e = entry (renamed_item f e.item) e.count

abbrev pub renamed_queues : (ℕ → ℕ) → Queues → Queues
renamed_queues f s q = map (renamed_entry f) (s q)

module _ (f : ℕ → ℕ) where
  pub oldest-renamed : (l : List Entry) → oldest_of (map (renamed_entry f) l) ≡ option_map (renamed_entry f) (oldest_of l)
  oldest-renamed [] = refl
  oldest-renamed (e ∷ l) = refl

  oldest-count : (l : List Entry) → count_or 0 (oldest_of (map (renamed_entry f) l)) ≡ count_or 0 (oldest_of l)
  oldest-count [] = refl
  oldest-count (e ∷ l) = refl

  push-renamed : (q : ℕ) (e : Entry) (s : Queues) → after_push q (renamed_entry f e) (renamed_queues f s) ≡ renamed_queues f (after_push q e s)
  push-renamed q e s = fun_ext (λ j. grind (arith, nat_tests, map-append (renamed_entry f) (s q) (e ∷ [])))

module _ (f : ℕ → ℕ) (i : IsInjective f) where
  -- ---- lists of entries

  pub same-item : (a b : Item) → is_same_item (renamed_item f a) (renamed_item f b) ≡ is_same_item a b
  same-item a b = grind (arith, nat_tests, i a.key b.key)

  occurrences-renamed : (a : Item) (l : List Entry) → occurrences (renamed_item f a) (map (renamed_entry f) l) ≡ occurrences a l
  occurrences-renamed a [] = refl
  occurrences-renamed a (e ∷ l) = rw (same-item a e.item, occurrences-renamed a l) refl

  count-renamed : (a : Item) (l : List Entry) → count_of (renamed_item f a) (map (renamed_entry f) l) ≡ count_of a l
  count-renamed a [] = refl
  count-renamed a (e ∷ l) = rw (same-item a e.item, count-renamed a l) refl

  without-renamed : (a : Item) (l : List Entry) → entries_without (renamed_item f a) (map (renamed_entry f) l) ≡ map (renamed_entry f) (entries_without a l)
  without-renamed a [] = refl
  without-renamed a (e ∷ l) = grind (arith, nat_tests, same-item a e.item, without-renamed a l)

  counted-renamed : (a : Item) (n : ℕ) (l : List Entry) → entries_counted (renamed_item f a) n (map (renamed_entry f) l) ≡ map (renamed_entry f) (entries_counted a n l)
  counted-renamed a n [] = refl
  counted-renamed a n (e ∷ l) = grind (arith, nat_tests, same-item a e.item, counted-renamed a n l)

  -- ---- where an item stands

  below-renamed : (n : ℕ) (a : Item) (s : Queues) → queue_below n (renamed_item f a) (renamed_queues f s) ≡ queue_below n a s
  below-renamed zero a s = refl
  below-renamed (suc n) a s = rw (occurrences-renamed a (s n), below-renamed n a s) refl

  at-renamed : (a : Item) (o : Option ℕ) (s : Queues) → standing_at (renamed_item f a) o (renamed_queues f s) ≡ standing_at a o s
  at-renamed a None s = refl
  at-renamed a (Some q) s = ap (λ n. Some (q, n)) (count-renamed a (s q))

  pub standing-renamed : (k : ℕ) (s : Queues) → standing (item_of (f k)) (renamed_queues f s) ≡ standing (item_of k) s
  standing-renamed k s =
      ap (λ (o : Option ℕ). standing_at (item_of (f k)) o (renamed_queues f s)) (below-renamed QUEUES (item_of k) s)
      ∙ at-renamed (item_of k) (queue_holding (item_of k) s) s

  -- ---- moves

  removal-renamed : (a : Item) (s : Queues) → after_removal (renamed_item f a) (renamed_queues f s) ≡ renamed_queues f (after_removal a s)
  removal-renamed a s = fun_ext (λ q. without-renamed a (s q))

  send-renamed : (e : Entry) (q : ℕ) (s : Queues) → after_send (renamed_entry f e) q (renamed_queues f s) ≡ renamed_queues f (after_send e q s)
  send-renamed e q s = ap (after_push q (renamed_entry f e)) (removal-renamed e.item s) ∙ push-renamed f q e (after_removal e.item s)

  turned-renamed : (to less : ℕ) (o : Option Entry) (s : Queues) → turned to less (option_map (renamed_entry f) o) (renamed_queues f s) ≡ renamed_queues f (turned to less o s)
  turned-renamed to less None s = refl
  turned-renamed to less (Some e) s = send-renamed (entry e.item (e.count - less)) to s

  turn-renamed : (from to less : ℕ) (s : Queues) → after_turn from to less (renamed_queues f s) ≡ renamed_queues f (after_turn from to less s)
  turn-renamed from to less s =
      ap (λ (o : Option Entry). turned to less o (renamed_queues f s)) (oldest-renamed f (s from)) ∙ turned-renamed to less (oldest_of (s from)) s

  pub turns-renamed : (n from to less : ℕ) (s : Queues) → after_turns n from to less (renamed_queues f s) ≡ renamed_queues f (after_turns n from to less s)
  turns-renamed zero from to less s = refl
  turns-renamed (suc n) from to less s =
      ap (after_turns n from to less) (turn-renamed from to less s) ∙ turns-renamed n from to less (after_turn from to less s)

  pub turns-at : (n from to less : ℕ) (s : Queues) (q : ℕ) → after_turns n from to less (renamed_queues f s) q ≡ map (renamed_entry f) (after_turns n from to less s q)
  turns-at n from to less s q = ap (λ (t : Queues). t q) (turns-renamed n from to less s)

  pub run-renamed : (r : Run) (s : Queues) → after_run r (renamed_queues f s) ≡ renamed_queues f (after_run r s)
  run-renamed r s = turns-renamed r.times r.from r.to r.less s

  pub due-renamed : (n from to less least : ℕ) (s : Queues) → turns_due n from to less least (renamed_queues f s) ≡ turns_due n from to less least s
  due-renamed zero from to less least s = refl
  due-renamed (suc n) from to less least s =
      let rest = ap (turns_due n from to less least) (turn-renamed from to less s) ∙ due-renamed n from to less least (after_turn from to less s) in
      rw (oldest-count f (s from), rest) refl

  pub departed-renamed : (to : Option (ℕ × ℕ)) (o : Option Entry) (s : Queues) → departed to (option_map (renamed_entry f) o) (renamed_queues f s) ≡ renamed_queues f (departed to o s)
  departed-renamed to None s = refl
  departed-renamed None (Some e) s = removal-renamed e.item s
  departed-renamed (Some p) (Some e) s = send-renamed (entry e.item p.1) p.0 s

  pub departed-at : (to : Option (ℕ × ℕ)) (o : Option Entry) (s : Queues) (q : ℕ) → departed to (option_map (renamed_entry f) o) (renamed_queues f s) q ≡ map (renamed_entry f) (departed to o s q)
  departed-at to o s q = ap (λ (t : Queues). t q) (departed-renamed to o s)

  pub leaving-renamed : (l : Option Leaving) (s : Queues) → after_leaving l (renamed_queues f s) ≡ renamed_queues f (after_leaving l s)
  leaving-renamed None s = refl
  leaving-renamed (Some l) s =
      ap (λ (o : Option Entry). departed l.to o (renamed_queues f s)) (oldest-renamed f (s l.from)) ∙ departed-renamed l.to (oldest_of (s l.from)) s

  own-renamed : (o : Own) (a : Item) (s : Queues) → after_own o (renamed_item f a) (renamed_queues f s) ≡ renamed_queues f (after_own o a s)
  own-renamed stays a s = refl
  own-renamed (counts n) a s = fun_ext (λ q. counted-renamed a n (s q))
  own-renamed (goes q n) a s = send-renamed (entry a n) q s

  -- ---- a plan

  module _ (p : Plan) (s : Queues) where
    runs-renamed : after_runs p (renamed_queues f s) ≡ renamed_queues f (after_runs p s)
    runs-renamed = ap (after_run p.late) (run-renamed p.early s) ∙ run-renamed p.late (after_run p.early s)

    first-renamed : after_first p (renamed_queues f s) ≡ renamed_queues f (after_first p s)
    first-renamed = ap (after_leaving p.first) runs-renamed ∙ leaving-renamed p.first (after_runs p s)

    second-renamed : after_second p (renamed_queues f s) ≡ renamed_queues f (after_second p s)
    second-renamed = ap (after_leaving p.second) first-renamed ∙ leaving-renamed p.second (after_first p s)

    pub all-renamed : (k : ℕ) → after_all p (item_of (f k)) (renamed_queues f s) ≡ renamed_queues f (after_all p (item_of k) s)
    all-renamed k = ap (after_own p.own (item_of (f k))) second-renamed ∙ own-renamed p.own (item_of k) (after_second p s)

    pub outcome-renamed : outcome_of p (renamed_queues f s) ≡ renamed_outcome f (outcome_of p s)
    outcome-renamed =
        ap (λ (o : Outcome). cond p.hits Hit o) (ap (outcome_after p.first) runs-renamed ∙ leaver p.first (after_runs p s)) ∙ by_hit p.hits (outcome_after p.first (after_runs p s))
      where
        of_oldest : (l : List Entry) → evicted (oldest_of (map (renamed_entry f) l)) ≡ renamed_outcome f (evicted (oldest_of l))
        of_oldest [] = refl
        of_oldest (e ∷ l) = refl

        leaver : (l : Option Leaving) (t : Queues) → outcome_after l (renamed_queues f t) ≡ renamed_outcome f (outcome_after l t)
        leaver None t = refl
        leaver (Some l) t = of_oldest (t l.from)

        by_hit : (b : Bool) (o : Outcome) → cond b Hit (renamed_outcome f o) ≡ renamed_outcome f (cond b Hit o)
        by_hit true o = refl
        by_hit false o = refl
