-- A queue's oldest key leaves it, and what that leaves alone.
use Rattle.std.proofs.lemmas.Bool.Decides.{nat_tests}
use Rattle.std.proofs.Common.{eqb, ◌++◌, map, take, append-nil, ◌≡◌, ℕ, zero, suc, ◌-◌, ◌<◌, false, Option, Some, None, List, [], ◌∷◌, drop, ap, sym, subst, ◌∙◌, refl, arith, Bool, nat_lt, length, cond, ◌||◌}
use Rattle.std.proofs.Math.Path.{fun_ext}
use Rattle.std.proofs.lemmas.Bool.{cond_both, eqb-true}
use Rattle.engine_base.specs.declared.outcome.Outcome.TheVariants.{Kept, Evicted}
use Rattle.queue_table.specs.Entries.{Item, is_same_item, entry, occurrences, oldest_of}
use Rattle.queue_table.specs.Queues.{QUEUES, Queues, with_queue, queue_holding, after_push}
use Rattle.queue_table.proofs.QueueLists.{times-without, IsAbsent, absent, is_absent}
use Rattle.queue_table.specs.declared.moves.Left.{Left}
use Rattle.queue_table.specs.declared.moves.Run.{Run}
use Rattle.queue_table.specs.declared.records.Entry.{Entry}
use Rattle.queue_table.specs.Moves.{Outcome, turned, after_turn, after_turns, after_run, after_runs, after_first, Leaving, departed, leaving, after_leaving, evicted, outcome_after, IsLowLeaving, IsLowPlan, Plan}
use Rattle.queue_table.specs.Tabled.{IsTabled}
use Rattle.queue_table.specs.Undoing.{IsLeft, IsRun}
use Rattle.queue_table.proofs.Laws.{first-other, off-after-send}
use Rattle.queue_table.proofs.Tabled.{oldest-gone, tabled-leaving, turns-within}
use Rattle.policy_pages.specs.Leavers.{Leavers, after_leavers, leavers_for_ghost}

pub oldest-out : (s : Queues) → IsTabled s → (q : ℕ) (e : Entry) (l : List Entry) → s q ≡ e ∷ l → after_leaving (leaving q None) s ≡ with_queue q l s
oldest-out s t q e l h = ap (λ o. departed None o s) (ap oldest_of h) ∙ oldest-gone s t q e l h

pub oldest-sent : (s : Queues) → IsTabled s → (q to : ℕ) (e : Entry) (l : List Entry) → s q ≡ e ∷ l → after_leaving (leaving q (Some (to, 0))) s ≡ after_push to (entry e.item 0) (with_queue q l s)
oldest-sent s t q to e l h = ap (λ o. departed (Some (to, 0)) o s) (ap oldest_of h) ∙ ap (after_push to (entry e.item 0)) (oldest-gone s t q e l h)

pub none-out : (s : Queues) (q : ℕ) → s q ≡ [] → after_leaving (leaving q None) s ≡ s
none-out s q h = ap (λ o. departed None o s) (ap oldest_of h)

-- the same, whether it has a key or not

with-same : (q : ℕ) (s : Queues) → with_queue q (s q) s ≡ s
with-same q s = fun_ext (λ j. cond_both (eqb j q) (s q) (s j) (λ l. l ≡ s j) (λ e. ap s (sym (eqb-true j q e))) (λ e. refl))

pub any-out : (s : Queues) → IsTabled s → (q : ℕ) → after_leaving (leaving q None) s ≡ with_queue q (drop 1 (s q)) s
any-out s t q = at (s q) refl
  where
    at : (l : List Entry) → s q ≡ l → after_leaving (leaving q None) s ≡ with_queue q (drop 1 (s q)) s
    at [] h = none-out s q h ∙ sym (with-same q s) ∙ ap (λ l. with_queue q l s) (h ∙ ap (drop 1) (sym h))
    at (e ∷ l) h = oldest-out s t q e l h ∙ ap (λ x. with_queue q (drop 1 x) s) (sym h)

pub any-sent : (s : Queues) → IsTabled s → (q to n : ℕ) → after_leaving (leaving q (Some (to, n))) s
    ≡ with_queue to (with_queue q (drop 1 (s q)) s to ++ map (λ (e : Entry). entry e.item n) (take 1 (s q))) (with_queue q (drop 1 (s q)) s)
any-sent s t q to n = at (s q) refl
  where
    after : List Entry → Queues
    after l = with_queue to (with_queue q (drop 1 l) s to ++ map (λ (e : Entry). entry e.item n) (take 1 l)) (with_queue q (drop 1 l) s)

    at : (l : List Entry) → s q ≡ l → after_leaving (leaving q (Some (to, n))) s ≡ after (s q)
    at [] h = grind (arith, nat_tests, with-same q s, with-same to s, append-nil (s to))
    at (e ∷ l) h = ap (λ o. departed (Some (to, n)) o s) (ap oldest_of h) ∙ ap (after_push to (entry e.item n)) (oldest-gone s t q e l h) ∙ ap after (sym h)

-- what the queues and the outcome are, by what the queue has, once its oldest left for a ghost
pub by-departure : (P : Queues → Outcome → List Entry → Type 0) (s : Queues) → IsTabled s → (from to : ℕ) → (s from ≡ [] → P s Kept [])
    → ((e : Entry) (l : List Entry) → s from ≡ e ∷ l → P (after_push to (entry e.item 0) (with_queue from l s)) (Evicted e.item.key) (e ∷ l))
    → P (after_leaving (leaving from (Some (to, 0))) s) (outcome_after (leaving from (Some (to, 0))) s) (s from)
by-departure P s t from to none some = at (s from) refl
  where
    at : (l : List Entry) → s from ≡ l → P (departed (Some (to, 0)) (oldest_of l) s) (evicted (oldest_of l)) l
    at [] h = none h
    at (e ∷ l) h = subst (λ (u : Queues). P u (Evicted e.item.key) (e ∷ l)) (sym (ap (after_push to (entry e.item 0)) (oldest-gone s t from e l h))) (some e l h)

-- ---- an entry of other queues stays out of those that keys leave

off-turn : (i : Item) (from to less j : ℕ) (s : Queues) → occurrences i (s from) ≡ 0 → occurrences i (s j) ≡ 0 → occurrences i (after_turn from to less s j) ≡ 0
off-turn i from to less j s a z = go (oldest_of (s from)) refl
  where
    go : (o : Option Entry) → oldest_of (s from) ≡ o → occurrences i (turned to less o s j) ≡ 0
    go None h = z
    go (Some e) h = off-after-send i (entry e.item (e.count - less)) to j s (first-other (entry i 0) e (s from) h a) z

off-turns : (i : Item) (n from to less j : ℕ) (s : Queues) → occurrences i (s from) ≡ 0 → occurrences i (s j) ≡ 0 → occurrences i (after_turns n from to less s j) ≡ 0
off-turns i zero from to less j s a z = z
off-turns i (suc n) from to less j s a z = off-turns i n from to less j (after_turn from to less s) (off-turn i from to less from s a a) (off-turn i from to less j s a z)

pub off-run : (i : Item) (r : Run) (from j : ℕ) (s u : Queues) → r.from ≡ from → u ≡ after_run r s → occurrences i (s from) ≡ 0 → occurrences i (s j) ≡ 0 → occurrences i (u j) ≡ 0
off-run i r from j s u is after a z = ap (λ (t : Queues). occurrences i (t j)) after ∙ off-turns i r.times r.from r.to r.less j s (ap (λ q. occurrences i (s q)) is ∙ a) z

pub none-left : (i : Item) (from : ℕ) (to : Option (ℕ × ℕ)) (s : Queues) (j : ℕ) → occurrences i (s from) ≡ 0 → occurrences i (s j) ≡ 0
    → occurrences i (after_leaving (leaving from to) s j) ≡ 0
none-left i from to s j a z = at (oldest_of (s from)) refl
  where
    gone : (to : Option (ℕ × ℕ)) (e : Entry) → is_same_item i e.item ≡ false → occurrences i (departed to (Some e) s j) ≡ 0
    gone None e other = let less = times-without e.item i (s j) in omega (arith, less, z)
    gone (Some p) e other = off-after-send i (entry e.item p.1) p.0 j s other z

    at : (o : Option Entry) → oldest_of (s from) ≡ o → occurrences i (departed to o s j) ≡ 0
    at None h = z
    at (Some e) h = gone to e (first-other (entry i 0) e (s from) h a)

-- after two runs and a leaver that take from queues without it
pub off-first : (i : Item) (early late : Run) (from : ℕ) (to : Option (ℕ × ℕ)) (s : Queues) → occurrences i (s early.from) ≡ 0 → occurrences i (s late.from) ≡ 0 → occurrences i (s from) ≡ 0
    → (j : ℕ) → occurrences i (s j) ≡ 0 → occurrences i (after_leaving (leaving from to) (after_run late (after_run early s)) j) ≡ 0
off-first i early late from to s off_early off_late off_from j off =
    let a : Queues = after_run early s in
    let after_early = λ (q : ℕ) (z : occurrences i (s q) ≡ 0). off-run i early early.from q s a refl refl off_early z in
    let after_late = λ (q : ℕ) (z : occurrences i (s q) ≡ 0). off-run i late late.from q a (after_run late a) refl refl (after_early late.from off_late) (after_early q z) in
    none-left i from to (after_run late a) j (after_late from off_from) (after_late j off)

-- ---- an item that stands nowhere still does

pub absent-turns : (i : Item) (n from to less : ℕ) (s : Queues) → from < QUEUES → IsAbsent i s → IsAbsent i (after_turns n from to less s)
absent-turns i n from to less s w h = λ q v. off-turns i n from to less q s (h from w) (h q v)

pub still-absent : (i : Item) (l : Option Leaving) (s : Queues) → IsLowLeaving l → IsAbsent i s → IsAbsent i (after_leaving l s)
still-absent i None s w h = h
still-absent i (Some l) s w h = λ q v. none-left i l.from l.to s q (h l.from w.0) (h q v)

pub absent-first : (i : Item) (p : Plan) (s : Queues) → IsLowPlan p → IsAbsent i s → IsAbsent i (after_first p s)
absent-first i p s w h =
    let early = absent-turns i p.early.times p.early.from p.early.to p.early.less s w.early.0 h in
    let late = absent-turns i p.late.times p.late.from p.late.to p.late.less (after_run p.early s) w.late.0 early in
    still-absent i p.first (after_runs p s) w.first late

pub absent-left : (i : Item) (l : Option Leaving) (s u : Queues) (r : Left) → IsLowLeaving l → IsLeft l s u r → queue_holding i s ≡ None → queue_holding i u ≡ None
absent-left i l s u r w left h = is_absent i u (subst (IsAbsent i) (sym left.after) (still-absent i l s w (absent i s h)))

pub absent-run : (i : Item) (r : Run) (s u : Queues) → IsRun r s u → queue_holding i s ≡ None → queue_holding i u ≡ None
absent-run i r s u ran none = grind (arith, nat_tests, is_absent, absent-turns, absent)

-- ---- which queues leavers name

abbrev pub AreLow : Leavers → Type 0
AreLow l = IsLowLeaving l.first × IsLowLeaving l.second

pub tabled-leavers : (l : Leavers) (s : Queues) → AreLow l → IsTabled s → IsTabled (after_leaving l.second (after_leaving l.first s))
tabled-leavers l s w t = tabled-leaving (after_leaving l.first s) (tabled-leaving s t l.first w.0) l.second w.1

pub leavers-low : (from ghost size : ℕ) (r : Bool) (s : Queues) → from < QUEUES → ghost < QUEUES → AreLow (leavers_for_ghost from ghost size r s)
leavers-low from ghost size r s low into = ((low, into), cond_both (r || nat_lt (length (s ghost)) size) _ _ IsLowLeaving (λ f. tt) (λ f. (into, tt)))

-- ---- A key leaves for a ghost, which the accessed key may leave

-- the oldest of a queue has gone to the recent end of the ghost
abbrev pub after_oldest_sent : ℕ → ℕ → Entry → List Entry → Queues → Queues
after_oldest_sent from ghost e l s = after_push ghost (entry e.item 0) (with_queue from l s)

-- the ghost g, less its oldest where it forgets that
abbrev pub ghost_entries : Bool → List Entry → List Entry
ghost_entries f g = cond f g (drop 1 g)

module _ (s : Queues) (t : IsTabled s) (from ghost size : ℕ) (r : Bool) (e : Entry) (l : List Entry) (h : s from ≡ e ∷ l) (low : from < QUEUES) (into : ghost < QUEUES) where
  pub leavers-gone : after_leavers (leavers_for_ghost from ghost size r s) s
      ≡ with_queue ghost (ghost_entries (r || nat_lt (length (s ghost)) size) (after_oldest_sent from ghost e l s ghost)) (after_oldest_sent from ghost e l s)
  leavers-gone =
      let first : Queues = after_leaving (leaving from (Some (ghost, 0))) s in
      let tabled : IsTabled first = tabled-leaving s t (leaving from (Some (ghost, 0))) (low, into) in
      grind (arith, nat_tests, oldest-sent s t from ghost e l h, turns-within, any-out)
