-- An access as the fields show it, that its record fits, and that it undoes the access.
use Rattle.std.proofs.Common.{◌≡◌, ℕ, ◌≤◌, Bool, Option, ap, refl, arith, ◌≢◌, Some, Ok, ◌∙◌, sym, subst}
use Rattle.std.proofs.lemmas.Bool.Decides.{nat_tests}
use Rattle.engine_base.specs.Stats.{is_hit, stats_with, IsTally}
use Rattle.segments.specs.Queues.{Queues, total_items}
use Rattle.replacement.specs.declared.record.Moves.{Moves}
use Rattle.replacement.specs.Plan.{Outcome, Item, plan}
use Rattle.replacement.specs.PlanMoves.{moves_of, UndoesMoves}
use Rattle.replacement.specs.Table.{access}
use Rattle.replacement.specs.declared.rules.Placement.TheVariants.{Windowed}
use Rattle.replacement.proofs.Balance.{fits-total, balanced}
use Rattle.replacement.proofs.Carrying.{access-undone}
use Rattle.replacement.proofs.Planned.{accesses_planned}
use Rattle.queue_cache.specs.declared.window_record.SizeChange.{SizeChange}
use Rattle.queue_cache.specs.declared.window_record.WindowRecord.{WindowRecord}
use Rattle.queue_cache.specs.Climber.{Climber, ClimbRules, climber_after, period_record, caffeine_rules, first_window}
use Rattle.queue_cache.specs.AdaptiveWindow.{Rules, AdaptiveState, rules_at, queues_resized, response_of, adaptive_act, IsAdaptive}
use Rattle.queue_cache.specs.Resizing.{size_towards}
use Rattle.queue_cache.specs.WindowRecord.{size_change, queues_before_change, window_record_of, window_undone, WindowFits}
use Rattle.queue_cache.specs.AdaptiveTheorems.{AdaptiveUndoes, IsAdaptiveAccess}
use Rattle.queue_cache.proofs.Climbing.{climbed-back, rules_fit}
use Rattle.queue_cache.proofs.SizeChanges.{resized-back, size-back}
use Rattle.engine_base.specs.Config.{config_fault}
use Rattle.segments.specs.Items.{nodeless_item}
use Rattle.admission.specs.declared.freq_record.FreqRecord.{FreqRecord}
use Rattle.admission.specs.Frequency.{FrequencyData, frequency_with}
use Rattle.admission.proofs.Weighing.{halvings_few}
use Rattle.replacement.specs.Admission.{admits_in}
use Rattle.queue_cache.specs.declared.adaptive_cache.AdaptiveRecord.{AdaptiveRecord}
use Rattle.queue_cache.specs.AdaptiveCache.{Stats, Config, IsRunning, AdaptiveCacheState, cache_act, cache_record_of, cache_access, response_to}
use Rattle.replacement.proofs.Residents.{residents-length, resident-queued, resident-once, still-nodeless, queued-from}
use Rattle.replacement.proofs.Leaving.{hit-keeps, asks-evicts}
use Rattle.engine_base.specs.Machine.{IsServed}
use Rattle.queue_cache.specs.Residents.{cache_residents, IsCache, CacheKeeps, CacheHitsAskNothing, CacheAsksWhereOneLeft}
use Rattle.queue_cache.proofs.Keeping.{starts, kept-access, access-is}

-- ---- as the fields show it

abbrev pub state_by : Queues → ℕ → Climber → AdaptiveState
state_by q size k = record { queues = q; size = size; climber = k }

module _ (r : ClimbRules) (admits : ℕ → ℕ → Bool) (i : Item) (q : Queues) (size : ℕ) (k : Climber) where
  -- the items after the access by the table of moves fit
  pub still-few : (rules : Rules) (lists : Queues) → rules ≡ rules_at r size → lists ≡ (access rules admits i q).queues → IsAdaptive r (state_by q size k) → total_items lists ≤ r.capacity
  still-few rules lists e hl h =
      rw (hl, e) (fits-total Windowed (rules_at r size) _ (balanced (rules_at r size) admits i q h.distinct (h.window, h.main)).sizes)

  module _ (rules : Rules) (lists new : Queues) (o : Outcome) (after : Climber) (z : ℕ)
      (er : rules ≡ rules_at r size) (eo : o ≡ (access rules admits i q).outcome) (el : lists ≡ (access rules admits i q).queues)
      (ek : after ≡ climber_after r (is_hit o) k) (ez : z ≡ size_towards after.target size)
      (en : new ≡ queues_resized r after.target size lists) where
    pub state-is : state_by new z after ≡ (adaptive_act r admits i (state_by q size k)).1
    state-is = rw (en, ez, ek, eo, el, er) refl

    module _ (a : Moves) (change : SizeChange) (period : Option Climber)
        (ea : a ≡ moves_of (plan rules admits i q) q) (ec : change ≡ size_change r after.target size lists) (ep : period ≡ period_record r k) where
      pub record-is : ◌≡◌ {A = WindowRecord} record { outcome = o; access = a; size = change; period = period } (window_record_of r admits i (state_by q size k))
      record-is = rw (ea, ec, ep, ek, eo, el, er) refl

-- ---- its record

module _ (p : ClimbRules) (admits : ℕ → ℕ → Bool) (i : Item) (s : AdaptiveState) (h : IsAdaptive p s) where
  abbrev rules : Rules
  rules = rules_at p s.size

  abbrev queues : Queues
  queues = (response_of p admits i s).queues

  abbrev climber : Climber
  climber = climber_after p (is_hit (response_of p admits i s).outcome) s.climber

  first : UndoesMoves s.queues queues (moves_of (plan rules admits i s.queues) s.queues)
  first =
      subst (λ (q : Queues). UndoesMoves s.queues q (moves_of (plan rules admits i s.queues) s.queues))
      (sym (ap (λ x. x.queues) (accesses_planned rules admits i s.queues h.distinct))) (access-undone rules admits i s.queues h.distinct)

  then : queues_before_change (size_change p climber.target s.size queues) (queues_resized p climber.target s.size queues) ≡ queues
  then = resized-back p climber.target s.size queues

  undone : window_undone (window_record_of p admits i s) (adaptive_act p admits i s).1 ≡ s
  undone = rw (then, first.undone, size-back p climber.target s.size queues, climbed-back p (is_hit (response_of p admits i s).outcome) s.climber) refl

  pub record-fits : WindowFits p (window_record_of p admits i s) (adaptive_act p admits i s).1
  record-fits = record {
    access = rw then first.fits;
    climber = (grind (arith, nat_tests));
    before = rw undone h;
  }

pub undoes : AdaptiveUndoes
undoes p admits i s h = undone p admits i s h

-- ---- an access of the engine, as the fields show it

-- an accepted configuration has room
pub has-room : (c : Config) → config_fault c ≡ Ok tt → 1 ≤ c.capacity
has-room c h = grind (arith, nat_tests)

-- what an accepted access gives
module _ (r p : ClimbRules) (w v x : AdaptiveState) (f g : FrequencyData) (s z : Stats) (k : ℕ) (o : Outcome)
    (ep : p ≡ r) (ev : v ≡ w) (eg : g ≡ frequency_with k f) where
  abbrev before : AdaptiveCacheState
  before = record { rules = r; window = w; frequency = f; stats = s }

  pub act-is : (q : ClimbRules) → q ≡ p → s.accesses ≢ 4294967296 → o ≡ (adaptive_act p (admits_in (Some g)) (nodeless_item k) v).0
      → x ≡ (adaptive_act p (admits_in (Some g)) (nodeless_item k) v).1 → z ≡ stats_with o s
      → cache_act before k ≡ Some (o, record { rules = q; window = x; frequency = g; stats = z })
  act-is q eq below eo ex ez = grind (arith, nat_tests)

  pub recorded-is : (c : FreqRecord) (m : WindowRecord) → c ≡ (cache_record_of k before).counting
      → m ≡ window_record_of p (admits_in (Some g)) (nodeless_item k) v
      → ◌≡◌ {A = AdaptiveRecord} record { counting = c; window = m } (cache_record_of k before)
  recorded-is c m ec em = rw (ec, em, eg, ep, ev) refl

tally-next : (o : Outcome) (s : Stats) → IsTally s → s.accesses ≢ 4294967296 → IsTally (stats_with o s)
tally-next v s h below = grind (arith, nat_tests)

pub still-running : (k : ℕ) (o : Outcome) (f g : FrequencyData) (s z : Stats) → IsRunning f s → s.accesses ≢ 4294967296 → g ≡ frequency_with k f → z ≡ stats_with o s → IsRunning g z
still-running k o f g s z h below eg ez =
    let few = halvings_few f k in
    let most = h.halvings in
    rw (eg, ez) record { counts = tally-next o s h.counts below; halvings = omega (arith, few, most) }

-- ---- what the cache keeps of its residents

abbrev admitted : ℕ → AdaptiveCacheState → ℕ → ℕ → Bool
admitted k d = admits_in (Some (frequency_with k d.frequency))

module _ (c k : ℕ) (d : AdaptiveCacheState) (h : IsCache c d) where
  access-to : IsAdaptiveAccess (nodeless_item k) d.window (response_to k d).0 (response_to k d).1
  access-to = access-is d.rules h.rules (admitted k d) (nodeless_item k) d.window h.window

  kept : IsCache c (cache_access k d).1
  kept = record {
    rules = h.rules;
    capacity = h.capacity;
    window = kept-access d.rules h.rules (admitted k d) (nodeless_item k) d.window h.window;
    nodeless = still-nodeless k d.window.queues (response_to k d).1.queues h.nodeless access-to.came;
  }

  served : IsServed k (cache_residents d) (cache_access k d).0 (cache_residents (cache_access k d).1)
  served = record {
    hits = access-to.hits ∙ sym (resident-queued k d.window.queues h.nodeless);
    counts =
        omega (arith, access-to.counts, residents-length d.window.queues, residents-length (response_to k d).1.queues);
    came = queued-from k d.window.queues (response_to k d).1.queues h.nodeless access-to.came;
  }

pub cache_keeps : CacheKeeps
cache_keeps c period ok =
    let fit = rules_fit c.capacity c.main_percent period (has-room c ok) (grind (arith, nat_tests, ok)) in
    record {
      empty = refl;
      starts = record {
        rules = fit.0;
        capacity = refl;
        window = starts (caffeine_rules c.capacity c.main_percent period) (first_window c.capacity c.main_percent) fit.0 fit.1.0 fit.1.1;
        nodeless = λ i h. absurd (omega (arith, h));
      };
      keeps = λ k d h. kept c.capacity k d h;
      accesses = λ k d h. served c.capacity k d h;
      fits = λ d h. (let w = h.window.window in let m = h.window.main in let own = h.capacity in omega (arith, w, m, own, residents-length d.window.queues));
      distinct = λ d k h. resident-once k d.window.queues h.window.distinct h.nodeless;
    }

pub hits_ask_nothing : CacheHitsAskNothing
hits_ask_nothing k d hit asks = grind (arith, nat_tests, hit-keeps)

pub asks_where_one_left : CacheAsksWhereOneLeft
asks_where_one_left c k d h asks = grind (arith, nat_tests, asks-evicts)
