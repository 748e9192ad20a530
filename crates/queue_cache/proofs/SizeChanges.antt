-- How the queues follow the window's size: which items stand there, how many, and the way back.
use Rattle.std.proofs.Common.{◌≡◌, ℕ, ◌+◌, ◌-◌, ◌<◌, ◌≤◌, nat_lt, List, length, take, drop, min, max, refl, ap, ◌∙◌, sym, arith, inl, inr, length-append}
use Rattle.std.proofs.lemmas.List.{length-take-le, length-drop, take-append-drop}
use Rattle.std.proofs.lemmas.Bool.{cases_Bool, ltb-true, ltb-false}
use Rattle.segments.specs.declared.records.Queue.TheVariants.{Window, Probation, Protected}
use Rattle.segments.specs.Items.{Item, occurrences}
use Rattle.segments.specs.Queues.{Queues, total_items}
use Rattle.segments.specs.Runs.{queues_after_run, queues_before_run}
use Rattle.segments.proofs.QueueLists.{times-append}
use Rattle.segments.proofs.Runs.{run-back}
use Rattle.replacement.specs.Counts.{queue_occurrences, main_length}
use Rattle.queue_cache.specs.Climber.{ClimbRules, distance}
use Rattle.queue_cache.specs.Resizing.{Rules, max_size_change, size_towards, demoted_items, queues_after_demotions, lent_items, queues_after_growth, returned_items, queues_after_shrinking}
use Rattle.queue_cache.specs.AdaptiveWindow.{rules_at, queues_resized}
use Rattle.queue_cache.specs.Steps.{IsWithin}
use Rattle.queue_cache.specs.WindowRecord.{size_change, queues_before_change, size_before}

-- ---- a run between two queues

times-cut : (j : Item) (n : ℕ) (l : List Item) → occurrences j (take n l) + occurrences j (drop n l) ≡ occurrences j l
times-cut j n l = sym (times-append j (take n l) (drop n l)) ∙ ap (occurrences j) (take-append-drop n l)

-- the items that stand in the queues are as before, and so many stand in each
pub record IsMoved (s t : Queues) (w p q : ℕ) : Type 0 where
  pub same : (j : Item) → queue_occurrences j t ≡ queue_occurrences j s
  pub window : length t.window ≡ w
  pub probation : length t.probation ≡ p
  pub protected : length t.protected ≡ q

demoted-moved : (n : ℕ) (s : Queues) → n ≤ length s.protected
    → IsMoved s (queues_after_run n Protected Probation s) (length s.window) (length s.probation + n) (length s.protected - n)
demoted-moved n s few = record {
  same = λ j. omega (arith, times-append j s.probation (take n s.protected), times-cut j n s.protected);
  window = refl;
  probation = omega (arith, length-append s.probation (take n s.protected), length-take-le n s.protected few);
  protected = length-drop n s.protected;
}

lent-moved : (n : ℕ) (s : Queues) → n ≤ length s.probation
    → IsMoved s (queues_after_run n Probation Window s) (length s.window + n) (length s.probation - n) (length s.protected)
lent-moved n s few = record {
  same = λ j. omega (arith, times-append j s.window (take n s.probation), times-cut j n s.probation);
  window = omega (arith, length-append s.window (take n s.probation), length-take-le n s.probation few);
  probation = length-drop n s.probation;
  protected = refl;
}

returned-moved : (n : ℕ) (s : Queues) → n ≤ length s.window
    → IsMoved s (queues_after_run n Window Probation s) (length s.window - n) (length s.probation + n) (length s.protected)
returned-moved n s few = record {
  same = λ j. omega (arith, times-append j s.probation (take n s.window), times-cut j n s.window);
  window = length-drop n s.window;
  probation = omega (arith, length-append s.probation (take n s.window), length-take-le n s.window few);
  protected = refl;
}

-- ---- growing and shrinking

-- which items stand there is as before, and the queues fit a window of a size
pub record IsResized (r : ClimbRules) (size : ℕ) (s t : Queues) : Type 0 where
  pub same : (j : Item) → queue_occurrences j t ≡ queue_occurrences j s
  pub total : total_items t ≡ total_items s
  pub window : length t.window ≤ size
  pub main : size + main_length t ≤ r.capacity
  pub protected : length t.protected ≤ r.largest - size

module _ (r : ClimbRules) (z : ℕ) (s : Queues) where
  abbrev pub rules : Rules
  rules = rules_at r z

  abbrev pub between : Queues
  between = queues_after_demotions rules s

  abbrev pub demoted : ℕ
  demoted = demoted_items rules s

  abbrev pub lent : ℕ
  lent = lent_items rules between

  pub first : IsMoved s between (length s.window) (length s.probation + demoted) (length s.protected - demoted)
  first = demoted-moved demoted s (omega arith)

  pub second : IsMoved between (queues_after_growth rules s) (length between.window + lent) (length between.probation - lent) (length between.protected)
  second = lent-moved lent between (omega arith)

  -- probation has what the main part has over its size, since protected is within its own
  pub enough : r.largest ≤ r.capacity → z ≤ r.largest → lent ≡ main_length between - (r.capacity - z)
  enough fits high = let p = first.probation in let q = first.protected in omega (arith, p, q, fits, high)

  growth-back : queues_before_run demoted Protected Probation (queues_before_run lent Probation Window (queues_after_growth rules s)) ≡ s
  growth-back =
      ap (queues_before_run demoted Protected Probation) (run-back lent Probation Window between (λ e. absurd (cc e)) (omega arith))
      ∙ run-back demoted Protected Probation s (λ e. absurd (cc e)) (omega arith)

  pub grown : (size : ℕ) → r.largest ≤ r.capacity → size < z → z ≤ r.largest → IsWithin r size s → IsResized r z s (queues_after_growth rules s)
  grown size fits more high h =
      let some : lent ≤ length between.probation = omega arith in
      let a = first.window in
      let b = first.probation in
      let c = first.protected in
      let d = second.window in
      let e = second.probation in
      let f = second.protected in
      let w = h.window in
      let m = h.main in
      record {
        same = λ j. second.same j ∙ first.same j;
        total = omega (arith, a, b, c, d, e, f, some);
        window = omega (arith, a, b, c, d, e, f, some, w, m, more);
        main = omega (arith, a, b, c, d, e, f, some, w, m, more, high, fits);
        protected = omega (arith, c, f);
      }

  shrinking-back : queues_before_run (returned_items rules s) Window Probation (queues_after_shrinking rules s) ≡ s
  shrinking-back = run-back (returned_items rules s) Window Probation s (λ e. absurd (cc e)) (omega arith)

  pub back : IsMoved s (queues_after_shrinking rules s) (length s.window - returned_items rules s) (length s.probation + returned_items rules s) (length s.protected)
  back = returned-moved (returned_items rules s) s (omega arith)

  pub shrunk : (size : ℕ) → z < size → IsWithin r size s → IsResized r z s (queues_after_shrinking rules s)
  shrunk size less h =
      let d = back.window in
      let e = back.probation in
      let f = back.protected in
      let w = h.window in
      let m = h.main in
      let p = h.protected in
      record {
        same = back.same;
        total = omega (arith, d, e, f);
        window = omega (arith, d);
        main = omega (arith, d, e, f, w, m, less);
        protected = omega (arith, f, p, less);
      }

unresized : (r : ClimbRules) (z size : ℕ) (s : Queues) → z ≡ size → IsWithin r size s → IsResized r z s s
unresized r z size s e h = record {
  same = λ j. refl;
  total = refl;
  window = let a = h.window in omega (arith, a, e);
  main = let a = h.main in omega (arith, a, e);
  protected = let a = h.protected in omega (arith, a, e);
}

-- ---- the size

-- what is known of a size z to which a size goes
pub record IsNearer (target size z : ℕ) : Type 0 where
  pub within : (size ≤ z + max_size_change) × (z ≤ size + max_size_change)
  pub nearer : distance target z ≤ distance target size - max_size_change

grown-size : (target size : ℕ) → size < target → (size < min target (size + max_size_change)) × (min target (size + max_size_change) ≤ target)
grown-size target size more = (omega (arith, more), omega arith)

shrunk-size : (target size : ℕ) → target < size → (max target (size - max_size_change) < size) × (target ≤ max target (size - max_size_change))
shrunk-size target size more = (omega (arith, more), omega arith)

grown-nearer : (target size : ℕ) → size < target → IsNearer target size (min target (size + max_size_change))
grown-nearer target size more = record { within = (omega arith, omega arith); nearer = omega (arith, more) }

shrunk-nearer : (target size : ℕ) → target ≤ size → IsNearer target size (max target (size - max_size_change))
shrunk-nearer target size more = record { within = (omega arith, omega arith); nearer = omega (arith, more) }

-- ---- both

-- what holds of the size z after an access and of the queues t then
pub record IsSettled (r : ClimbRules) (target size z : ℕ) (s t : Queues) : Type 0 where
  pub queues : IsResized r z s t
  pub least : 1 ≤ z
  pub most : z ≤ r.largest
  pub nearer : IsNearer target size z

-- what followed a change of the size is undone
pub resized-back : (r : ClimbRules) (target size : ℕ) (s : Queues)
    → queues_before_change (size_change r target size s) (queues_resized r target size s) ≡ s
resized-back r target size s =
    elim (cases_Bool (nat_lt size target)) [
      | inl e ↦ rw e (growth-back r (min target (size + max_size_change)) s)
      | inr e ↦ rw e (elim (cases_Bool (nat_lt target size)) [
        | inl f ↦ rw f (shrinking-back r (max target (size - max_size_change)) s)
        | inr f ↦ rw f refl
      ])
    ]

pub size-back : (r : ClimbRules) (target size : ℕ) (s : Queues) → size_before (size_change r target size s) (size_towards target size) ≡ size
size-back r target size s =
    elim (cases_Bool (nat_lt size target)) [
      | inl e ↦ let x = (grown-size target size (ltb-true size target e)).0 in rw e (omega (arith, x))
      | inr e ↦
          let few = ltb-false size target e in
          rw e (elim (cases_Bool (nat_lt target size)) [
            | inl f ↦ let x = (shrunk-size target size (ltb-true target size f)).0 in rw f (omega (arith, x))
            | inr f ↦ let less = ltb-false target size f in rw f (omega (arith, few, less))
          ])
    ]

pub settled : (r : ClimbRules) (target size : ℕ) (s : Queues) → r.largest ≤ r.capacity → (1 ≤ target) × (target ≤ r.largest) → 1 ≤ size → size ≤ r.largest
    → IsWithin r size s → IsSettled r target size (size_towards target size) s (queues_resized r target size s)
settled r target size s fits t some most h =
    elim (cases_Bool (nat_lt size target)) [
      | inl e ↦
          let more = ltb-true size target e in
          let z = grown-size target size more in
          let low = t.0 in
          let high = t.1 in
          let x = z.0 in
          let y = z.1 in
          rw e record {
            queues = grown r (min target (size + max_size_change)) s size fits x (omega (arith, y, high)) h;
            least = omega (arith, x);
            most = omega (arith, y, high);
            nearer = grown-nearer target size more;
          }
      | inr e ↦
          let few = ltb-false size target e in
          rw e (elim (cases_Bool (nat_lt target size)) [
            | inl f ↦
                let less = ltb-true target size f in
                let z = shrunk-size target size less in
                let low = t.0 in
                let x = z.0 in
                let y = z.1 in
                rw f record {
                  queues = shrunk r (max target (size - max_size_change)) s size x h;
                  least = omega (arith, y, low);
                  most = omega (arith, x, most);
                  nearer = shrunk-nearer target size few;
                }
            | inr f ↦
                let less = ltb-false target size f in
                let same : max target (size - max_size_change) ≡ size = omega (arith, few, less) in
                rw f record {
                  queues = unresized r (max target (size - max_size_change)) size s same h;
                  least = omega (arith, same, some);
                  most = omega (arith, same, most);
                  nearer = shrunk-nearer target size few;
                }
          ])
    ]
