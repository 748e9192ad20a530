-- The window's size changed by one item after the other, and at once.
use Rattle.std.proofs.Common.{◌≡◌, ℕ, suc, zero, ◌+◌, ◌-◌, ◌<◌, ◌≤◌, false, nat_lt, if◌then◌else◌, min, max, length, take, refl, ap, ◌∙◌, sym, arith, inl, inr}
use Rattle.std.proofs.lemmas.List.{take-append-le, drop-append-le}
use Rattle.std.proofs.lemmas.Bool.{cases_Bool, ltb-true, ltb-false, le-ltb}
use Rattle.segments.specs.declared.records.Queue.{Queue}
use Rattle.segments.specs.declared.records.Queue.TheVariants.{Window, Probation, Protected}
use Rattle.segments.specs.Queues.{Queues}
use Rattle.segments.specs.Runs.{queues_after_run}
use Rattle.segments.proofs.Runs.{run-none, run-more}
use Rattle.replacement.specs.Counts.{main_length}
use Rattle.queue_cache.specs.Climber.{ClimbRules}
use Rattle.queue_cache.specs.Resizing.{demoted_items, queues_after_demotions, lent_items, queues_after_growth, returned_items, queues_after_shrinking, max_size_change}
use Rattle.queue_cache.specs.AdaptiveWindow.{rules_at}
use Rattle.queue_cache.specs.Steps.{Sized, IsWithin, demotion, loan, handing_back, steps_towards, ChangesBySteps}
use Rattle.queue_cache.proofs.SizeChanges.{IsResized, first, second, enough, back, grown, shrunk}

-- ---- one item, where there is one more than may be

one-run : (items most n : ℕ) (p q : Queue) (s : Queues) → n ≡ items - most → n ≤ 1
    → (if nat_lt most items then queues_after_run 1 p q s else s) ≡ queues_after_run n p q s
one-run items most n p q s e few =
    elim (cases_Bool (nat_lt most items)) [
      | inl h ↦ let more = ltb-true most items h in let one : n ≡ 1 = omega (arith, e, few, more) in rw h (ap (λ m. queues_after_run m p q s) (sym one))
      | inr h ↦ let less = ltb-false most items h in let none : n ≡ 0 = omega (arith, e, less) in rw h (sym (ap (λ m. queues_after_run m p q s) none ∙ run-none p q s))
    ]

commuted : (l d : ℕ) (s : Queues) → l ≤ length s.probation
    → queues_after_run d Protected Probation (queues_after_run l Probation Window s) ≡ queues_after_run l Probation Window (queues_after_run d Protected Probation s)
commuted l d s few = rw (drop-append-le l s.probation (take d s.protected) few, take-append-le l s.probation (take d s.protected) few) refl

-- of m items, those over one size and then those over a smaller one are those over the smaller one
joined : (m m1 m2 a b l1 l2 l : ℕ) → b ≤ a → l1 ≡ m - a → l2 ≡ m1 - b → m1 ≡ m - l1 → l ≡ m2 - b → m2 ≡ m → l1 + l2 ≡ l
joined m m1 m2 a b l1 l2 l less e1 e2 em el em2 = omega (arith, less, e1, e2, em, el, em2)

-- ---- growing

module _ (r : ClimbRules) (fits : r.largest ≤ r.capacity) where
  abbrev grown_to : ℕ → Queues → Queues
  grown_to z s = queues_after_growth (rules_at r z) s

  abbrev between : ℕ → Queues → Queues
  between z s = queues_after_demotions (rules_at r z) s

  abbrev demoted : ℕ → Queues → ℕ
  demoted z s = demoted_items (rules_at r z) s

  abbrev lent : ℕ → Queues → ℕ
  lent z s = lent_items (rules_at r z) (between z s)

  -- within its size nothing goes
  growth-none : (size : ℕ) (s : Queues) → size ≤ r.largest → IsWithin r size s → grown_to size s ≡ s
  growth-none size s high h =
      let none : demoted size s ≡ 0 = (let p = h.protected in omega (arith, p)) in
      let same : between size s ≡ s = ap (λ n. queues_after_run n Protected Probation s) none ∙ run-none Protected Probation s in
      let few : lent size s ≡ 0 =
      (let m = h.main in let a = first r size s in let b = a.probation in let c = a.protected in omega (arith, m, b, c, none)) in
      ap (λ n. queues_after_run n Probation Window (between size s)) few ∙ run-none Probation Window (between size s) ∙ same

  growth-once : (size : ℕ) (s : Queues) → size < r.largest → IsWithin r size s
      → loan (rules_at r (size + 1)) (demotion (rules_at r (size + 1)) s) ≡ grown_to (size + 1) s
  growth-once size s high h =
      let z : ℕ = size + 1 in
      let p = h.protected in
      let m = h.main in
      let a = first r z s in
      let b = a.probation in
      let c = a.protected in
      let exact = enough r z s fits (omega (arith, high)) in
      ap (loan (rules_at r z)) (one-run (length s.protected) (r.largest - z) (demoted z s) Protected Probation s refl (omega (arith, p)))
      ∙ one-run (main_length (between z s)) (r.capacity - z) (lent z s) Probation Window (between z s) exact (omega (arith, exact, b, c, m))

  main-kept : (z : ℕ) (s : Queues) → main_length (between z s) ≡ main_length s
  main-kept z s = let a = first r z s in let b = a.probation in let c = a.protected in omega (arith, b, c)

  -- growing in two parts is growing at once
  growth-more : (y z : ℕ) (s : Queues) → y ≤ z → z ≤ r.largest → grown_to z (grown_to y s) ≡ grown_to z s
  growth-more y z s less high =
      let u : Queues = grown_to y s in
      let t : Queues = between y s in
      let a = (first r y s).protected in
      let b = second r y s in
      let bp = b.probation in
      let br = b.protected in
      let few : lent y s ≤ length t.probation = omega arith in
      let down : demoted y s + demoted z u ≡ demoted z s = omega (arith, a, br, less) in
      let left : main_length u ≡ main_length t - lent y s = omega (arith, bp, br, few) in
      let up : lent y s + lent z u ≡ lent z s =
      joined (main_length t) (main_length (between z u)) (main_length (between z s)) (r.capacity - y) (r.capacity - z) (lent y s) (lent z u) (lent z s) (omega (arith, less))
      (enough r y s fits (omega (arith, less, high))) (enough r z u fits high) (main-kept z u ∙ left) (enough r z s fits high) (main-kept z s ∙ sym (main-kept y s)) in
      ap (queues_after_run (lent z u) Probation Window) (commuted (lent y s) (demoted z u) t few)
      ∙ run-more (lent y s) (lent z u) Probation Window (queues_after_run (demoted z u) Protected Probation t) (λ e. absurd (cc e))
      ∙ ap (λ n. queues_after_run n Probation Window (queues_after_run (demoted z u) Protected Probation t)) up
      ∙ ap (queues_after_run (lent z s) Probation Window) (run-more (demoted y s) (demoted z u) Protected Probation s (λ e. absurd (cc e)) ∙ ap (λ n. queues_after_run n Protected Probation s) down)

  -- ---- shrinking

  abbrev shrunk_to : ℕ → Queues → Queues
  shrunk_to z s = queues_after_shrinking (rules_at r z) s

  shrinking-none : (size : ℕ) (s : Queues) → IsWithin r size s → shrunk_to size s ≡ s
  shrinking-none size s h =
      let none : returned_items (rules_at r size) s ≡ 0 = (let w = h.window in omega (arith, w)) in
      ap (λ n. queues_after_run n Window Probation s) none ∙ run-none Window Probation s

  shrinking-once : (size : ℕ) (s : Queues) → IsWithin r size s → handing_back (rules_at r (size - 1)) s ≡ shrunk_to (size - 1) s
  shrinking-once size s h =
      let w = h.window in
      one-run (length s.window) (size - 1) (returned_items (rules_at r (size - 1)) s) Window Probation s refl (omega (arith, w))

  shrinking-more : (y z : ℕ) (s : Queues) → z ≤ y → shrunk_to z (shrunk_to y s) ≡ shrunk_to z s
  shrinking-more y z s less =
      let a = (back r y s).window in
      let sum : returned_items (rules_at r y) s + returned_items (rules_at r z) (shrunk_to y s) ≡ returned_items (rules_at r z) s = omega (arith, a, less) in
      run-more (returned_items (rules_at r y) s) (returned_items (rules_at r z) (shrunk_to y s)) Window Probation s (λ e. absurd (cc e))
      ∙ ap (λ n. queues_after_run n Window Probation s) sum

  -- ---- steps

  within : (z : ℕ) (s t : Queues) → IsResized r z s t → IsWithin r z t
  within z s t h = record { window = h.window; main = h.main; protected = h.protected }

  grown-steps : (n target : ℕ) (x : Sized) → x.size ≤ target → target ≤ r.largest → IsWithin r x.size x.queues
      → steps_towards n r target x ≡ record { size = min target (x.size + n); queues = grown_to (min target (x.size + n)) x.queues }
  unfolding steps_towards
  grown-steps zero target x less high h =
      let e : min target (x.size + 0) ≡ x.size = omega (arith, less) in
      sym (ap (λ z. let y : Sized = record { size = z; queues = grown_to z x.queues } in y) e
      ∙ ap (λ q. let y : Sized = record { size = x.size; queues = q } in y) (growth-none x.size x.queues (omega (arith, less, high)) h))
  grown-steps (suc n) target x less high h =
      elim (cases_Bool (nat_lt x.size target)) [
        | inl e ↦
            let more = ltb-true x.size target e in
            let once = growth-once x.size x.queues (omega (arith, more, high)) h in
            let next = within (x.size + 1) x.queues _ (grown r (x.size + 1) x.queues x.size fits (omega arith) (omega (arith, more, high)) h) in
            let same : min target (x.size + 1 + n) ≡ min target (x.size + suc n) = omega arith in
            rw e (ap (λ q. steps_towards n r target record { size = x.size + 1; queues = q }) once
            ∙ grown-steps n target record { size = x.size + 1; queues = grown_to (x.size + 1) x.queues } (omega (arith, more)) high next
            ∙ ap (λ z. let y : Sized = record { size = z; queues = grown_to z (grown_to (x.size + 1) x.queues) } in y) same
            ∙ ap (λ q. let y : Sized = record { size = min target (x.size + suc n); queues = q } in y) (growth-more (x.size + 1) (min target (x.size + suc n)) x.queues (omega (arith, more)) (omega (arith, high))))
        | inr e ↦
            let few = ltb-false x.size target e in
            let f : nat_lt target x.size ≡ false = le-ltb target x.size less in
            let same : min target (x.size + n) ≡ min target (x.size + suc n) = omega (arith, few) in
            rw (e, f) (grown-steps n target x less high h ∙ ap (λ z. let y : Sized = record { size = z; queues = grown_to z x.queues } in y) same)
      ]

  shrunk-steps : (n target : ℕ) (x : Sized) → target ≤ x.size → IsWithin r x.size x.queues
      → steps_towards n r target x ≡ record { size = max target (x.size - n); queues = shrunk_to (max target (x.size - n)) x.queues }
  unfolding steps_towards
  shrunk-steps zero target x less h =
      let e : max target (x.size - 0) ≡ x.size = omega (arith, less) in
      sym (ap (λ z. let y : Sized = record { size = z; queues = shrunk_to z x.queues } in y) e
      ∙ ap (λ q. let y : Sized = record { size = x.size; queues = q } in y) (shrinking-none x.size x.queues h))
  shrunk-steps (suc n) target x less h =
      let f : nat_lt x.size target ≡ false = le-ltb x.size target less in
      elim (cases_Bool (nat_lt target x.size)) [
        | inl e ↦
            let more = ltb-true target x.size e in
            let once = shrinking-once x.size x.queues h in
            let next = within (x.size - 1) x.queues _ (shrunk r (x.size - 1) x.queues x.size (omega (arith, more)) h) in
            let same : max target (x.size - 1 - n) ≡ max target (x.size - suc n) = omega arith in
            rw (f, e) (ap (λ q. steps_towards n r target record { size = x.size - 1; queues = q }) once
            ∙ shrunk-steps n target record { size = x.size - 1; queues = shrunk_to (x.size - 1) x.queues } (omega (arith, more)) next
            ∙ ap (λ z. let y : Sized = record { size = z; queues = shrunk_to z (shrunk_to (x.size - 1) x.queues) } in y) same
            ∙ ap (λ q. let y : Sized = record { size = max target (x.size - suc n); queues = q } in y) (shrinking-more (x.size - 1) (max target (x.size - suc n)) x.queues (omega (arith, more))))
        | inr e ↦
            let few = ltb-false target x.size e in
            let same : max target (x.size - n) ≡ max target (x.size - suc n) = omega (arith, few, less) in
            rw (f, e) (shrunk-steps n target x less h ∙ ap (λ z. let y : Sized = record { size = z; queues = shrunk_to z x.queues } in y) same)
      ]

pub changes_by_steps : ChangesBySteps
changes_by_steps r target x are high h =
    elim (cases_Bool (nat_lt x.size target)) [
      | inl e ↦ let more = ltb-true x.size target e in rw e (grown-steps r are.fits max_size_change target x (omega (arith, more)) high h)
      | inr e ↦
          let few = ltb-false x.size target e in
          let steps = shrunk-steps r are.fits max_size_change target x few h in
          rw e (elim (cases_Bool (nat_lt target x.size)) [
            | inl f ↦ rw f steps
            | inr f ↦
                let less = ltb-false target x.size f in
                let same : max target (x.size - max_size_change) ≡ x.size = omega (arith, few, less) in
                rw f (steps ∙ ap (λ q. let y : Sized = record { size = max target (x.size - max_size_change); queues = q } in y)
                (ap (λ z. queues_after_shrinking (rules_at r z) x.queues) same ∙ shrinking-none r are.fits x.size x.queues h))
          ])
    ]
