-- What recording keys does to estimates without a doorkeeper.
use Rattle.std.proofs.Common.{◌≡◌, ℕ, ◌+◌, ◌/◌, ◌≤◌, min, true, false, cond, eqb, List, [], ◌∷◌, ap, subst, ◌∙◌, sym, refl, arith, inl, inr}
use Rattle.std.proofs.lemmas.Bool.Decides.{nat_tests}
use Rattle.std.proofs.lemmas.Bool.{cases_Bool}
use Rattle.sketch.specs.Sketch.{Table, touched_table, halved_table, least_counter}
use Rattle.sketch.proofs.Undoing.{touched_is, halved_is}
use Rattle.admission.specs.Doorkeeper.{Door, is_in_door, emptied_door}
use Rattle.admission.specs.Frequency.{FrequencyData, marked, noted, ages, halves, frequency_with, frequency_from, estimate}
use Rattle.admission_laws.specs.Exact.{records_of}
use Rattle.admission_laws.specs.Theorems.{IsOpenFrequency, brings_halving, OpenEstimatesRise, OpenEstimatesCount}
use Rattle.admission_laws.proofs.Known.{count-cons}
use Rattle.admission_laws.proofs.Rising.{touched-own, touched-other, halved-least}

-- a doorkeeper of no bits has every key, and no halving gives it bits
open-has : (d : Door) (key : ℕ) → d.bits ≡ [] → is_in_door d key ≡ true
open-has d key none = rw none refl

still-none : (d : Door) → d.size ≡ 0 → (emptied_door d).bits ≡ []
still-none d none = rw none refl

-- a key is estimated 1 above its least counter
estimate-is : (f : FrequencyData) (key : ℕ) → f.door.bits ≡ [] → estimate key f ≡ least_counter key f.table + 1
estimate-is f key none = rw (open-has f.door key none) refl

module _ (f : FrequencyData) (is : IsOpenFrequency f) (key : ℕ) where
  abbrev after : FrequencyData
  after = frequency_with key f

  touched : (marked key f).table ≡ touched_table key f.table
  touched = rw (open-has f.door key is.bits) refl

  same-door : (marked key f).door ≡ f.door
  same-door = rw (open-has f.door key is.bits) refl

  -- with no halving
  goes-on : brings_halving key f ≡ false → (after.table ≡ (marked key f).table) × (after.door ≡ (marked key f).door)
  goes-on h = elim (cases_Bool (ages key f)) [
    | inl a ↦ (let n : halves f ≡ false = rw a at h in rw (a, n) (refl, refl))
    | inr a ↦ rw a (refl, refl)
  ]

  halves-it : brings_halving key f ≡ true → (after.table ≡ halved_table (marked key f).table) × (after.door ≡ emptied_door (marked key f).door) × (after.halvings ≡ f.halvings + 1)
  halves-it h = elim (cases_Bool (ages key f)) [
    | inl a ↦ (let y : halves f ≡ true = rw a at h in rw (a, y) (refl, refl, refl))
    | inr a ↦ absurd (let no : false ≡ true = rw a at h in cc no)
  ]

  least-after : brings_halving key f ≡ false → (other : ℕ) → estimate other after ≡ least_counter other (touched_table key f.table) + 1
  least-after h other =
      let p = goes-on h in
      estimate-is after other (ap (λ (d : Door). d.bits) (p.1 ∙ same-door) ∙ is.bits)
      ∙ ap (λ (t : Table). least_counter other t + 1) (p.0 ∙ touched)

  own : brings_halving key f ≡ false → estimate key after ≡ min 16 (estimate key f + 1)
  own h =
      let now = estimate-is f key is.bits in
      let then = least-after h key in
      let up = touched-own f.table is.table key in
      omega (arith, now, then, up)

  others : brings_halving key f ≡ false → (other : ℕ) → estimate other f ≤ estimate other after
  others h other =
      let now = estimate-is f other is.bits in
      let then = least-after h other in
      let up = touched-other f.table is.table key other in
      omega (arith, now, then, up)

  none-left : (emptied_door (marked key f).door).bits ≡ []
  none-left = still-none (marked key f).door (ap (λ (d : Door). d.size) same-door ∙ is.size)

  halved : brings_halving key f ≡ true → (other : ℕ) → estimate other after ≡ least_counter other (noted key f).table / 2 + 1
  halved h other =
      let p = halves-it h in
      estimate-is after other (ap (λ (d : Door). d.bits) p.1 ∙ none-left)
      ∙ ap (λ (t : Table). least_counter other t + 1) (p.0 ∙ ap halved_table touched)
      ∙ ap (λ n. n + 1) (halved-least (touched_table key f.table) (touched_is f.table is.table key) other)
      ∙ ap (λ (t : Table). least_counter other t / 2 + 1) (sym touched)

  stays : IsOpenFrequency after
  stays = elim (cases_Bool (brings_halving key f)) [
    | inl h ↦ (let p = halves-it h in record {
      table = rw (p.0, touched) (halved_is (touched_table key f.table) (touched_is f.table is.table key));
      size = ap (λ (d : Door). d.size) (p.1 ∙ ap emptied_door same-door) ∙ is.size;
      bits = ap (λ (d : Door). d.bits) p.1 ∙ none-left;
    })
    | inr h ↦ (let p = goes-on h in record {
      table = rw (p.0, touched) (touched_is f.table is.table key);
      size = ap (λ (d : Door). d.size) (p.1 ∙ same-door) ∙ is.size;
      bits = ap (λ (d : Door). d.bits) (p.1 ∙ same-door) ∙ is.bits;
    })
  ]

pub open_rise : OpenEstimatesRise
open_rise = record {
  own = λ f key is h. own f is key h;
  others = λ f key other is h. others f is key h other;
  halved = λ f key other is h. halved f is key h other;
  stays = λ f key is. stays f is key;
}

halvings-rise : (k : ℕ) (f : FrequencyData) → f.halvings ≤ (frequency_with k f).halvings
halvings-rise k f = grind (arith, nat_tests)

halvings-from : (f : FrequencyData) (keys : List ℕ) → f.halvings ≤ (frequency_from f keys).halvings
halvings-from f [] = omega arith
halvings-from f (k ∷ keys) =
    let first = halvings-rise k f in
    let rest = halvings-from (frequency_with k f) keys in
    omega (arith, first, rest)

-- a key's own records raise its estimate, and no other lowers it
step : (key k r a b : ℕ) → (k ≡ key → b ≡ min 16 (a + 1)) → a ≤ b → min 16 (a + (cond (eqb key k) 1 0 + r)) ≤ min 16 (b + r)
step key k r a b own others = grind (arith, nat_tests)

pub open_count : OpenEstimatesCount
open_count f [] key is same = omega arith
open_count f (k ∷ keys) key is same =
    let g : FrequencyData = frequency_with k f in
    let first : f.halvings ≤ g.halvings = halvings-rise k f in
    let rest : g.halvings ≤ (frequency_from g keys).halvings = halvings-from g keys in
    let still : brings_halving k f ≡ false = (elim (cases_Bool (brings_halving k f)) [
      | inl h ↦ absurd (let one : g.halvings ≡ f.halvings + 1 = (halves-it f is k h).2 in omega (arith, one, rest, same))
      | inr h ↦ h
    ]) in
    let on : (frequency_from g keys).halvings ≡ g.halvings = omega (arith, first, rest, same) in
    let more : min 16 (estimate key g + records_of key keys) ≤ estimate key (frequency_from g keys) = open_count g keys key (stays f is k) on in
    let up : min 16 (estimate key f + (cond (eqb key k) 1 0 + records_of key keys)) ≤ min 16 (estimate key g + records_of key keys) =
    step key k (records_of key keys) (estimate key f) (estimate key g)
    (λ e. subst (λ q. estimate q g ≡ min 16 (estimate q f + 1)) e (own f is k still))
    (others f is k still key) in
    rw (count-cons (eqb key) k keys) (omega (arith, more, up))
