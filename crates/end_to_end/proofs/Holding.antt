-- What the undo records of a session hold, by the halvings of its frequency.
use Rattle.std.proofs.Common.{◌≡◌, ℕ, ◌+◌, ◌-◌, ◌*◌, ◌/◌, ◌≤◌, Some, ap, sym, ◌∙◌, arith, subst}
use Rattle.engine_base.specs.Pace.{Pace}
use Rattle.admission.specs.Frequency.{FrequencyData, halving_words}
use Rattle.queue_cache.specs.QueueCache.{QueueState}
use Rattle.queue_cache.specs.QueueStep.{pace_by, queue_pace}
use Rattle.journal.specs.Session.{HoldsFew}

pub held-by-halvings : (opening now : QueueState) (kept words : ℕ) (f g : FrequencyData) → HoldsFew (queue_pace opening) (queue_pace now) kept words
    → opening.frequency ≡ Some f → now.frequency ≡ Some g
    → (words ≡ (g.halvings - f.halvings) * halving_words f) × (g.halvings - f.halvings ≤ 1 + kept / (5 * f.capacity))
held-by-halvings opening now kept words f g h a b =
    let old : queue_pace opening ≡ pace_by (Some f) = ap pace_by a in
    let new : queue_pace now ≡ pace_by (Some g) = ap pace_by b in
    let rose : g.halvings ≡ f.halvings + h.halved = sym (ap (λ (p : Pace). p.halvings) new) ∙ (h.rose ∙ ap (λ (p : Pace). p.halvings + h.halved) old) in
    let held : words ≡ h.halved * halving_words f = h.held ∙ ap (λ (p : Pace). h.halved * p.words) old in
    let few : h.halved ≤ 1 + kept / (5 * f.capacity) = subst (λ (p : Pace). h.halved ≤ 1 + kept / p.period) old h.few in
    let since : g.halvings - f.halvings ≡ h.halved = omega (arith, rose) in
    (rw since held, rw since few)
