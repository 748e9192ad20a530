use Rattle.std.proofs.Common.{◌≡◌, ◌≤◌, ◌<◌, get_or, length, List, ℕ, Result, sym, subst}
use Rattle.std.specs.Prelude.{MatchResult}
use Rattle.std.proofs.lemmas.List.Sorted.{searched}
use Rattle.clairvoyant.specs.Keys.{IsAscendingKeys}
use Rattle.clairvoyant.proofs.NextAccesses.{missed, rising, touched, untouched}
use Rattle.clairvoyant.proofs.clairvoyant.renumber.Goals as goal

abbrev Found : (l : List ℕ) (x : ℕ) → Result ℕ ℕ → Type 0
Found l x r =
    MatchResult r (λ i. (i < length l) × (get_or l i 0 ≡ x))
    (λ i. (i ≤ length l) × ((k : ℕ) → k < i → get_or l k 0 < x) × ((k : ℕ) → i ≤ k → k < length l → x < get_or l k 0))

pub returns-in-Ok : goal.returns-in-Ok
returns-in-Ok c =
    let keys : List ℕ = c.args.keys.now in
    let x : ℕ = c.args.key in
    let i : ℕ = c.in-Ok.i in
    let found = subst (Found keys x) c.in-Ok.is (searched keys x c.binary_search.result c.binary_search.ensures.position (rising keys c.requires.ascending)) in
    touched x c.args.number i c.args.next.now.items (subst IsAscendingKeys (sym c.requires.keys) c.requires.ascending)
    (subst (λ (l : List ℕ). i < length l) (sym c.requires.keys) found.0) (subst (λ (l : List ℕ). get_or l i 0 ≡ x) (sym c.requires.keys) found.1)

pub returns-in_default : goal.returns-in_default
returns-in_default c =
    let keys : List ℕ = c.args.keys.now in
    let x : ℕ = c.args.key in
    let found = subst (Found keys x) c.in_default.is (searched keys x c.binary_search.result c.binary_search.ensures.position (rising keys c.requires.ascending)) in
    sym (untouched x c.args.number c.args.next.now.items
    (subst (λ (l : List ℕ). (k : ℕ) → k < length l → get_or l k 0 ≡ x → ⊥) (sym c.requires.keys) (missed keys x c.in_default.field-0 found.1 found.2)))
