-- ARC: which key leaves, and the ways of a key that no ghost remembers.
use Rattle.std.proofs.Common.{◌≡◌, ℕ, ◌+◌, ◌*◌, ◌<◌, ◌≤◌, Bool, true, false, ◌⊎◌, List, ◌∷◌, length, arith}
use Rattle.std.proofs.lemmas.Bool.{cond_both, ltb-true, ltb-false, eqb-true, eqb-false}
use Rattle.std.proofs.lemmas.Bool.Decides.{nat_tests}
use Rattle.policy_pages.proofs.CountedKeys.{by-oldest}
use Rattle.policy_pages.specs.Arc.{ArcState, arc_total, oldest_forgotten, OfB1, OfB2, oldest_leaver, ToB1, ToB2, Dropped, arc_replace, plan_of_new_key, ArcLeaver, ArcPlan, NoLeaver, NoGhost, NoneForgotten}

-- the five ways of a key that no ghost remembers
pub new-cases : (c : ℕ) (s : ArcState) (P : ArcPlan → Type 0)
    → (length s.t1 + length s.b1 ≡ c → length s.t1 < c → P record { recalls = NoGhost; forgets = oldest_forgotten OfB1 s.b1; leaver = arc_replace false s.p s })
    → (length s.t1 + length s.b1 ≡ c → c ≤ length s.t1 → P record { recalls = NoGhost; forgets = NoneForgotten; leaver = oldest_leaver Dropped s.t1 })
    → ((length s.t1 + length s.b1 ≡ c → ⊥) → arc_total s < c → P record { recalls = NoGhost; forgets = NoneForgotten; leaver = NoLeaver })
    → ((length s.t1 + length s.b1 ≡ c → ⊥) → c ≤ arc_total s → arc_total s ≡ 2 * c → P record { recalls = NoGhost; forgets = oldest_forgotten OfB2 s.b2; leaver = arc_replace false s.p s })
    → ((length s.t1 + length s.b1 ≡ c → ⊥) → c ≤ arc_total s → (arc_total s ≡ 2 * c → ⊥) → P record { recalls = NoGhost; forgets = NoneForgotten; leaver = arc_replace false s.p s })
    → P (plan_of_new_key c s)
new-cases c s P drops_b1 drops_t1 joins drops_b2 replaces =
    grind (arith, nat_tests, cond_both, eqb-true, ltb-true, ltb-false, eqb-false)

-- In a full cache the oldest of t1 leaves, or that of t2, which has one where t1 has none, or not over p.
pub replace-cases : (in_b2 : Bool) (c p : ℕ) (s : ArcState) (P : ArcLeaver → Type 0) → 1 ≤ c → length s.t1 + length s.t2 ≡ c → p ≤ c → (in_b2 ≡ true) ⊎ (length s.t1 < c)
    → ((v : ℕ) (l : List ℕ) → s.t1 ≡ v ∷ l → P (ToB1 v)) → ((v : ℕ) (l : List ℕ) → s.t2 ≡ v ∷ l → P (ToB2 v)) → P (arc_replace in_b2 p s)
replace-cases in_b2 c p s P h full fits case to_b1 to_b2 = grind (arith, nat_tests, by-oldest, cond_both)
