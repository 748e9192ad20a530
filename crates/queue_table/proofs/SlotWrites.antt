-- What a write to one slot leaves.
use Rattle.std.proofs.Common.{◌≡◌, ◌<◌, ℕ, suc, zero, List, [], ◌∷◌, length, map, get_or, set, refl, ap, sym, ◌∙◌, arith}
use Rattle.queue_table.specs.Ring.{Slot, ChangesOnlyLinks}

-- the slot that stands for one past the last
abbrev pub no_slot : Slot
no_slot = record { item = record { key = 0; node = 0 }; older = 0; newer = 0; queue = 0; count = 0 }

-- a field of the slots as they are shown: of one that was written, of all where it stays, and of one that is read

pub shown-set : {X Y : Type 0} (shown : X → Slot) (f : Slot → Y) (s : List X) (i : ℕ) (x : X) → map f (map shown (set s i x)) ≡ set (map f (map shown s)) i (f (shown x))
shown-set shown f [] i x = refl
shown-set shown f (y ∷ s) zero x = refl
shown-set shown f (y ∷ s) (suc i) x = ap (λ t. f (shown y) ∷ t) (shown-set shown f s i x)

pub shown-kept : {X Y : Type 0} (shown : X → Slot) (f : Slot → Y) (s : List X) (i : ℕ) (x d : X) → f (shown x) ≡ f (shown (get_or s i d)) → map f (map shown (set s i x)) ≡ map f (map shown s)
shown-kept shown f [] i x d h = refl
shown-kept shown f (y ∷ s) zero x d h = rw h refl
shown-kept shown f (y ∷ s) (suc i) x d h = ap (λ t. f (shown y) ∷ t) (shown-kept shown f s i x d h)

pub shown-at : {X Y : Type 0} (shown : X → Slot) (f : Slot → Y) (s : List X) (i : ℕ) (x : X) (d : Y) → i < length (map shown s) → x ≡ get_or s i x → get_or (map f (map shown s)) i d ≡ f (shown x)
shown-at shown f [] i x d within is = absurd (omega (arith, within))
shown-at shown f (y ∷ s) zero x d within is = ap (λ z. f (shown z)) (sym is)
shown-at shown f (y ∷ s) (suc i) x d within is = shown-at shown f s i x d (omega (arith, within)) is

-- changes of the same fields, one after the other
pub links-then : (a b c : List Slot) → ChangesOnlyLinks a b → ChangesOnlyLinks b c → ChangesOnlyLinks a c
links-then a b c x y = record { entries = y.entries ∙ x.entries; tags = y.tags ∙ x.tags }
