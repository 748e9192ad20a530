-- One stripe is written.
use Rattle.std.proofs.lemmas.Bool.Decides.{nat_tests}
use Rattle.std.proofs.Common.{arith, ◌≡◌, ℕ, ◌<◌, List, length, get_or, set, map}
use Rattle.std.proofs.lemmas.List.{map-set, get_or-map, length-map}
use Rattle.arrayvec.specs.ArrayVec.{ArrayVec}
use Rattle.shell_model.specs.Buffers.{Item, stripe_at, items_of}

module _ (buffers : List (ArrayVec Item)) (s : ℕ) (old new : ArrayVec Item) (shown : List (List Item)) (view : map items_of buffers ≡ shown) (h : s < length shown) (e : old ≡ get_or buffers s old) where
  -- what a stripe shows
  pub shown-at : items_of old ≡ stripe_at s shown
  shown-at = grind (arith, nat_tests, get_or-map items_of buffers s old, length-map buffers items_of)

  -- the buffer of a stripe is replaced by one that holds f of its items
  pub written : (f : List Item → List Item) → items_of new ≡ f (items_of old) → map items_of (set buffers s new) ≡ set shown s (f (stripe_at s shown))
  written f w = grind (arith, nat_tests, map-set items_of buffers s new, shown-at)
