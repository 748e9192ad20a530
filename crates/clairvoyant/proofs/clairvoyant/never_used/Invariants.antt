use Rattle.std.proofs.Common.{◌≡◌, map, take}
use Rattle.segments.specs.NamedQueue.{numbered_key}
use Rattle.clairvoyant.proofs.clairvoyant.never_used.Given as goal

abbrev pub invariant-loop-key : goal.invariant-loop-key
invariant-loop-key l = l.next.items ≡ map (λ k. numbered_key k 0) (take l.key-index l.keys)
