use Rattle.std.proofs.Common.{◌≡◌, ◌≤◌, ◌+◌, ◌-◌, length, drop}
use Rattle.streams.specs.Cuts.{byte_place}
use Rattle.streams.proofs.separators.place_of.Given as goal

abbrev pub invariant-bytes : goal.invariant-bytes
invariant-bytes l =
    (l.place ≤ length l.text) × (byte_place l.byte l.text ≡ l.place + byte_place l.byte (drop l.place l.text))

abbrev pub decreases-bytes : goal.decreases-bytes
decreases-bytes l = length l.text - l.place
