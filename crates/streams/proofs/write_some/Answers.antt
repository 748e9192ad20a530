use Rattle.std.proofs.Common.{arith, rules, take, drop, length, ◌+◌, ◌-◌, ◌≡◌, List, ℕ, Option}
use Rattle.std.proofs.KnownBytes.{Appends-trans}
use Rattle.std.specs.Io.KnownBytes.{Appends}
use Rattle.std.proofs.Math.Seq.{take-add}
use Rattle.std.proofs.lemmas.Grind.{common_steps}
use Rattle.streams.proofs.Tallies.{refused}
use Rattle.streams.proofs.write_some.Goals as goal

-- the part up to k, and then c bytes of the rest
more : (old mid new : Option (List ℕ)) (k c : ℕ) (all rest : List ℕ) → rest ≡ drop k all
    → Appends old mid (take k all) → Appends mid new (take c rest) → Appends old new (take (k + c) all)
more old mid new k c all rest e a b =
    rw take-add (Appends-trans old mid new (take k all) (take c (drop k all)) a (rw e at b))

pub writes-preserved-in-Ok : goal.writes-preserved-in-Ok
writes-preserved-in-Ok g c =
    let rest : take (length c.args.bytes.now - c.writes.sent) (drop c.writes.sent c.args.bytes.now)
    ≡ drop c.writes.sent c.args.bytes.now = grind (arith, common_steps) in
    record {
      within = search arith;
      sent = more _ _ _ c.writes.sent c.in-Ok.count c.args.bytes.now _ rest c.writes.invariant.sent
          c.in-Ok.ensures.bytes;
      counted = c.writes.invariant.counted;
      spent = search (rules, arith);
    }

pub returns-then-not-allows-clause-exhausted : goal.returns-then-not-allows-clause-exhausted
returns-then-not-allows-clause-exhausted g c =
    refused _ _ _ _ _ _ c.writes.invariant.spent c.in-Err.ensures.counted (c.allows.ensures.refused c.if-not-allows.true)
