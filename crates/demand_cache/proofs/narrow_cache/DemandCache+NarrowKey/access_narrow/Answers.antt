use Rattle.std.proofs.lemmas.Bool.Decides.{nat_tests}
use Rattle.std.proofs.Common.{◌≡◌, ◌∙◌, ◌+◌, ◌-◌, ◌≤◌, ℕ, Result, Ok, Err, OnErr, List, length, take, drop, ap, arith}
use Rattle.std.proofs.lemmas.List.{length-map}
use Rattle.demand_cache.proofs.Accesses.{room-for-piece, piece-made, stopped-later}
use Rattle.demand_cache.proofs.narrow_cache.DemandCache+NarrowKey.access_narrow.Goals as goal

at_error : {T E P : Type 0} (r : Result T E) → P → OnErr r P
at_error (Ok v) h = tt
at_error (Err e) h = h

-- the keys of the names that were written are the next ones
next : (keys piece : List ℕ) (m size : ℕ) → piece ≡ take (m + size - m) (drop m keys) → piece ≡ take size (drop m keys)
next keys piece m size is =
    let same : m + size - m ≡ size = omega arith in
    is ∙ ap (λ n. take n (drop m keys)) same

pub access_all-requires : goal.access_all-requires
access_all-requires c =
    let is = next c.args.keys.now _ c.loop-made.made c.min.result (c.are_narrow.ensures.keys c.if-not-are_narrow.false) in
    let ends : c.loop-made.made + c.min.result ≤ length c.args.keys.now = grind (arith, nat_tests) in
    let room = room-for-piece c.args.keys.now _ c.loop-made.made c.min.result c.args.self.now c.loop-made.self c.loop-made.invariant.made is c.requires c.loop-made.invariant.within ends in
    omega (arith, room, length-map (take (length (take (c.loop-made.made + c.min.result - c.loop-made.made) (drop c.loop-made.made c.args.keys.now))) c.are_narrow.new.names) (λ k. k.key))

pub returns-in_err-access_all-clause-memory : goal.returns-in_err-access_all-clause-memory
returns-in_err-access_all-clause-memory c =
    let is = next c.args.keys.now _ c.loop-made.made c.min.result (c.are_narrow.ensures.keys c.if-not-are_narrow.false) in
    at_error c.from_residual.result
    (stopped-later c.args.keys.now _ c.loop-made.made c.min.result c.args.self.now c.loop-made.self c.loop-made.invariant.made is c.access_all.new.self c.in_err-access_all.ensures.memory)

pub loop-made-preserved : goal.loop-made-preserved
loop-made-preserved c =
    let is = next c.args.keys.now _ c.loop-made.made c.min.result (c.are_narrow.ensures.keys c.if-not-are_narrow.false) in
    record {
      within = grind (arith, nat_tests);
      made = piece-made c.args.keys.now _ c.loop-made.made c.min.result c.args.self.now c.loop-made.self c.loop-made.invariant.made is c.access_all.new.self c.in_ok-access_all.ensures.all;
    }
