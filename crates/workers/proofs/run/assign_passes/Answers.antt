use Rattle.std.proofs.lemmas.Grind.{common_steps}
use Rattle.std.proofs.Common.{rules, ◌≡◌, ◌∷◌, ap, length, arith}
use Rattle.std.specs.Vec.Iter.{into_iter_items}
use Rattle.workers.proofs.WorkerLists.{counts_more, length_snoc}
use Rattle.workers.proofs.run.assign_passes.Goals as goal

pub loop-pass-preserved : goal.loop-pass-preserved
loop-pass-preserved c =
    let i = c.loop-pass.invariant in
    let rest : into_iter_items c.loop-pass.pass-iterator ≡ c.in-Some.pass ∷ into_iter_items c.next.new.self = search rules in
    let added = c.push_reserved.ensures.items in
    let len = length_snoc _ _ _ added in
    let left = ap length rest in
    let total = i.total in
    let worker = c.unwrap-worker.result in
    let few = c.requires.few in
    let count = c.len.ensures in
    let ok = c.loop-pass.states.ok.0 in
    let named : worker ≡ length c.loop-pass.states.items = search rules in
    record {
      passes = grind (arith, common_steps);
      counts = counts_more _ _ _ added i.counts named;
      total = omega arith;
      room = search rules;
    }

pub loop-pass-init : goal.loop-pass-init
loop-pass-init c = grind (arith, common_steps)
