use Rattle.std.proofs.Common.{◌≡◌, ◌++◌, ◌∙◌, OnOk, List, ℕ, ap, sym, subst, append_assoc}
use Rattle.queue_table.specs.QueueTable.{queues}
use Rattle.queue_table.specs.Tabled.{keys_of}
use Rattle.policy_pages.specs.PolicyPage.{keys_with}
use Rattle.demand_cache.specs.DemandCache.{DemandState}
use Rattle.demand_cache.specs.DemandQueues.{queues_residents}
use Rattle.demand_cache.proofs.Keeping.{pages-sound, residents-shown}
use Rattle.demand_cache.proofs.Engine.{state-shown}
use Rattle.demand_cache.proofs.demand_cache.DemandCache.add_residents.Goals as goal

pub resident_queues-first-requires : goal.resident_queues-first-requires
resident_queues-first-requires c = (queues c.self.inside.queues, (state-shown pages-sound c.self.inside.policy c.self.inside.capacity c.self.inside.own_number (queues c.self.inside.queues) c.tabled.ensures c.self.invariant.least c.self.invariant.queues).0)

pub returns-in-None : goal.returns-in-None
returns-in-None c =
    let s = queues c.self.inside.queues in
    let first = c.resident_queues-first.result.0 in
    let shown = residents-shown c.self.inside.policy c.self.inside.capacity c.self.inside.own_number s c.tabled.ensures c.resident_queues-first.result c.resident_queues-first.ensures.is in
    c.in_ok-add_keys.ensures ∙ ap (λ l. c.args.keys.now.items ++ l) (sym (shown ∙ ap (λ q. keys_with (keys_of (s first)) q s) c.in-None.is) ∙ ap (λ (d : DemandState). queues_residents d.queues) c.self.view_is)

pub returns-in-Some : goal.returns-in-Some
returns-in-Some c =
    let s = queues c.self.inside.queues in
    let first = c.resident_queues-first.result.0 in
    let shown = residents-shown c.self.inside.policy c.self.inside.capacity c.self.inside.own_number s c.tabled.ensures c.resident_queues-first.result c.resident_queues-first.ensures.is in
    subst (λ (l : List ℕ). OnOk c.add_keys-in-Some.result (c.add_keys-in-Some.new.keys.items ≡ l))
    (ap (λ l. l ++ keys_of (s c.in-Some.second)) c.in_ok-add_keys.ensures ∙ append_assoc c.args.keys.now.items (keys_of (s first)) (keys_of (s c.in-Some.second))
    ∙ ap (λ l. c.args.keys.now.items ++ l) (sym (shown ∙ ap (λ q. keys_with (keys_of (s first)) q s) c.in-Some.is) ∙ ap (λ (d : DemandState). queues_residents d.queues) c.self.view_is))
    c.add_keys-in-Some.ensures
