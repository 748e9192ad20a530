-- An eviction that was carried out by its plan is the definition's.
use Rattle.std.proofs.Common.{◌≡◌, Bool, Option, Some, option_map, ap, subst, sym, ◌∙◌}
use Rattle.engine_base.specs.declared.drain.Phase.TheVariants.{Evictions}
use Rattle.segments.specs.Queues.{Queues, IsDistinct}
use Rattle.replacement.specs.Table.{Outcome, Item, Response}
use Rattle.replacement.specs.Rules.{three_queues}
use Rattle.replacement.specs.Plan.{candidate_of}
use Rattle.replacement.specs.PlanMoves.{queues_after, response_of_plan, moves_of, leaver_in}
use Rattle.shell_model.specs.Shell.{Moves, Reply, Shell, in_phase, reply_by, unlisted_by, evicted_by, evict_effect, leaves_table, planned_change, evict_change}
use Rattle.shell_model.specs.declared.holder.Holder.{Holder}
use Rattle.shell_model.specs.declared.record.Change.{Change}
use Rattle.shell_model.specs.declared.record.Change.TheVariants.{Evicted}
use Rattle.replacement.proofs.Planned.{evicts-first, evictions_planned}
use Rattle.replacement.proofs.Leaving.{leaver-of}
use Rattle.shell_model.specs.Frequency.{admits}
use Rattle.shell_model.specs.Changes.{shell_eviction, shell_after_eviction}
use Rattle.shell_model.proofs.Evicting.{evictions-by-plan}
use Rattle.maintenance.specs.EvictionPlan.{Rules, planned}

abbrev item_left : Moves → Option Item
item_left m = option_map (λ l. l.item) (leaver_in m)

-- the record shows what leaves by the plan
leaver-is : (r : Rules) (x : Shell) → leaver_in (moves_of (planned r x.frequency x.queues) x.queues) ≡ (planned r x.frequency x.queues).leaves
leaver-is r x = leaver-of (planned r x.frequency x.queues) x.queues (evicts-first r (admits x.frequency) x.queues)

eviction-on : (x : Shell) (h : Holder) (c : Item) (r : Rules) (o : Outcome) (m : Moves) (b : Bool) → IsDistinct x.queues
    → r ≡ three_queues x.config
    → Some c ≡ candidate_of (three_queues x.config) x.queues
    → m ≡ moves_of (planned r x.frequency x.queues) x.queues
    → o ≡ (planned r x.frequency x.queues).outcome
    → b ≡ leaves_table (leaver_in m) x.table
    → ◌≡◌ {A = Reply × Change} (reply_by o (item_left m) c, Evicted h.phase record { moves = m; listed = b }) ((evict_effect x).0, evict_change h x)
eviction-on x h c r o m b d hr hc hm ho hb =
    let p = planned (three_queues x.config) x.frequency x.queues in
    let e : evict_effect x ≡ evicted_by (Some c) (response_of_plan p x.queues) x =
    evictions-by-plan x d ∙ ap (λ (k : Option Item). evicted_by k (response_of_plan p x.queues) x) (sym hc) in
    rw (hb, hm, ho, hr, leaver-is (three_queues x.config) x)
    (ap (λ (k : Option Item). (reply_by p.outcome (option_map (λ l. l.item) p.leaves) c, planned_change h k p x)) hc
    ∙ ap (λ (q : Reply). (q, evict_change h x)) (sym (ap (λ (q : Reply × Shell). q.0) e)))

-- an eviction with a candidate, of a shell that is in its phase
pub eviction-is : (x z : Shell) (h : Holder) (c : Item) (r : Rules) (o : Outcome) (m : Moves) (b : Bool) → z ≡ in_phase Evictions x → IsDistinct z.queues
    → r ≡ three_queues z.config
    → Some c ≡ candidate_of (three_queues z.config) z.queues
    → m ≡ moves_of (planned r z.frequency z.queues) z.queues
    → o ≡ (planned r z.frequency z.queues).outcome
    → b ≡ leaves_table (leaver_in m) z.table
    → ◌≡◌ {A = Reply × Change} (reply_by o (item_left m) c, Evicted h.phase record { moves = m; listed = b }) ((evict_effect x).0, evict_change h x)
eviction-is x z h c r o m b e d hr hc hm ho hb =
    eviction-on x h c r o m b (subst (λ (y : Shell). IsDistinct y.queues) e d) (rw e at hr) (rw e at hc) (rw e at hm) (rw e at ho) (rw e at hb)

-- and what it leaves
pub eviction-leaves : (x : Shell) (r : Rules) (m : Moves) (q : Queues) → IsDistinct x.queues
    → r ≡ three_queues x.config
    → q ≡ queues_after (planned r x.frequency x.queues) x.queues
    → m ≡ moves_of (planned r x.frequency x.queues) x.queues
    → record x { queues = q; table = unlisted_by (item_left m) x.table } ≡ shell_after_eviction (shell_eviction x) x
eviction-leaves x r m q d hr hq hm =
    let p = planned (three_queues x.config) x.frequency x.queues in
    rw (hq, hm, hr, leaver-is (three_queues x.config) x)
    (ap (λ (y : Response). shell_after_eviction y x) (sym (evictions_planned (three_queues x.config) (admits x.frequency) x.queues d)))
