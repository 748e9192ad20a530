use Rattle.std.proofs.Common.{◌≡◌, ◌<◌, ◌↔◌, IsTrue, ℕ, Bool, true, false, List, [], ◌∷◌, length, slice_index_or, MatchBool, subst, sym, arith, rules, tests}
use Rattle.std.specs.List.{AllWithin, HoldsAt}
use Rattle.std.proofs.lemmas.Iterator.{cases_from_any, YieldsList-from_slice}
use Rattle.std.proofs.lemmas.List.{get_or_default}
use Rattle.step_record.specs.declared.job.Job.{Job}
use Rattle.step_record.specs.declared.job.Policy.{Policy}
use Rattle.sweeps.specs.Sweep.{AsksFor}
use Rattle.sweeps.proofs.prepared_trace.any_is_of.Goals as goal

abbrev Is : Policy → Job → Type 0
Is policy job = job.policy ≡ policy

abbrev IsNot : Policy → Job → Type 0
IsNot policy job = job.policy ≡ policy → ⊥

asks : (policy : Policy) (jobs : List Job) (r : Bool)
    → MatchBool r ((k : ℕ) × (k < length jobs) × HoldsAt (Is policy) jobs k) (AllWithin (IsNot policy) jobs 0 (length jobs)) → IsTrue r ↔ AsksFor policy jobs
asks policy [] true w = absurd (omega (arith, w.1))
asks policy (j ∷ js) true w =
    let d : Job = slice_index_or (j ∷ js) w.0 j in
    (λ t. (w.0, d, w.1, get_or_default (j ∷ js) w.0 d j w.1, w.2 j), λ a. search rules)
asks policy [] false h = (λ t. search rules, λ a. absurd (omega (arith, a.2)))
asks policy (j ∷ js) false h = (λ t. search rules, λ a. absurd (h a.0 a.1 (omega arith) a.2 (subst (Is policy) (sym a.3) a.4)))

pub returns : goal.returns
returns c =
    asks c.args.policy c.args.jobs.now c.any.result
    (cases_from_any _ _ _ (Is c.args.policy) (IsNot c.args.policy) c.any.ensures.ran (YieldsList-from_slice c.args.jobs.now cc) (λ x q k. search (rules, tests)) (λ x q k. search (rules, tests)))
