-- Several jobs at the same capacities.
use Rattle.std.proofs.Common.{◌≡◌, ℕ, zero, suc, ◌+◌, ◌*◌, ◌<◌, ◌≤◌, min, Bool, true, false, if◌then◌else◌, ⊎_elim, Option, Some, None, Ok, List, [], ◌∷◌, ◌++◌, length, map, take, slice_index_or, get_or, ap, ◌∙◌, sym, refl, arith, append-nil, append_assoc}
use Rattle.std.proofs.lemmas.Bool.{cases_lt}
use Rattle.std.proofs.lemmas.List.{take_more, map-append}
use Rattle.std.proofs.lemmas.List.Elements.{All-append}
use Rattle.std.proofs.Math.Nat.{mul-suc}
use Rattle.std.specs.Option.{option_or}
use Rattle.engine_base.specs.Config.{config_fault}
use Rattle.policies.specs.declared.actor_fault.ActorFault.{ActorFault}
use Rattle.policies.specs.FaultyJobs.{Job, at_capacity, faulty_in}
use Rattle.policies.specs.Reports.{report_on}
use Rattle.policies.proofs.Accepted.{accepted}
use Rattle.sweeps.specs.Sweep.{AreAccepted, first_config_fault, gated_jobs, is_gated_policy, jobs_over, sweep_fault}

-- ---- one job

twice : {A B C : Type 0} (f : A → B) (g : B → C) (xs : List A) → map g (map f xs) ≡ map (λ x. g (f x)) xs
twice f g [] = refl
twice f g (x ∷ xs) = ap (λ t. g (f x) ∷ t) (twice f g xs)

pub one-reports : (j : Job) (cs trace : List ℕ) → map (λ k. report_on k trace) (jobs_over (j ∷ []) cs) ≡ map (λ c. report_on (at_capacity j c) trace) cs
one-reports j cs trace = ap (map (λ k. report_on k trace)) (append-nil (map (at_capacity j) cs)) ∙ twice (at_capacity j) (λ k. report_on k trace) cs

or-none : (o : Option ActorFault) → option_or o None ≡ o
or-none None = refl
or-none (Some f) = refl

-- jobs without a fault at the capacities are accepted at each of them
or-parts : (o rest : Option ActorFault) → option_or o rest ≡ None → (o ≡ None) × (rest ≡ None)
or-parts None rest e = (refl, e)
or-parts (Some f) rest e = absurd (cc e)

pub rows_accepted : (jobs : List Job) (cs : List ℕ) → first_config_fault jobs cs ≡ None → AreAccepted (jobs_over jobs cs)
rows_accepted [] cs e = λ k d lt. absurd (omega (arith, lt))
rows_accepted (j ∷ js) cs e =
    let parts = or-parts (faulty_in (map (at_capacity j) cs)) (first_config_fault js cs) e in
    All-append (λ (k : Job). config_fault k.config ≡ Ok tt) (map (at_capacity j) cs) (jobs_over js cs) (λ k d lt. accepted 0 (map (at_capacity j) cs) k d parts.0 lt) (rows_accepted js cs parts.1)

pub one-fault : (j : Job) (cs : List ℕ) → sweep_fault (j ∷ []) cs ≡ faulty_in (map (at_capacity j) cs)
one-fault j cs = or-none (faulty_in (map (at_capacity j) cs))

-- ---- one job more

pub more-rows : (jobs : List Job) (cs : List ℕ) (d : Job) (i : ℕ) → i < length jobs
    → jobs_over (take (i + 1) jobs) cs ≡ jobs_over (take i jobs) cs ++ map (at_capacity (slice_index_or jobs i d)) cs
more-rows [] cs d i lt = absurd (omega arith)
more-rows (j ∷ js) cs d zero lt = append-nil (map (at_capacity j) cs)
more-rows (j ∷ js) cs d (suc i) lt =
    let e : suc i + 1 ≡ suc (i + 1) = omega arith in
    rw e (ap (λ t. map (at_capacity j) cs ++ t) (more-rows js cs d i (omega arith)) ∙ sym (append_assoc (map (at_capacity j) cs) (jobs_over (take i js) cs) (map (at_capacity (slice_index_or js i d)) cs)))

-- ---- one capacity more

pub one-row : (j : Job) (cs : List ℕ) (old rows new : List Job) (row : Job) (i : ℕ) → i < length cs → rows ≡ old ++ map (at_capacity j) (take i cs) → row ≡ at_capacity j (get_or cs i 0) → new ≡ rows ++ row ∷ [] → new ≡ old ++ map (at_capacity j) (take (i + 1) cs)
one-row j cs old rows new row i lt so is added =
    added ∙ (ap (λ (l : List Job). l ++ row ∷ []) so ∙ (ap (λ (x : Job). (old ++ map (at_capacity j) (take i cs)) ++ x ∷ []) is
    ∙ (append_assoc old (map (at_capacity j) (take i cs)) (at_capacity j (get_or cs i 0) ∷ [])
    ∙ ap (λ (l : List Job). old ++ l) (sym (ap (map (at_capacity j)) (take_more cs i 0 lt) ∙ map-append (at_capacity j) (take i cs) (get_or cs i 0 ∷ []))))))

-- ---- the batches of a sweep

pub more-gated : (jobs : List Job) (d : Job) (i : ℕ) → i < length jobs
    → gated_jobs (take (i + 1) jobs) ≡ gated_jobs (take i jobs) + (if is_gated_policy (slice_index_or jobs i d).policy then 1 else 0)
more-gated [] d i lt = absurd (omega arith)
more-gated (j ∷ js) d zero lt = omega arith
more-gated (j ∷ js) d (suc i) lt =
    let e : suc i + 1 ≡ suc (i + 1) = omega arith in
    let more = more-gated js d i (omega arith) in
    rw e (omega (arith, more))

-- what two products that stop at a limit come to
pub saturated : (a e m : ℕ) → min (min a m * e) m ≡ min (a * e) m
saturated a zero m = omega arith
saturated a (suc e) m = ⊎_elim
    (λ (gt : m < a). let same : min a m ≡ m = omega arith in rw same (omega (arith, mul-suc m e, mul-suc a e)))
    (λ (le : a ≤ m). let same : min a m ≡ a = omega arith in ap (λ (n : ℕ). min (n * suc e) m) same)
    (cases_lt m a)

pub one-at-most : (b : Bool) → (if b then 1 else 0) ≤ 1
one-at-most true = omega arith
one-at-most false = omega arith
