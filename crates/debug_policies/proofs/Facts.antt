-- What two policies show together.
use Rattle.std.proofs.Common.{◌≡◌, ◌≢◌, ◌∙◌, ◌<◌, ◌+◌, ℕ, zero, suc, Bool, true, false, Option, Some, None, Result, Ok, Err, List, [], ◌∷◌, ◌++◌, ◌≤◌, eqb, length, get_or, refl, ap, sym, subst, arith}
use Rattle.std.specs.Prelude.{codes, if◌then◌else◌, is_err, is_ok, OnOk, OnErr, IfSome, IfErr}
use Rattle.std.proofs.lemmas.Bool.{ne_eqb}
use Rattle.streams.specs.Part.{AppendsPart}
use Rattle.engine_base.specs.declared.outcome.Outcome.TheVariants.{Kept}
use Rattle.engine_base.specs.Stats.{is_hit}
use Rattle.debug_commands.specs.Dialogue.{dialogue_of, WritesDialogue}
use Rattle.debug_commands.specs.Timeline.{TimelineData}
use Rattle.debug_commands.specs.declared.fault.DebugFault.TheVariants as debug
use Rattle.policies.specs.FaultyJobs.{Job, ConfigFault, config_or}
use Rattle.debug_policies.specs.ConfigFault.{DebugFault, ReturnsConfig, UntouchedAtConfig}
use Rattle.debug_policies.specs.OnePolicy.{Outcome, OnePolicyState}
use Rattle.policy_comparison.specs.Part.{IsPart}
use Rattle.debug_policies.specs.TwoPolicies.{access_line, first_parting, just_one, last_lines, outcome_lines, IsPartWalk}
use Rattle.streams.proofs.Results.{at_success}
use Rattle.policy_comparison.proofs.Texts.{piece}

-- ---- what both add to a text

pub both_added : {E : Type 0} (r : Result (Unit {0}) E) (f g : Job → List ℕ → ℕ → List ℕ) (one other : OnePolicyState) (before mid last : List ℕ) → IsPartWalk one other
    → mid ≡ before ++ f one.job one.trace one.at → OnOk r (last ≡ mid ++ g other.job other.trace other.at)
    → OnOk r (last ≡ before ++ (f one.job one.trace one.at ++ g other.job one.trace one.at))
both_added r f g one other before mid last is first second =
    let a : List ℕ = f one.job one.trace one.at in
    let b : List ℕ = g other.job one.trace one.at in
    let there : g other.job other.trace other.at ≡ b = ap (λ x. g other.job x other.at) is.trace ∙ ap (g other.job one.trace) is.together in
    at_success r (last ≡ mid ++ g other.job other.trace other.at) (last ≡ before ++ (a ++ b))
    (λ k. piece before mid last a b first (k ∙ ap (λ x. mid ++ x) there)) second

-- ---- the access that led to a position

pub last_is_none : {E : Type 0} (r : Result (Unit {0}) E) (trace : List ℕ) (first second : Job) (n : ℕ) (text last : List ℕ) → n ≡ 0
    → last ≡ (if is_ok r then text ++ codes "access none\n" else text) → OnOk r (last ≡ text ++ last_lines trace first second n)
last_is_none (Err e) trace first second n text last none h = tt
last_is_none (Ok u) trace first second zero text last none h = h
last_is_none (Ok u) trace first second (suc m) text last none h = absurd (omega (arith, none))

pub last_is_made : {E : Type 0} (r : Result (Unit {0}) E) (trace : List ℕ) (first second : Job) (n : ℕ) (text mid last : List ℕ) → 1 ≤ n
    → mid ≡ text ++ access_line trace n → OnOk r (last ≡ mid ++ outcome_lines trace first second n)
    → OnOk r (last ≡ text ++ last_lines trace first second n)
last_is_made (Err e) trace first second n text mid last made front back = tt
last_is_made (Ok u) trace first second n text mid last made front back =
    let some : eqb n 0 ≡ false = ne_eqb n 0 (λ none. omega (arith, made, none)) in
    subst (λ b. last ≡ text ++ (if b then codes "access none\n" else access_line trace n ++ outcome_lines trace first second n)) (sym some)
    (piece text mid last (access_line trace n) (outcome_lines trace first second n) front back)

-- ---- where they part

differs : (a b : Bool) → a ≢ b → just_one a b ≡ true
differs true true h = absurd (h refl)
differs true false h = refl
differs false true h = refl
differs false false h = absurd (h refl)

agrees : (a b : Bool) → a ≡ b → just_one a b ≡ false
agrees true true h = refl
agrees true false h = absurd (cc h)
agrees false true h = absurd (cc h)
agrees false false h = refl

abbrev hit_at : List Outcome → ℕ → Bool
hit_at os i = is_hit (get_or os i Kept)

never : (n : ℕ) (os ps : List Outcome) → ((i : ℕ) → hit_at os i ≡ hit_at ps i) → first_parting n os ps ≡ None
never n [] ps h = refl
never n (o ∷ os) [] h = refl
never n (o ∷ os) (p ∷ ps) h = rw (agrees (is_hit o) (is_hit p) (h 0)) (never (n + 1) os ps (λ i. h (suc i)))

found : (n i : ℕ) (os ps : List Outcome) → length os ≡ length ps → hit_at os i ≢ hit_at ps i → ((m : ℕ) → m < i → hit_at os m ≡ hit_at ps m)
    → first_parting n os ps ≡ Some (n + i)
found n i [] [] long here below = absurd (here refl)
found n i [] (p ∷ ps) long here below = absurd (omega (arith, long))
found n i (o ∷ os) [] long here below = absurd (omega (arith, long))
found n zero (o ∷ os) (p ∷ ps) long here below =
    let none : n ≡ n + 0 = omega arith in
    rw (differs (is_hit o) (is_hit p) here) (ap Some none)
found n (suc i) (o ∷ os) (p ∷ ps) long here below =
    let next : n + 1 + i ≡ n + suc i = omega arith in
    rw (agrees (is_hit o) (is_hit p) (below 0 (omega arith)))
    (found (n + 1) i os ps (omega (arith, long)) here (λ m lt. below (suc m) (omega (arith, lt))) ∙ ap Some next)

pub part_is : (os ps : List Outcome) (r : Option ℕ) → length os ≡ length ps → IsPart os ps r → r ≡ first_parting 1 os ps
part_is os ps None long h = sym (never 1 os ps (λ i. h (suc i)))
part_is os ps (Some zero) long h = absurd (h.0 refl)
part_is os ps (Some (suc i)) long h =
    let next : 1 + i ≡ suc i = omega arith in
    sym (found 1 i os ps long h.0 (λ m lt. h.1 (suc m) (omega (arith, lt))) ∙ ap Some next)

-- ---- the debugger

pub written_held : (known : Option (List ℕ)) (t u : TimelineData) (n : ℕ) (fits : Bool) (had has : Option (List ℕ)) (at : ℕ) → t ≡ u → n ≡ 0
    → IfSome known (λ bytes. WritesDialogue (dialogue_of t n bytes) fits had has at)
    → IfSome known (λ bytes. (x : ℕ) × WritesDialogue (dialogue_of u 0 bytes) fits had has x)
written_held None t u n fits had has at same start h = tt
written_held (Some xs) t u n fits had has at same start h =
    (at, subst (λ k. WritesDialogue (dialogue_of u k xs) fits had has at) start (subst (λ x. WritesDialogue (dialogue_of x n xs) fits had has at) same h))

pub done_held : (r : Result (Unit {0}) DebugFault) (known : Option (List ℕ)) (t u : TimelineData) (n : ℕ) (fits : Bool) (had has : Option (List ℕ)) (at : ℕ) → t ≡ u
    → n ≡ 0 → OnOk r (IfSome known (λ bytes. WritesDialogue (dialogue_of t n bytes) fits had has at))
    → OnOk r (IfSome known (λ bytes. (x : ℕ) × WritesDialogue (dialogue_of u 0 bytes) fits had has x))
done_held (Ok x) known t u n fits had has at same start h = written_held known t u n fits had has at same start h
done_held (Err e) known t u n fits had has at same start h = tt

-- so a beginning of it
pub part_held : (r : Result (Unit {0}) DebugFault) (known : Option (List ℕ)) (t u : TimelineData) (n : ℕ) (had has : Option (List ℕ)) → t ≡ u → n ≡ 0
    → OnErr r (IfSome known (λ bytes. AppendsPart had has (dialogue_of t n bytes).text)) → OnErr r (IfSome known (λ bytes. AppendsPart had has (dialogue_of u 0 bytes).text))
part_held r known t u n had has same start h =
    subst (λ k. OnErr r (IfSome known (λ bytes. AppendsPart had has (dialogue_of u k bytes).text))) start
    (subst (λ x. OnErr r (IfSome known (λ bytes. AppendsPart had has (dialogue_of x n bytes).text))) same h)

-- a configuration that is not refused
pub no_fault : (r : Result (Unit {0}) ConfigFault) → is_err r ≡ false → r ≡ Ok tt
no_fault (Ok u) h = refl
no_fault (Err e) h = absurd (cc h)

pub accepted : (a b : Result (Unit {0}) ConfigFault) (r : Result (Unit {0}) DebugFault) → a ≡ Ok tt → b ≡ Ok tt
    → ((i : ℕ) → r ≡ Err (debug.Config i) → ⊥) → ReturnsConfig (config_or a 0 (config_or b 1 None)) r
accepted (Ok u) (Ok v) r e h none = none
accepted (Err x) b r e h none = absurd (cc e)
accepted (Ok u) (Err x) r e h none = absurd (cc h)

pub untouched : (A B : Type 0) (r : Result (Unit {0}) DebugFault) → ((i : ℕ) → r ≡ Err (debug.Config i) → ⊥) → IfErr r (UntouchedAtConfig A B)
untouched A B (Ok u) none = tt
untouched A B (Err debug.OutOfMemory) none = tt
untouched A B (Err debug.Read) none = tt
untouched A B (Err debug.Write) none = tt
untouched A B (Err debug.TooLarge) none = tt
untouched A B (Err (debug.Config i)) none = absurd (none i refl)
