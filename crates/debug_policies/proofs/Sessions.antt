-- A session over a policy, whose applied steps are the first accesses of a trace.
use Rattle.std.proofs.Common.{◌≡◌, ◌∙◌, ◌≤◌, ◌<◌, ◌+◌, ℕ, zero, suc, Some, List, [], ◌∷◌, ◌++◌, Result, Ok, Err, length, take, get_or, refl, ap, sym, subst, arith, length-append, append-nil, append_assoc, drop}
use Rattle.std.specs.Prelude.{slice_get, slice_index, slice_index_or, IfOk, OnErr}
use Rattle.std.specs.declared.alloc.AllocError.{AllocError}
use Rattle.std.proofs.lemmas.List.{take_more, take-append-drop, take-append-le}
use Rattle.engine_base.specs.History.{data_after, next_data, IsLegal}
use Rattle.journal.specs.Session.{Entry, SessionState, IsMovedTo}
use Rattle.engine_base.specs.declared.outcome.Outcome.TheVariants.{Kept}
use Rattle.policies.specs.AnyPolicy.{Outcome, Job, HasAccessed, outcomes_on}
use Rattle.policies.specs.AnyStep.{any_act}
use Rattle.policies.specs.Theorems.{AnyAnswers, AnyStepLaw}
use Rattle.debug_policies.specs.OnePolicy.{AnyPolicy, outcome_at, steps_of, IsPolicyAt}
use Rattle.policy_comparison.proofs.Walked.{moves, outcome-is, stands-in}

abbrev State : Type 0
State = SessionState AnyPolicy AnyPolicy ℕ Outcome

steps_append : (es fs : List (Entry ℕ Outcome)) → steps_of (es ++ fs) ≡ steps_of es ++ steps_of fs
steps_append [] fs = refl
steps_append (e ∷ es) fs = ap (λ t. e.step ∷ t) (steps_append es fs)

steps_take : (n : ℕ) (es : List (Entry ℕ Outcome)) → steps_of (take n es) ≡ take n (steps_of es)
steps_take zero es = refl
steps_take (suc n) [] = refl
steps_take (suc n) (e ∷ es) = ap (λ t. e.step ∷ t) (steps_take n es)

-- nothing that the trace goes by differs
pub unmoved : (j : Job) (trace : List ℕ) (old new : State) → IsPolicyAt j trace old → new.kept ≡ old.kept → new.engine ≡ old.engine
    → new.opening ≡ old.opening → new.limit ≡ old.limit → IsPolicyAt j trace new
unmoved j trace old new is kept engine opening limit = record {
  checked = is.checked;
  opening = subst (HasAccessed j trace []) (sym opening) is.opening;
  limit = limit ∙ is.limit;
  steps = subst (λ es. steps_of es ≡ take (length es) trace) (sym kept) is.steps;
  within = subst (λ (es : List (Entry ℕ Outcome)). length es ≤ length trace) (sym kept) is.within;
  few = is.few;
  stands = subst (λ (es : List (Entry ℕ Outcome)). HasAccessed j trace (take (length es) trace) new.engine) (sym kept)
      (subst (HasAccessed j trace (take (length old.kept) trace)) (sym engine) is.stands);
}

-- the next access was made
pub one_more : AnyStepLaw → (j : Job) (trace keys : List ℕ) (old new : State) (key : ℕ) (o : Outcome) → IsPolicyAt j trace old → keys ≡ trace
    → length old.kept < length keys → key ≡ slice_index keys (length old.kept) → any_act old.engine key ≡ Some (o, new.engine)
    → new.kept ≡ old.kept ++ record { step = key; reply = o } ∷ [] → new.opening ≡ old.opening → new.limit ≡ old.limit → IsPolicyAt j trace new
one_more law j trace keys old new key o is same lt key_is made kept opening limit =
    let n : ℕ = length old.kept in
    let long : length new.kept ≡ n + 1 = ap length kept ∙ length-append old.kept (record { step = key; reply = o } ∷ []) in
    let below : n < length trace = subst (λ (l : List ℕ). n < length l) same lt in
    let at : key ≡ get_or trace n 0 = key_is ∙ ap (λ l. slice_index l n) same in
    let next : steps_of new.kept ≡ take (n + 1) trace =
    ap steps_of kept ∙ steps_append old.kept (record { step = key; reply = o } ∷ []) ∙ ap (λ l. l ++ key ∷ []) is.steps
    ∙ ap (λ k. take n trace ++ k ∷ []) at ∙ sym (take_more trace n 0 below) in
    record {
      checked = is.checked;
      opening = subst (HasAccessed j trace []) (sym opening) is.opening;
      limit = limit ∙ is.limit;
      steps = next ∙ ap (λ k. take k trace) (sym long);
      within = omega (arith, long, below);
      few = is.few;
      stands = subst (λ k. HasAccessed j trace (take k trace) new.engine) (sym long) (moves trace n key (stands-in trace n key below at) law j old.engine o new.engine is.stands made);
    }

-- the next access was made, or nothing was done
pub after_step : AnyStepLaw → (r : Result Outcome AllocError) (j : Job) (trace keys : List ℕ) (old new : State) (key : ℕ) → IsPolicyAt j trace old → keys ≡ trace
    → length old.kept < length keys → key ≡ slice_index keys (length old.kept) → IfOk r (λ o. any_act old.engine key ≡ Some (o, new.engine))
    → IfOk r (λ o. new.kept ≡ old.kept ++ record { step = key; reply = o } ∷ [])
    → OnErr r ((new.kept ≡ old.kept) × (new.engine ≡ old.engine)) → new.opening ≡ old.opening → new.limit ≡ old.limit → IsPolicyAt j trace new
after_step law (Ok o) j trace keys old new key is same lt key_is made kept err opening limit =
    one_more law j trace keys old new key o is same lt key_is made kept opening limit
after_step law (Err e) j trace keys old new key is same lt key_is made kept err opening limit =
    unmoved j trace old new is err.0 err.1 opening limit

-- its outcome is that of the trace
pub answered : AnyAnswers → (r : Result Outcome AllocError) (j : Job) (trace keys : List ℕ) (i : ℕ) (d e : AnyPolicy) (key : ℕ) → keys ≡ trace
    → i < length keys → HasAccessed j trace (take i trace) d → key ≡ slice_index keys i → IfOk r (λ o. any_act d key ≡ Some (o, e))
    → IfOk r (λ o. o ≡ outcome_at j trace (i + 1))
answered law (Err x) j trace keys i d e key same lt s key_is h = tt
answered law (Ok o) j trace keys i d e key same lt s key_is h =
    let below : i < length trace = subst (λ (l : List ℕ). i < length l) same lt in
    let at : key ≡ slice_index trace i = key_is ∙ ap (λ l. slice_index l i) same in
    let on : suc i ≡ i + 1 = omega arith in
    outcome-is trace i key (stands-in trace i key below at) law j d o e s h ∙ ap (outcome_at j trace) on

-- ---- going back

stands_after : AnyStepLaw → (j : Job) (trace keys : List ℕ) (x : AnyPolicy) (es : List (Entry ℕ Outcome)) → HasAccessed j trace keys x → IsLegal any_act x es
    → HasAccessed j trace (keys ++ steps_of es) (data_after any_act x es)
stands_after law j trace keys x [] s legal = subst (λ l. HasAccessed j trace l x) (sym (append-nil keys)) s
stands_after law j trace keys x (e ∷ es) s legal =
    let y : AnyPolicy = next_data (any_act x e.step) x in
    subst (λ l. HasAccessed j trace l (data_after any_act y es)) (append_assoc keys (e.step ∷ []) (steps_of es))
    (stands_after law j trace (keys ++ e.step ∷ []) y es (law j trace keys x e.step e.reply y s legal.0) legal.1)

take_take : {A : Type 0} (n m : ℕ) (xs : List A) → n ≤ m → take n (take m xs) ≡ take n xs
take_take zero m xs le = refl
take_take (suc n) zero xs le = absurd (omega arith)
take_take (suc n) (suc m) [] le = refl
take_take (suc n) (suc m) (x ∷ xs) le = ap (λ t. x ∷ t) (take_take n m xs (omega arith))

pub moved : AnyStepLaw → (j : Job) (trace : List ℕ) (n : ℕ) (old new : State) → IsPolicyAt j trace old → IsMovedTo n old new → n ≤ length old.kept
    → IsLegal any_act new.opening new.kept → new.engine ≡ data_after any_act new.opening new.kept → IsPolicyAt j trace new
moved law j trace n old new is to le legal shows =
    let kept : new.kept ≡ take n old.kept = to.kept ∙ take-append-le n old.kept old.tail le in
    let opening : HasAccessed j trace [] new.opening = subst (HasAccessed j trace []) (sym to.opening) is.opening in
    let steps : steps_of new.kept ≡ take n trace =
    ap steps_of kept ∙ steps_take n old.kept ∙ ap (take n) is.steps ∙ take_take n (length old.kept) trace le in
    let after_them : HasAccessed j trace (steps_of new.kept) (data_after any_act new.opening new.kept) =
    stands_after law j trace [] new.opening new.kept opening legal in
    record {
      checked = is.checked;
      opening = opening;
      limit = to.limit ∙ is.limit;
      steps = steps ∙ ap (λ k. take k trace) (sym to.applied);
      within = omega (arith, to.applied, le, is.within);
      few = is.few;
      stands = subst (λ k. HasAccessed j trace (take k trace) new.engine) (sym to.applied)
          (subst (λ l. HasAccessed j trace l new.engine) steps (subst (HasAccessed j trace (steps_of new.kept)) (sym shows) after_them));
    }

-- ---- the replies of the applied steps

replies : AnyStepLaw → AnyAnswers → (j : Job) (trace keys rest : List ℕ) (x : AnyPolicy) (es : List (Entry ℕ Outcome)) (i : ℕ) (e : Entry ℕ Outcome)
    → HasAccessed j trace keys x → IsLegal any_act x es → trace ≡ keys ++ (steps_of es ++ rest) → slice_get es i ≡ Some e
    → e.reply ≡ slice_index_or (outcomes_on j trace) (length keys + i) Kept
replies law answers j trace keys rest x [] i e s legal whole at = absurd (cc at)
replies law answers j trace keys rest x (f ∷ es) zero e s legal whole at =
    let same : f ≡ e = cc at in
    let y : AnyPolicy = next_data (any_act x f.step) x in
    let none : length keys ≡ length keys + 0 = omega arith in
    ap (λ (v : Entry ℕ Outcome). v.reply) (sym same)
    ∙ answers j trace keys (steps_of es ++ rest) f.step x f.reply y Kept whole s legal.0
    ∙ ap (λ k. slice_index_or (outcomes_on j trace) k Kept) none
replies law answers j trace keys rest x (f ∷ es) (suc i) e s legal whole at =
    let y : AnyPolicy = next_data (any_act x f.step) x in
    let long : length (keys ++ f.step ∷ []) + i ≡ length keys + suc i =
    let l : length (keys ++ f.step ∷ []) ≡ length keys + 1 = length-append keys (f.step ∷ []) in omega (arith, l) in
    replies law answers j trace (keys ++ f.step ∷ []) rest y es i e (law j trace keys x f.step f.reply y s legal.0) legal.1
    (whole ∙ sym (append_assoc keys (f.step ∷ []) (steps_of es ++ rest))) at
    ∙ ap (λ k. slice_index_or (outcomes_on j trace) k Kept) long

-- that of an applied step is the outcome of the trace's access
pub kept_reply : AnyStepLaw → AnyAnswers → (j : Job) (trace : List ℕ) (s : State) → IsPolicyAt j trace s → IsLegal any_act s.opening s.kept
    → (i : ℕ) (e : Entry ℕ Outcome) → slice_get s.kept i ≡ Some e → e.reply ≡ outcome_at j trace (suc i)
kept_reply law answers j trace s is legal i e at =
    let n : ℕ = length s.kept in
    let none : 0 + i ≡ i = omega arith in
    replies law answers j trace [] (drop n trace) s.opening s.kept i e is.opening legal
    (sym (ap (λ l. l ++ drop n trace) is.steps ∙ take-append-drop n trace)) at
    ∙ ap (λ k. slice_index_or (outcomes_on j trace) k Kept) none
