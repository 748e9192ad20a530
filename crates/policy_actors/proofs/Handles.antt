-- The handles of the actors that were started.
use Rattle.std.proofs.Common.{◌≡◌, ◌++◌, ◌∷◌, [], List, Option, Result, Ok, Err, IfOk, IsOk, ap, ◌∙◌}
use Rattle.std.proofs.lemmas.List.{map-append}
use Rattle.policy_actors.specs.Actors.{Promised, Report, Job, PromisedHandle, jobs_of}

-- one more was started, with this promise
pub one_more : {S E : Type 0} (started : Result (PromisedHandle (Option Report) (Promised S)) E) (old new : List (PromisedHandle (Option Report) (Promised S))) (promised : Promised S) (jobs : List Job)
    → IsOk started → IfOk started (λ h. h.promise ≡ promised) → IfOk started (λ h. new ≡ old ++ h ∷ []) → jobs_of old ≡ jobs → jobs_of new ≡ jobs ++ promised.job ∷ []
one_more (Ok h) old new promised jobs some is pushed before =
    ap jobs_of pushed ∙ map-append (λ h. h.promise.job) old (h ∷ []) ∙ ap (λ (js : List Job). js ++ h.promise.job ∷ []) before ∙ ap (λ p. jobs ++ p.job ∷ []) is
one_more (Err e) old new promised jobs some is pushed before = absurd (cc some)
