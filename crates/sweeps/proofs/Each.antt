-- What is made of each of several runs, one behind another.
use Rattle.std.proofs.Common.{◌≡◌, ◌∙◌, ℕ, ◌+◌, ◌<◌, List, [], ◌∷◌, ◌++◌, length, map, take, get_or, ap, sym, subst, arith, append-nil}
use Rattle.std.specs.List.{flat_map}
use Rattle.std.proofs.lemmas.Grind.{flat_map-append}
use Rattle.std.proofs.lemmas.List.{get_or-map, length-map, map-append, take_more}
use Rattle.sweeps.specs.Runs.{HaveRun}
use Rattle.sweeps.specs.Taking.{Job, Task}

module _ {R : Type 0} (job_of : R → Job) (Has : ℕ → List ℕ → ℕ → R → Type 0) (task : Task) (trace : List ℕ) (n : ℕ) (runs : List R)
    (have : HaveRun job_of Has task trace n runs) where
  pub same-length : length task.jobs ≡ length runs
  same-length = ap (λ (l : List Job). length l) (sym have.jobs) ∙ length-map runs job_of

  -- one of the runs
  module _ (i : ℕ) (run : R) (lt : i < length runs) (is : run ≡ get_or runs i run) where
    pub has-at : Has task.every trace n run
    has-at = subst (Has task.every trace n) (sym is) (have.each i run lt)

    job-at : job_of run ≡ get_or task.jobs i (job_of run)
    job-at = ap job_of is ∙ sym (get_or-map job_of runs i run (job_of run) lt) ∙ ap (λ (l : List Job). get_or l i (job_of run)) have.jobs

    jobs-more : take (i + 1) task.jobs ≡ take i task.jobs ++ job_of run ∷ []
    jobs-more = take_more task.jobs i (job_of run) (omega (arith, lt, same-length)) ∙ ap (λ (j : Job). take i task.jobs ++ j ∷ []) (sym job-at)

    pub map-more : {Y : Type 0} (f : Job → Y) (old new : List Y) → old ≡ map f (take i task.jobs) → new ≡ old ++ f (job_of run) ∷ []
        → new ≡ map f (take (i + 1) task.jobs)
    map-more {Y} f old new so adds =
        adds ∙ ap (λ (l : List Y). l ++ f (job_of run) ∷ []) so
        ∙ sym (ap (map f) jobs-more ∙ map-append f (take i task.jobs) (job_of run ∷ []))

    pub flat-more : {Y : Type 0} (f : Job → List Y) (old new : List Y) → old ≡ flat_map f (take i task.jobs) → new ≡ old ++ f (job_of run)
        → new ≡ flat_map f (take (i + 1) task.jobs)
    flat-more {Y} f old new so adds =
        adds ∙ ap (λ (l : List Y). l ++ f (job_of run)) so ∙ ap (λ (l : List Y). flat_map f (take i task.jobs) ++ l) (sym (append-nil (f (job_of run))))
        ∙ sym (ap (flat_map f) jobs-more ∙ flat_map-append f (take i task.jobs) (job_of run ∷ []))
