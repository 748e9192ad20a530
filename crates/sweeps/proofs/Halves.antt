-- Runs of several jobs, and of parts of them.
use Rattle.std.proofs.Common.{◌≡◌, ◌∙◌, ℕ, List, ◌++◌, map, take, drop, Result, Ok, Err, ap, sym, subst, refl}
use Rattle.std.specs.Prelude.{OnOk}
use Rattle.std.specs.List.{All}
use Rattle.std.proofs.lemmas.List.{map-append}
use Rattle.std.proofs.lemmas.List.Elements.{All-append, All-drop, All-take}
use Rattle.sweeps.specs.Runs.{HaveRun}
use Rattle.sweeps.specs.Taking.{Job, Task}

module _ {R : Type 0} (job_of : R → Job) (Has : ℕ → List ℕ → ℕ → R → Type 0) where
  -- what some of the runs have
  abbrev pub part : Task → List R → Task
  part task runs = record { jobs = map job_of runs; every = task.every }

  pub front : (task : Task) (trace : List ℕ) (n mid : ℕ) (runs some : List R) → some ≡ take mid runs
      → HaveRun job_of Has task trace n runs → HaveRun job_of Has (part task some) trace n some
  front task trace n mid runs some is have = record { jobs = refl; each = subst (All (Has task.every trace n)) (sym is) (All-take (Has task.every trace n) mid runs have.each) }

  pub back : (task : Task) (trace : List ℕ) (n mid : ℕ) (runs some : List R) → some ≡ drop mid runs
      → HaveRun job_of Has task trace n runs → HaveRun job_of Has (part task some) trace n some
  back task trace n mid runs some is have = record { jobs = refl; each = subst (All (Has task.every trace n)) (sym is) (All-drop (Has task.every trace n) mid runs have.each) }

  -- and what all have
  pub whole : {T E : Type 0} (r : Result T E) (task : Task) (trace : List ℕ) (m : ℕ) (xs ys zs ws : List R) → map job_of (xs ++ ys) ≡ task.jobs
      → OnOk r (HaveRun job_of Has (part task xs) trace m zs) → OnOk r (HaveRun job_of Has (part task ys) trace m ws)
      → OnOk r (HaveRun job_of Has task trace m (zs ++ ws))
  whole (Err e) task trace m xs ys zs ws same one other = tt
  whole (Ok v) task trace m xs ys zs ws same one other = record {
    jobs = map-append job_of zs ws ∙ ap (λ (l : List Job). l ++ map job_of ws) one.jobs ∙ ap (λ (l : List Job). map job_of xs ++ l) other.jobs
        ∙ sym (map-append job_of xs ys) ∙ same;
    each = All-append (Has task.every trace m) zs ws one.each other.each;
  }

-- what holds of every result
pub on-success : {T E A : Type 0} (r : Result T E) → A → OnOk r A
on-success (Ok v) a = a
on-success (Err e) a = tt
