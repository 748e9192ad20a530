-- What the threads were started with.
use Rattle.std.specs.Prelude.{List, map, Option}
pub use Rattle.std.specs.declared.thread.PromisedHandle.{PromisedHandle}
pub use Rattle.step_record.specs.declared.job.Job.{Job}
pub use Rattle.policies.specs.declared.report.Report.{Report}
pub use Rattle.policy_actors.specs.declared.run.Promised.{Promised}

abbrev pub jobs_of : {S : Type 0} → List (PromisedHandle (Option Report) (Promised S)) → List Job
jobs_of hs = map (λ h. h.promise.job) hs
