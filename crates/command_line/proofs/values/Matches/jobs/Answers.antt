use Rattle.std.proofs.Common.{◌≡◌, Some}
use Rattle.std.specs.Borrow.{Bor}
use Rattle.clap.specs.Words.{Text}
use Rattle.command_line.specs.Accepted.{Config, IsAcceptedJob, IsConfig, IsTuning, Job, Tuning}
use Rattle.command_line.specs.PolicyWords.{job_named}
use Rattle.command_line.proofs.Naming.{answered, each}
use Rattle.command_line.proofs.values.Matches.jobs.Goals as goal

accepted : (config : Config) (tuning : Tuning) → IsConfig config → IsTuning tuning → (job : Job)
    → (word : Bor Text) × ((Some job ≡ job_named config tuning word.now) × (IsConfig config → IsTuning tuning → IsAcceptedJob job)) → IsAcceptedJob job
accepted config tuning is are job given = given.1.1 is are

pub returns : goal.returns
returns c =
    let config = c.args.config.now in
    let tuning = c.args.tuning.now in
    answered _ _ c.named.result (c.named.ensures.named (job_named config tuning) (λ word thing h. h.0))
    (each _ IsAcceptedJob (accepted config tuning c.requires.config c.requires.tuning) c.named.result c.named.ensures.each)
