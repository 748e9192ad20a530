use Rattle.std.proofs.Common.{◌≡◌, ◌∷◌, [], map, take}
use Rattle.std.specs.Fmt.{decimal}
use Rattle.csv.specs.Records.{fields_of, partial_of}
use Rattle.step_record.specs.Job.{name_of}
use Rattle.report.proofs.rows.push_fields.Given as goal

abbrev pub invariant-loop-number : goal.invariant-loop-number
invariant-loop-number l = (fields_of l.row ≡ name_of l.report.policy l.report.sizes ∷ map decimal (take l.number-index l.numbers)) × (partial_of l.row ≡ [])
