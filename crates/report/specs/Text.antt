-- The text of reports: comma-separated lines, of which each ends in a line feed.
use Rattle.std.specs.Prelude.{ℕ, ◌/◌, ◌%◌, List, [], ◌∷◌, ◌++◌, codes, map}
use Rattle.std.specs.List.{flat_map, join_with_byte}
use Rattle.std.specs.Fmt.{decimal}
use Rattle.step_record.specs.Job.{name_of}
use Rattle.policies.specs.Reports.{rate_of}
pub use Rattle.policies.specs.declared.report.Report.{Report}

-- `16.66`
unfoldable pub rate_text_of : ℕ → List ℕ
rate_text_of n = decimal (n / 100) ++ (codes "." ++ (decimal (n % 100 / 10) ++ decimal (n % 10)))

-- the fields, between commas (44), and a line feed
unfoldable pub line_text : List (List ℕ) → List ℕ
line_text fields = join_with_byte 44 fields ++ codes "\n"

-- what the report's policy is called, some numbers, and its rate
abbrev pub row_fields : Report → List ℕ → List (List ℕ)
row_fields r numbers = name_of r.policy r.sizes ∷ (map decimal numbers ++ rate_text_of (rate_of r) ∷ [])

abbrev pub report_header : List ℕ
report_header = codes "policy,capacity,accesses,hits,misses,evictions,rejections,rate\n"

abbrev pub report_line : Report → List ℕ
report_line r = line_text (row_fields r
    (r.capacity ∷ r.accesses ∷ r.hits ∷ r.misses ∷ r.evictions ∷ r.rejections ∷ []))

unfoldable pub reports_text : List Report → List ℕ
reports_text reports = report_header ++ flat_map report_line reports
