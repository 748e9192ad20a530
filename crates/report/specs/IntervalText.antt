-- The text of intervals: comma-separated lines, of which each ends in a line feed.
use Rattle.std.specs.Prelude.{ℕ, List, [], ◌∷◌, ◌++◌, codes}
use Rattle.std.specs.List.{flat_map}
use Rattle.policies.specs.declared.report.Interval.{Interval}
use Rattle.report.specs.Text.{line_text, row_fields}

abbrev pub interval_header : List ℕ
interval_header = codes "policy,capacity,first,last,hits,misses,evictions,rejections,rate\n"

-- the numbers of an interval's line, between its name and its rate
abbrev pub interval_numbers : Interval → List ℕ
interval_numbers i = i.report.capacity ∷ i.first ∷ i.last
    ∷ i.report.hits ∷ i.report.misses ∷ i.report.evictions ∷ i.report.rejections ∷ []

-- the rate is of the interval
abbrev pub interval_fields : Interval → List (List ℕ)
interval_fields i = row_fields i.report (interval_numbers i)

abbrev pub interval_line : Interval → List ℕ
interval_line i = line_text (interval_fields i)

unfoldable pub intervals_text : List Interval → List ℕ
intervals_text intervals = interval_header ++ flat_map interval_line intervals
