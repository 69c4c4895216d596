-- WHAT THE EXPORTED REPORTS OF A DAY PROMISE.
-- Each is over what a caller sees: what is lent, at entry and (with a prime) at exit; the other arguments; and last the answer as C and Rust have it.
use Rattle.std.specs.Prelude.{ℕ, ◌≡◌}
use Rattle.map.specs.Map.{held}
use Rattle.log_day.specs.Days.{day_of}
use Rattle.report.specs.Report.{day_report_sound, reported_in_c, day_report}
use Rattle.map.specs.declared.RangeMap.{RangeMap}
use Rattle.report.specs.declared.DayReport.{DayReport}

-- `range_map_day_report_unchecked`: the report of a date's day in a zone, of a map that must be well formed.
abbrev pub RangeMapDayReportUnchecked : RangeMap → ℕ → ℕ → ℕ → ℕ → DayReport → Type 0
RangeMapDayReportUnchecked m zone year month day r = r ≡ reported_in_c (day_report_sound (held m) (day_of zone year month day))

-- `range_map_day_report`: the report of a date's day in a zone: 4, 8 or 10, or all that document 01 says.
abbrev pub RangeMapDayReport : RangeMap → ℕ → ℕ → ℕ → ℕ → DayReport → Type 0
RangeMapDayReport m zone year month day r = r ≡ reported_in_c (day_report (held m) zone year month day)
