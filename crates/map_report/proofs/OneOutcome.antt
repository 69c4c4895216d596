-- ONE OUTCOME of each exported function: two outcomes that meet its promise for the same input are equal, the answer and all lent memory.
use Prim.Native.Nat.{ℕ}
use mathlib.Core.Path.{◌≡◌}
use Rattle.key.proofs.Answers.{one_answer}
use Rattle.map.specs.declared.RangeMap.{RangeMap}
use Rattle.report.specs.declared.DayReport.{DayReport}
use Rattle.map_report.specs.Promises.{RangeMapDayReportUnchecked, RangeMapDayReport}

pub range_map_day_report_unchecked_one : (m : RangeMap) (zone : ℕ) (year : ℕ) (month : ℕ) (day : ℕ) (r t : DayReport)
    → RangeMapDayReportUnchecked m zone year month day r → RangeMapDayReportUnchecked m zone year month day t
    → r ≡ t
range_map_day_report_unchecked_one m zone year month day r t x y = one_answer x y

pub range_map_day_report_one : (m : RangeMap) (zone : ℕ) (year : ℕ) (month : ℕ) (day : ℕ) (r t : DayReport)
    → RangeMapDayReport m zone year month day r → RangeMapDayReport m zone year month day t
    → r ≡ t
range_map_day_report_one m zone year month day r t x y = one_answer x y
