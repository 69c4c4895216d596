-- Document 01, "Log days": what a day's report of a half-open map answers. Refusals in the order of document 01: 4 the map is not well formed,
-- 8 the zone or the date is bad, 10 a status outside 1 to 4 is in the day.
use Rattle.std.specs.Prelude.{ℕ, cond, Result, Ok, Err, ℤ, pos}
use Rattle.answers.specs.Answers.{done}
use Rattle.answers.specs.Refusals.{number}
use Rattle.answers.specs.declared.Refusal.{Refusal}
use Rattle.answers.specs.declared.Refusal.TheVariants.{NotFormed}
use Rattle.key.specs.Range.{half_open}
use Rattle.key.specs.declared.Bounds.{Bounds}
use Rattle.outcomes.specs.declared.Stored.{Stored}
use Rattle.outcomes.specs.Outcomes.{formed}
use Rattle.hours.specs.Hours.{hours_of}
use Rattle.duty.specs.Duty.{tally_sound}
use Rattle.duty.specs.declared.Totals.{Totals}
use Rattle.log_day.specs.Days.{day_of}
use Rattle.report.specs.declared.DayTotals.{DayTotals}
use Rattle.report.specs.declared.DayReport.{DayReport}

-- a day's start and end, and its seconds
abbrev pub day_totals : ℤ → ℤ → Totals → DayTotals
day_totals s e t = record { day = record { start = s; end = e }; totals = t }

-- a day that is reported, or why there is none
abbrev pub Reported : Type 0
Reported = Result DayTotals Refusal

-- the seconds between two keys, with the keys
abbrev pub with_keys : ℤ → ℤ → Result Totals Refusal → Reported
with_keys s e (Ok t) = Ok (day_totals s e t)
with_keys s e (Err why) = Err why

-- of a well-formed map and a day
abbrev pub day_report_sound : Stored → Result Bounds Refusal → Reported
day_report_sound m (Ok day) = with_keys day.start day.end (tally_sound m day.start day.end)
day_report_sound m (Err why) = Err why

-- A DAY'S REPORT of any map, zone and date
unfoldable pub day_report : Stored → ℕ → ℕ → ℕ → ℕ → Reported
day_report m zone y mo d = cond (formed half_open m) (day_report_sound m (day_of zone y mo d)) (Err NotFormed)

-- a report's fields: the answer, the day, the seconds, and the same as hours
abbrev pub fields_in_c : ℕ → ℤ → ℤ → Totals → DayReport
fields_in_c n s e t = record {
  answer = n;
  start = s;
  end = e;
  off_duty = t.off_duty;
  sleeper_berth = t.sleeper_berth;
  driving = t.driving;
  on_duty = t.on_duty;
  unrecorded = t.unrecorded;
  off_duty_hours = hours_of t.off_duty;
  sleeper_berth_hours = hours_of t.sleeper_berth;
  driving_hours = hours_of t.driving;
  on_duty_hours = hours_of t.on_duty;
  unrecorded_hours = hours_of t.unrecorded;
}

-- what C and Rust see of a report: if it is refused, all but the number is 0. The hours of 0 seconds are +0.0 (`no_hours`)
abbrev pub reported_in_c : Reported → DayReport
reported_in_c (Ok r) = fields_in_c done r.day.start r.day.end r.totals
reported_in_c (Err why) = fields_in_c (number why) (pos 0) (pos 0) (record { off_duty = 0; sleeper_berth = 0; driving = 0; on_duty = 0; unrecorded = 0 })
