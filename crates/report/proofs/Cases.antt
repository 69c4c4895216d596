-- Document 01's November report, and three refusals, as theorems about the definitions that the contracts cite: by computation.
use mathlib.Core.Path.{◌≡◌, refl}
use mathlib.Core.Bool.{false}
use lib.IntN.{ℤ, pos}
use lib.Ieee.{fin}
use Rattle.std.specs.Prelude.{Ok, Err}
use Rattle.answers.specs.declared.Refusal.TheVariants.{BadDay, BadStatus}
use Rattle.span.specs.Span.{inside, keep, before, after, joins, tidy, push, joined, given, history}
use Rattle.span.specs.Operations.{cuts, uncovered, within, span_total, any}
use Rattle.key.specs.Rank.{above_least, bit_rank, key_at}
use Rattle.key.specs.Range.{half_open}
use Rattle.outcomes.specs.Stored.{spans, ranges, filled, storing, zeros, noughts, unused, well_formed}
use Rattle.outcomes.specs.declared.Stored.{Stored}
use Rattle.outcomes.specs.Outcomes.{edit_sound, edit, insert, clear}
use Rattle.hours.specs.Hours.{hours_of}
use Rattle.duty.proofs.ByStatus.{of_duties}
use Rattle.calendar.specs.Calendar.{leap, year_length, month_length, years_before, months_before, day_number, is_date, next_date, weekday, sunday_within, sunday_from, march_sunday, november_sunday}
use Rattle.calendar.specs.Calendar as Calendar
use Rattle.log_day.specs.Days.{standard, changes_clock, daylight, offset, midnight, accepted, day_of}
use Rattle.report.specs.Report.{day_totals, Reported, day_report, reported_in_c}

-- status 1 over 2024-11-03, Eastern, then 3 on 1730628000..1730653200
abbrev november : Stored
november = (insert half_open (insert half_open (clear half_open) (pos 1730606400) (pos 1730696400) 1).left (pos 1730628000) (pos 1730653200) 3).left

-- `unfolding all` opens every definition that a case computes with: of dates, of days, of spans, of maps, of duties
unfoldable of_dates : Unit {0}
unfolding leap year_length month_length Calendar.sum_of_first years_before months_before day_number is_date next_date weekday sunday_within sunday_from march_sunday november_sunday
of_dates = tt

unfoldable of_days : Unit {0}
unfolding standard changes_clock daylight offset midnight accepted day_of
of_days = tt

unfoldable of_spans : Unit {0}
unfolding inside keep before after joins tidy push joined given history cuts uncovered within span_total any
of_spans = tt

unfoldable of_maps : Unit {0}
unfolding above_least bit_rank key_at spans ranges filled storing zeros noughts unused well_formed edit_sound edit clear
of_maps = tt

unfoldable all : Unit {0}
unfolding of_dates of_days of_spans of_maps of_duties hours_of day_report
all = tt

pub november_report : reported_in_c (day_report november 0 2024 11 3) ≡ record {
  answer = 0;
  start = pos 1730606400;
  end = pos 1730696400;
  off_duty = 64800;
  sleeper_berth = 0;
  driving = 25200;
  on_duty = 0;
  unrecorded = 0;
  off_duty_hours = fin false 9 (pos 1);
  sleeper_berth_hours = fin false 0 (pos 0);
  driving_hours = fin false 7 (pos 0);
  on_duty_hours = fin false 0 (pos 0);
  unrecorded_hours = fin false 0 (pos 0);
}
unfolding all
november_report = refl

-- its seconds
abbrev as_november : Reported
as_november = Ok (day_totals (pos 1730606400) (pos 1730696400) (record { off_duty = 64800; sleeper_berth = 0; driving = 25200; on_duty = 0; unrecorded = 0 }))

-- a bad date, and a bad zone
pub no_date : day_report november 0 2023 2 29 ≡ Err BadDay
unfolding all
no_date = refl

pub no_zone : day_report november 7 2024 11 3 ≡ Err BadDay
unfolding all
no_zone = refl

-- status 0 in the day, and right before it and behind it
abbrev marked : ℤ → ℤ → Stored
marked s e = (insert half_open november s e 0).left

pub status_0 : day_report (marked (pos 1730696399) (pos 1730696400)) 0 2024 11 3 ≡ Err BadStatus
unfolding all
status_0 = refl

pub status_0_before : day_report (marked (pos 1730606399) (pos 1730606400)) 0 2024 11 3 ≡ as_november
unfolding all
status_0_before = refl

pub status_0_behind : day_report (marked (pos 1730696400) (pos 1730696401)) 0 2024 11 3 ≡ as_november
unfolding all
status_0_behind = refl
