-- Document 01's cases of log days, and rules over all zones and years, by computation.
use mathlib.Core.Path.{◌≡◌, refl, ap}
use lib.IntN.{pos}
use Rattle.std.specs.Prelude.{Ok, Err}
use Rattle.answers.specs.declared.Refusal.TheVariants.{BadDay}
use Rattle.calendar.specs.Calendar.{date, leap, year_length, month_length, sum_of_first, years_before, months_before, day_number, is_date, next_date, weekday, sunday_within, sunday_from, march_sunday, november_sunday}
use Rattle.log_day.specs.Days.{standard, changes_clock, daylight, offset, midnight, accepted, bounds, day_of, day_in_c}

-- `unfolding all` opens every definition that a case computes with
unfoldable all : Unit {0}
unfolding leap year_length month_length sum_of_first years_before months_before day_number is_date next_date weekday sunday_within sunday_from march_sunday november_sunday standard changes_clock daylight offset midnight accepted day_of
all = tt

-- Eastern days
march_2024 : day_of 0 2024 3 10 ≡ Ok (bounds (pos 1710046800) (pos 1710129600))
unfolding all
march_2024 = refl

november_2024 : day_of 0 2024 11 3 ≡ Ok (bounds (pos 1730606400) (pos 1730696400))
unfolding all
november_2024 = refl

-- the changes fall on 11 March and 4 November 2007, and on 9 March and 2 November 2025
march_2007 : march_sunday 2007 ≡ day_number (date 2007 3 11)
unfolding all
march_2007 = refl

november_2007 : november_sunday 2007 ≡ day_number (date 2007 11 4)
unfolding all
november_2007 = refl

march_2025 : march_sunday 2025 ≡ day_number (date 2025 3 9)
unfolding all
march_2025 = refl

november_2025 : november_sunday 2025 ≡ day_number (date 2025 11 2)
unfolding all
november_2025 = refl

-- dates that are not there, and zones
no_leap_day : day_of 0 2023 2 29 ≡ Err BadDay
unfolding all
no_leap_day = refl

leap_day : day_of 0 2024 2 29 ≡ Ok (bounds (pos 1709182800) (pos 1709269200))
unfolding all
leap_day = refl

no_zone_7 : day_of 7 2024 3 10 ≡ Err BadDay
unfolding all
no_zone_7 = refl

-- what C and Rust see of them
march_2024_numbers : day_in_c (day_of 0 2024 3 10) ≡ record { answer = 0; start = pos 1710046800; end = pos 1710129600 }
march_2024_numbers = ap day_in_c march_2024

no_zone_numbers : day_in_c (day_of 7 2024 3 10) ≡ record { answer = 8; start = pos 0; end = pos 0 }
no_zone_numbers = ap day_in_c no_zone_7

-- the same days where the clock does not change
hawaii_march : day_of 5 2024 3 10 ≡ Ok (bounds (pos 1710064800) (pos 1710151200))
unfolding all
hawaii_march = refl

fixed_november : day_of 6 2024 11 3 ≡ Ok (bounds (pos 1730617200) (pos 1730703600))
unfolding all
fixed_november = refl

-- 1970-01-01 is day 0, a Thursday
first_day : day_number (date 1970 1 1) ≡ 0
unfolding all
first_day = refl

thursday : weekday 0 ≡ 4
unfolding all
thursday = refl

-- the years' ends that are covered: before 2007 and after 2099 it is 8, and the last day ends with the midnight of 2100-01-01
before_2007 : day_of 0 2006 12 31 ≡ Err BadDay
unfolding all
before_2007 = refl

after_2099 : day_of 0 2100 1 1 ≡ Err BadDay
unfolding all
after_2099 = refl

last_eastern_day : day_of 0 2099 12 31 ≡ Ok (bounds (pos 4102376400) (pos 4102462800))
unfolding all
last_eastern_day = refl

past_last_day : next_date (date 2099 12 31) ≡ date 2100 1 1
unfolding all
past_last_day = refl
