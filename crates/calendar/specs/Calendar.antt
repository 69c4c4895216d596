-- Document 01, Log days: the Gregorian calendar, days counted from 1970-01-01, and the two Sundays on which clocks change (15 U.S.C. 260a).
use Rattle.std.specs.Prelude.{ℕ, zero, suc, ◌+◌, ◌-◌, ◌%◌, Bool, ◌&&◌, ◌||◌, not, cond, [], ◌∷◌, eqb, ltb, leb, get_or}
use Rattle.calendar.specs.declared.Date.{Date}

abbrev pub date : ℕ → ℕ → ℕ → Date
date y m d = record { year = y; month = m; day = d }

-- every fourth year is a leap year, but of the hundreds only every fourth
unfoldable pub leap : ℕ → Bool
leap y = eqb (y % 4) 0 && (not (eqb (y % 100) 0) || eqb (y % 400) 0)

-- the length of a year
unfoldable pub year_length : ℕ → ℕ
year_length y = cond (leap y) 366 365

-- the length of a month; months are 1 to 12, and no other month has days
unfoldable pub month_length : ℕ → ℕ → ℕ
month_length y m = get_or (0 ∷ 31 ∷ cond (leap y) 29 28 ∷ 31 ∷ 30 ∷ 31 ∷ 30 ∷ 31 ∷ 31 ∷ 30 ∷ 31 ∷ 30 ∷ 31 ∷ []) m 0

-- the first n lengths added up
unfoldable pub sum_of_first : (ℕ → ℕ) → ℕ → ℕ
sum_of_first lengths zero = 0
sum_of_first lengths (suc n) = sum_of_first lengths n + lengths n

-- the days of the years from 1970 on that come before a year
unfoldable pub years_before : ℕ → ℕ
years_before y = sum_of_first (λ (n : ℕ). year_length (1970 + n)) (y - 1970)

-- the days of the months of a year that come before a month
unfoldable pub months_before : ℕ → ℕ → ℕ
months_before y m = sum_of_first (month_length y) m

-- a date's day number: 1970-01-01 is 0
unfoldable pub day_number : Date → ℕ
day_number d = years_before d.year + months_before d.year d.month + (d.day - 1)

-- is it a date: its month is there, and has that day
unfoldable pub is_date : Date → Bool
is_date d = leb 1 d.day && leb d.day (month_length d.year d.month)

-- the date after a date
unfoldable pub next_date : Date → Date
next_date d =
    cond (ltb d.day (month_length d.year d.month))
    (date d.year d.month (d.day + 1))
    (cond (ltb d.month 12) (date d.year (d.month + 1) 1) (date (d.year + 1) 1 1))

-- the weekday of a day: 0 is Sunday, and 1970-01-01 was a Thursday, 4
unfoldable pub weekday : ℕ → ℕ
weekday n = (n + 4) % 7

-- the first Sunday among a day and k days after it
unfoldable pub sunday_within : ℕ → ℕ → ℕ
sunday_within zero n = n
sunday_within (suc k) n = cond (eqb (weekday n) 0) n (sunday_within k (suc n))

-- the first Sunday on or after a day: a week has one
unfoldable pub sunday_from : ℕ → ℕ
sunday_from n = sunday_within 6 n

-- the second Sunday of March, and the first of November, as day numbers
unfoldable pub march_sunday : ℕ → ℕ
march_sunday y = sunday_from (day_number (date y 3 1)) + 7

unfoldable pub november_sunday : ℕ → ℕ
november_sunday y = sunday_from (day_number (date y 11 1))
