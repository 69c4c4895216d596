-- WHAT THE EXPORTED LOG DAY PROMISES.
-- Each is over what a caller sees: what is lent, at entry and (with a prime) at exit; the other arguments; and last the answer as C and Rust have it.
use Rattle.std.specs.Prelude.{ℕ, ◌≡◌}
use Rattle.log_day.specs.Days.{day_of, day_in_c}
use Rattle.log_day.specs.declared.LogDay.{LogDay}

-- `log_day`: THE DAY of a date in a zone: its start and its end, or 8.
abbrev pub LogDayPromise : ℕ → ℕ → ℕ → ℕ → LogDay → Type 0
LogDayPromise zone year month day r = r ≡ day_in_c (day_of zone year month day)
