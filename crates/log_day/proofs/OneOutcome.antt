-- ONE OUTCOME of each exported function: two outcomes that meet its promise for the same input are equal, the answer and all lent memory.
use Prim.Native.Nat.{ℕ}
use mathlib.Core.Path.{◌≡◌, sym, ◌∙◌}
use Rattle.log_day.specs.declared.LogDay.{LogDay}
use Rattle.log_day.specs.Promises.{LogDayPromise}

pub log_day_one : (zone : ℕ) (year : ℕ) (month : ℕ) (day : ℕ) (r t : LogDay)
    → LogDayPromise zone year month day r → LogDayPromise zone year month day t
    → r ≡ t
log_day_one zone year month day r t x y = x ∙ sym y
