-- Document 01, Log days: the zones, their offsets, and the start and end of a day as keys, UTC seconds since 1970-01-01.
use Rattle.std.specs.Prelude.{ℕ, ◌*◌, Bool, true, false, ◌&&◌, cond, List, [], ◌∷◌, Result, Ok, Err, map, ltb, leb, get_or, ℤ, pos, neg_ℤ, ◌+ℤ◌, ◌-ℤ◌}
use Rattle.answers.specs.Answers.{done}
use Rattle.answers.specs.Refusals.{number}
use Rattle.answers.specs.declared.Refusal.{Refusal}
use Rattle.answers.specs.declared.Refusal.TheVariants.{BadDay}
use Rattle.calendar.specs.declared.Date.{Date}
use Rattle.calendar.specs.Calendar.{date, day_number, is_date, next_date, march_sunday, november_sunday}
use Rattle.key.specs.declared.Bounds.{Bounds}
use Rattle.log_day.specs.declared.LogDay.{LogDay}

-- a zone: its standard offset in seconds, and whether it changes its clock
pub record Zone : Type 0 where
  pub standard_offset : ℤ
  pub changing : Bool

-- a zone so many seconds west
abbrev pub west : ℕ → Bool → Zone
west s c = record { standard_offset = neg_ℤ (pos s); changing = c }

-- THE ZONES 0 to 6: Eastern, Central, Mountain, Pacific, Alaska, Hawaii, and Mountain with a fixed clock
abbrev pub zone_table : List Zone
zone_table =
    west 18000 true ∷
    west 21600 true ∷
    west 25200 true ∷
    west 28800 true ∷
    west 32400 true ∷
    west 36000 false ∷
    west 25200 false ∷
    []

-- how many there are: `all_zones`, in proofs/Keys
abbrev pub zones : ℕ
zones = 7

-- a zone's standard offset
unfoldable pub standard : ℕ → ℤ
standard zone = get_or (map (λ (z : Zone). z.standard_offset) zone_table) zone (pos 0)

-- does a zone change its clock
unfoldable pub changes_clock : ℕ → Bool
changes_clock zone = get_or (map (λ (z : Zone). z.changing) zone_table) zone false

-- a midnight has daylight offset exactly when its date is after March's second Sunday and not after November's first
unfoldable pub daylight : Date → Bool
daylight d = ltb (march_sunday d.year) (day_number d) && leb (day_number d) (november_sunday d.year)

-- the offset of a date's midnight: daylight offset is standard plus 3600
unfoldable pub offset : ℕ → Date → ℤ
offset zone d = cond (changes_clock zone && daylight d) (standard zone +ℤ pos 3600) (standard zone)

-- the key of a date's midnight: UTC midnight less the offset
unfoldable pub midnight : ℕ → Date → ℤ
midnight zone d = pos (86400 * day_number d) -ℤ offset zone d

-- is it a zone, and a date of the years 2007 to 2099
unfoldable pub accepted : ℕ → Date → Bool
accepted zone d = ltb zone zones && (leb 2007 d.year && (leb d.year 2099 && is_date d))

-- a start and an end
abbrev pub bounds : ℤ → ℤ → Bounds
bounds s e = record { start = s; end = e }

-- A DAY runs from its local midnight to the next date's
unfoldable pub day_of : ℕ → ℕ → ℕ → ℕ → Result Bounds Refusal
day_of zone y m d = let x = date y m d in cond (accepted zone x) (Ok (bounds (midnight zone x) (midnight zone (next_date x)))) (Err BadDay)

-- the number and the values of each answer
abbrev pub day_in_c : Result Bounds Refusal → LogDay
day_in_c (Ok day) = record { answer = done; start = day.start; end = day.end }
day_in_c (Err why) = record { answer = number why; start = pos 0; end = pos 0 }
