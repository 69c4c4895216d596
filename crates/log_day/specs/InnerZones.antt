-- What the functions that find a day say to each other: the number of a zone, and which dates are of the ledger.
-- No promise of an exported function rests on it.
use Rattle.std.specs.Prelude.{ℕ, ◌≡◌, ◌≤◌, Bool, ◌&&◌, leb, Result, MatchResult}
use Rattle.answers.specs.declared.Refusal.{Refusal}
use Rattle.answers.specs.declared.Refusal.TheVariants.{BadDay}
use Rattle.calendar.specs.declared.Date.{Date}
use Rattle.calendar.specs.Calendar.{is_date}
use Rattle.log_day.specs.declared.TimeZone.{TimeZone}
use Rattle.log_day.specs.declared.TimeZone.TheVariants.{Eastern, Central, Mountain, Pacific, Alaska, Hawaii, MountainFixed}
use Rattle.log_day.specs.Days.{zones}

-- a zone's number, its place in the table
abbrev pub zone_number : TimeZone → ℕ
zone_number Eastern = 0
zone_number Central = 1
zone_number Mountain = 2
zone_number Pacific = 3
zone_number Alaska = 4
zone_number Hawaii = 5
zone_number MountainFixed = 6

-- what is answered of a number: the zone of that number, where there is one
abbrev pub IsZone : ℕ → Result TimeZone Refusal → Type 0
IsZone n r = MatchResult r (λ (z : TimeZone). zone_number z ≡ n) (λ (why : Refusal). (why ≡ BadDay) × (zones ≤ n))

-- is it a date of the years 2007 to 2099
unfoldable pub in_ledger : Date → Bool
in_ledger d = leb 2007 d.year && (leb d.year 2099 && is_date d)
