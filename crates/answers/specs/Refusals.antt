-- Why a call is refused, and the number of each refusal in the table.
use Rattle.std.specs.Prelude.{ℕ}
use Rattle.answers.specs.Answers.{empty_range, too_many, too_short, not_formed, no_map, bad_query, bad_day, total_over, bad_status}
use Rattle.answers.specs.declared.Refusal.{Refusal}
use Rattle.answers.specs.declared.Refusal.TheVariants.{EmptyRange, TooMany, TooShort, NotFormed, NoMap, BadQuery, BadDay, TotalOver, BadStatus}

-- its number
abbrev pub number : Refusal → ℕ
number EmptyRange = empty_range
number TooMany = too_many
number TooShort = too_short
number NotFormed = not_formed
number NoMap = no_map
number BadQuery = bad_query
number BadDay = bad_day
number TotalOver = total_over
number BadStatus = bad_status
