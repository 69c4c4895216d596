-- The five rows of a day: the four duties, and unrecorded time. The rows count from 0.
use Rattle.std.specs.Prelude.{ℕ, ◌+◌, List, [], ◌∷◌, get_or}
use Rattle.duty.specs.declared.Totals.{Totals}
use Rattle.filling.specs.Filling.{ascii}

-- how many rows there are
abbrev pub row_count : ℕ
row_count = 5

-- the name of a row
unfoldable pub row_name : ℕ → List ℕ
row_name j = get_or (ascii "off duty" ∷ ascii "sleeper berth" ∷ ascii "driving" ∷ ascii "on duty" ∷ ascii "unrecorded" ∷ []) j []

-- the seconds of a row
unfoldable pub row_of : Totals → ℕ → ℕ
row_of t j = get_or (t.off_duty ∷ t.sleeper_berth ∷ t.driving ∷ t.on_duty ∷ t.unrecorded ∷ []) j 0

-- all five added up
unfoldable pub sum_seconds : Totals → ℕ
sum_seconds t = t.off_duty + t.sleeper_berth + t.driving + t.on_duty + t.unrecorded
