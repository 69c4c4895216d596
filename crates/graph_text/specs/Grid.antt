-- The grid of a paper log. A column is a quarter of an hour of the day. A row is a duty, or unrecorded time.
use Rattle.std.specs.Prelude.{ℕ, ◌+◌, ◌-◌, ◌*◌, ◌/◌, ◌%◌, ◌≤◌, ◌<◌, ◌≡◌, Bool, false, cond, List, [], ◌∷◌, ltb, eqb, ℤ}
use Prim.Native.Char.{code}
use Rattle.span.specs.Span.{Span}
use Rattle.key.specs.Rank.{rank}
use Rattle.key.specs.Range.{half_open}
use Rattle.outcomes.specs.Stored.{Sound, ranges}
use Rattle.outcomes.specs.declared.Stored.{Stored}
use Rattle.duty.specs.declared.Totals.{Totals}
use Rattle.duty.specs.Duty.{totals_of, strange}
use Rattle.report_text.specs.Rows.{row_of}

-- how many quarters of an hour, and how many hours, a day has: 900 seconds, and 3,600
abbrev pub quarters_in : ℤ → ℤ → ℕ
quarters_in s e = (rank e - rank s) / 900

abbrev pub hours_in : ℤ → ℤ → ℕ
hours_in s e = quarters_in s e / 4

-- the hour that the clock shows in the hour h of a day of n hours: the clock changes at 2, so from there on hours are counted back from 24
unfoldable pub clock_hour : ℕ → ℕ → ℕ
clock_hour n h = cond (ltb h 2) h (h + 24 - n)

-- the seconds of each row in the quarter q of a day that starts at s
unfoldable pub in_quarter : List Span → ℤ → ℕ → Totals
in_quarter m s q = totals_of (rank s + 900 * q) (rank s + 900 * (q + 1)) m

-- does a quarter have a second of a row
unfoldable pub is_marked : List Span → ℤ → ℕ → ℕ → Bool
is_marked m s j q = ltb 0 (row_of (in_quarter m s q) j)

-- a mark is `#`, in the row of unrecorded time `?`
unfoldable pub mark_of : ℕ → ℕ
mark_of j = cond (eqb j 4) (code "?") (code "#")

-- where there is no mark, a quarter that begins an hour shows `:`, another one `.`
unfoldable pub blank_of : ℕ → ℕ
blank_of q = cond (eqb (q % 4) 0) (code ":") (code ".")

-- what a quarter shows in a row
unfoldable pub shown : List Span → ℤ → ℕ → ℕ → ℕ
shown m s j q = cond (is_marked m s j q) (mark_of j) (blank_of q)

unfoldable pub cell : List Span → ℤ → ℕ → ℕ → List ℕ
cell m s j q = shown m s j q ∷ []

-- what a grid is asked of: a well-formed map, and a window of at most 25 hours in which no strange status is
pub record Drawable (m : Stored) (s e : ℤ) : Type 0 where
  pub sound : Sound half_open m
  pub real : rank s < rank e
  pub short : rank e - rank s ≤ 90000
  pub calm : strange (rank s) (rank e) (ranges half_open m) ≡ false
