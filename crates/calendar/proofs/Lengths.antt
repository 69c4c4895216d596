-- The lengths of months and years, and the years added up.
use Prim.Native.Nat.{ℕ, zero, suc, ◌+◌, ◌-◌, ◌*◌, ◌/◌, ◌≤◌, ◌<◌}
use native.Mathlib.Omega.{arith}
use native.Mathlib.Decide.{dec_lt}
use mathlib.Core.Path.{◌≡◌, refl, sym, subst}
use mathlib.Core.Bool.{Bool, true, false, ◌||◌, cond}
use mathlib.Core.List.{List, [], ◌∷◌}
use lib.Dec.{T, eqb, leb, eqb→eq, leb→le}
use lib.ListN.{get_or, get_or-eq_default}
use borrow.Author.Tests.{ne_eqb}
use Rattle.calendar.specs.Calendar.{leap, year_length, month_length, sum_of_first, years_before, months_before}
use Rattle.calendar.specs.Years.{Known}
use Rattle.calendar.proofs.Every.{every, at}

-- the lengths of the months of a leap year, or of another
abbrev lengths : Bool → List ℕ
lengths b = 0 ∷ 31 ∷ cond b 29 28 ∷ 31 ∷ 30 ∷ 31 ∷ 30 ∷ 31 ∷ 31 ∷ 30 ∷ 31 ∷ 30 ∷ 31 ∷ []

short : (b : Bool) → T (every (λ (m : ℕ). leb (get_or (lengths b) m 0) 31) 13)
short true = tt
short false = tt

-- no month is longer than 31 days
pub month_short : (y m : ℕ) → month_length y m ≤ 31
unfolding month_length
month_short y m =
    elim (dec_lt m 13) [
      | yes p ↦ leb→le (get_or (lengths (leap y)) m 0) 31 (at (λ (i : ℕ). leb (get_or (lengths (leap y)) i 0) 31) 13 (short (leap y)) m p)
      | no p ↦ omega (arith, get_or-eq_default (lengths (leap y)) 0 {n = m} (omega arith))
    ]

-- a month that has a day is one of the twelve
pub month_there : (y m : ℕ) → 1 ≤ month_length y m → (1 ≤ m) × (m ≤ 12)
unfolding month_length
month_there y zero h = absurd (omega arith)
month_there y (suc m) h =
    elim (dec_lt (suc m) 13) [
      | yes p ↦ (omega arith, omega arith)
      | no p ↦ absurd (omega (arith, get_or-eq_default (lengths (leap y)) 0 {n = suc m} (omega arith)))
    ]

pub no_month : (y m : ℕ) → 12 < m → 0 ≡ month_length y m
unfolding month_length
no_month y m h = sym (get_or-eq_default (lengths (leap y)) 0 {n = m} (omega arith))

pub leap_february : (y : ℕ) → leap y ≡ true → 29 ≡ month_length y 2
unfolding month_length
leap_february y e = rw e

pub other_february : (y : ℕ) → leap y ≡ false → 28 ≡ month_length y 2
unfolding month_length
other_february y e = rw e

-- the other months are as the code's table has them, whether it is a leap year or not
as_table : Bool → ℕ → Bool
as_table b m = eqb m 2 || eqb (get_or (lengths false) m 0) (get_or (lengths b) m 0)

as_tables : (b : Bool) → T (every (as_table b) 13)
unfolding as_table
as_tables true = tt
as_tables false = tt

pub from_table : (y m : ℕ) → m ≤ 12 → (m ≡ 2 → ⊥) → get_or (lengths false) m 0 ≡ month_length y m
unfolding month_length as_table
from_table y m h n = eqb→eq _ _ (subst (λ (t : Bool). T (t || eqb (get_or (lengths false) m 0) (get_or (lengths (leap y)) m 0))) (ne_eqb m 2 n) (at (as_table (leap y)) 13 (as_tables (leap y)) m (omega arith)))

-- the years from 1970 to 2100 added up
formula : ℕ → Bool
formula n = eqb (sum_of_first (λ (i : ℕ). year_length (1970 + i)) n) (365 * n + (n + 1) / 4)

formulas : T (every formula 131)
unfolding formula sum_of_first year_length leap
formulas = tt

pub years_before_is : (y : ℕ) → Known y → years_before y ≡ 365 * (y - 1970) + (y - 1970 + 1) / 4
unfolding years_before formula
years_before_is y k = eqb→eq _ _ (at formula 131 formulas (y - 1970) (omega arith))

-- the months of a year add up to it
all_months : (b : Bool) → sum_of_first (λ (m : ℕ). get_or (lengths b) m 0) 13 ≡ cond b 366 365
unfolding sum_of_first
all_months true = refl
all_months false = refl

pub year_of_months : (y : ℕ) → months_before y 13 ≡ year_length y
unfolding months_before month_length year_length
year_of_months y = all_months (leap y)

-- the months before the first, and before a later one
pub no_months : (y m : ℕ) → m ≡ 0 → 0 ≡ months_before y m
unfolding months_before sum_of_first
no_months y m e = rw e

pub more_months : (y m : ℕ) → 1 ≤ m → months_before y (m - 1) + month_length y (m - 1) ≡ months_before y m
unfolding months_before sum_of_first
more_months y zero h = absurd (omega arith)
more_months y (suc m) h = let e : suc m - 1 ≡ m = omega arith in rw e

-- a month that is there has at least 28 days
long : (b : Bool) → T (every (λ (m : ℕ). leb 28 (get_or (lengths b) (suc m) 0)) 12)
long true = tt
long false = tt

pub month_long : (y m : ℕ) → 1 ≤ m → m ≤ 12 → 28 ≤ month_length y m
unfolding month_length
month_long y zero h i = absurd (omega arith)
month_long y (suc m) h i = leb→le 28 (get_or (lengths (leap y)) (suc m) 0) (at (λ (j : ℕ). leb 28 (get_or (lengths (leap y)) (suc j) 0)) 12 (long (leap y)) m (omega arith))

-- from the first of March to the first of November it is 35 weeks; the months before March and after November are at least 28 days long
to_november : (b : Bool) → sum_of_first (λ (m : ℕ). get_or (lengths b) m 0) 11 ≡ sum_of_first (λ (m : ℕ). get_or (lengths b) m 0) 3 + 245
unfolding sum_of_first
to_november true = refl
to_november false = refl

pub november_weeks : (y : ℕ) → months_before y 11 ≡ months_before y 3 + 245
unfolding months_before month_length
november_weeks y = to_november (leap y)
