-- Sundays: the first on or after a day by a formula, that it is one, and the first; and where the two Sundays of a year lie.
use Prim.Native.Nat.{ℕ, zero, suc, ◌+◌, ◌-◌, ◌%◌, ◌≤◌, ◌<◌}
use native.Mathlib.Omega.{arith}
use native.Mathlib.Decide.{ℕ_discrete}
use mathlib.Core.Path.{◌≡◌, ap, ◌∙◌}
use lib.Dec.{eqb}
use borrow.Author.Tests.{eqb-true, eqb-false}
use Rattle.calendar.specs.Calendar.{date, years_before, months_before, day_number, weekday, sunday_within, sunday_from, march_sunday, november_sunday}
use Rattle.calendar.specs.declared.Date.{Date}
use Rattle.calendar.proofs.Every.{cases}
use Rattle.calendar.proofs.Lengths.{november_weeks, month_long}
use Rattle.calendar.proofs.Numbers.{There, months_mono, months_suc}

within : (k n : ℕ) → 6 - (n + 3) % 7 ≤ k → sunday_within k n ≡ n + (6 - (n + 3) % 7)
unfolding sunday_within weekday
within zero n h = omega arith
within (suc k) n h =
    let later : ((n + 4) % 7 ≡ 0 → ⊥) → sunday_within k (suc n) ≡ n + (6 - (n + 3) % 7) = λ e. omega (arith, within k (suc n) (left e), left e) in
    cases (eqb ((n + 4) % 7) 0) (λ (s : ℕ). s ≡ n + (6 - (n + 3) % 7))
    (λ e. omega (arith, eqb-true ((n + 4) % 7) 0 e))
    (λ e. later (eqb-false ((n + 4) % 7) 0 e))
  where
    left : ((n + 4) % 7 ≡ 0 → ⊥) → 6 - (suc n + 3) % 7 ≤ k
    left e = elim (ℕ_discrete ((n + 4) % 7) 0) [ yes p ↦ absurd (e p) | no p ↦ omega arith ]

pub sunday_from_is : (n : ℕ) → sunday_from n ≡ n + (6 - (n + 3) % 7)
unfolding sunday_from
sunday_from_is n = within 6 n (omega arith)

pub march_sunday_of : (y : ℕ) {a b : ℕ} → a ≡ day_number (date y 3 1) → b ≡ sunday_from a → b + 7 ≡ march_sunday y
unfolding march_sunday
march_sunday_of y e f = ap (λ (n : ℕ). n + 7) (f ∙ ap sunday_from e)

pub november_sunday_of : (y : ℕ) {a b : ℕ} → a ≡ day_number (date y 11 1) → b ≡ sunday_from a → b ≡ november_sunday y
unfolding november_sunday
november_sunday_of y e f = f ∙ ap sunday_from e

-- it is a Sunday, on or after the day, and no earlier one is
pub record FirstSunday (n s : ℕ) : Type 0 where
  pub sunday : weekday s ≡ 0
  pub from : n ≤ s
  pub to : s ≤ n + 6
  pub first : (k : ℕ) → n ≤ k → k < s → weekday k ≡ 0 → ⊥

pub first_sunday : (n : ℕ) → FirstSunday n (sunday_from n)
unfolding weekday
first_sunday n =
    let e = sunday_from_is n in
    record { sunday = omega arith; from = omega arith; to = omega arith; first = λ k p q w. omega arith }

-- THE SECOND SUNDAY OF MARCH: one Sunday of March comes before it, and no other
pub record SecondSunday (n s : ℕ) : Type 0 where
  pub before : ℕ
  pub first_one : FirstSunday n before
  pub next_one : FirstSunday (suc before) s

pub march_second : (y : ℕ) → SecondSunday (day_number (date y 3 1)) (march_sunday y)
unfolding march_sunday weekday
march_second y =
    let n = day_number (date y 3 1) in
    let f = first_sunday n in
    let e = sunday_from_is n in
    record {
      before = sunday_from n;
      first_one = f;
      next_one = record { sunday = omega arith; from = omega arith; to = omega arith; first = λ k p q w. omega arith };
    }

-- THE FIRST SUNDAY OF NOVEMBER
pub november_first : (y : ℕ) → FirstSunday (day_number (date y 11 1)) (november_sunday y)
unfolding november_sunday
november_first y = first_sunday (day_number (date y 11 1))

-- where they lie: in the week from 8 March, and 34 weeks later, in November's first
pub record Changes (y : ℕ) : Type 0 where
  pub march_from : day_number (date y 3 1) + 7 ≤ march_sunday y
  pub march_to : march_sunday y ≤ day_number (date y 3 1) + 13
  pub weeks : november_sunday y ≡ march_sunday y + 238
  pub november_to : november_sunday y ≤ day_number (date y 11 1) + 6

pub changes_of : (y : ℕ) → Changes y
unfolding march_sunday november_sunday day_number
changes_of y =
    let a = years_before y + months_before y 3 + (1 - 1) in
    let b = years_before y + months_before y 11 + (1 - 1) in
    let p = sunday_from_is a in
    let q = sunday_from_is b in
    let w = november_weeks y in
    record { march_from = omega arith; march_to = omega arith; weeks = omega arith; november_to = omega arith }

-- the first day of a year comes before them, and December after them
pub year_starts : (y : ℕ) → day_number (date y 1 1) ≤ march_sunday y
unfolding day_number
year_starts y = let c = changes_of y in omega (arith, months_mono y 1 3 (omega arith))

pub december_after : (d : Date) → There d → d.month ≡ 12 → november_sunday d.year < day_number d
unfolding day_number
december_after d t e =
    let c = changes_of d.year in
    omega (arith, ap (months_before d.year) e, months_suc d.year 11, month_long d.year 11 (omega arith) (omega arith))
