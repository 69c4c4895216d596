-- Day numbers: a date's as the code adds it up, the next date's one more, and one date for each number.
use Prim.Native.Nat.{ℕ, zero, suc, ◌+◌, ◌-◌, ◌≤◌, ◌<◌}
use native.Mathlib.Omega.{arith}
use native.Mathlib.Decide.{dec_lt}
use mathlib.Core.Path.{◌≡◌, refl, ap, ap₂, subst, ◌∙◌}
use mathlib.Core.Bool.{true}
use lib.Dec.{leb}
use borrow.Author.Tests.{leb-true, le-leb, lt-ltb, le-ltb}
use Rattle.calendar.specs.declared.Date.{Date}
use Rattle.calendar.specs.Calendar.{date, leap, year_length, month_length, sum_of_first, years_before, months_before, day_number, is_date, next_date}
use Rattle.calendar.specs.Years.{Known}
use Rattle.calendar.proofs.Every.{cases, both}
use Rattle.calendar.proofs.Lengths.{month_there, month_long, year_of_months, years_before_is}

pub day_number_of : (d : Date) {a b n : ℕ} → a ≡ years_before d.year → b ≡ months_before d.year d.month → n ≡ d.day - 1 → a + b + n ≡ day_number d
unfolding day_number
day_number_of d e f g = omega (arith, e, f, g)

-- the three ways to the next date
module _ (d : Date) where
  abbrev len : ℕ
  len = month_length d.year d.month

  pub next_day : d.day < len → date d.year d.month (d.day + 1) ≡ next_date d
  unfolding next_date
  next_day h = rw (lt-ltb d.day len h)

  pub next_month : len ≤ d.day → d.month < 12 → date d.year (d.month + 1) 1 ≡ next_date d
  unfolding next_date
  next_month h i = rw (le-ltb d.day len h, lt-ltb d.month 12 i)

  pub next_year : len ≤ d.day → 12 ≤ d.month → date (d.year + 1) 1 1 ≡ next_date d
  unfolding next_date
  next_year h i = rw (le-ltb d.day len h, le-ltb d.month 12 i)

  -- a date is there where its month has its day
  pub date_yes : 1 ≤ d.day → d.day ≤ len → is_date d ≡ true
  unfolding is_date
  date_yes h i = rw (le-leb 1 d.day h, le-leb d.day len i)

-- what it means that a date is there
pub record There (d : Date) : Type 0 where
  pub day_from : 1 ≤ d.day
  pub day_to : d.day ≤ month_length d.year d.month
  pub month_from : 1 ≤ d.month
  pub month_to : d.month ≤ 12

pub there : (d : Date) → is_date d ≡ true → There d
unfolding is_date
there d e =
    let (a, b) = both (leb 1 d.day) (leb d.day (month_length d.year d.month)) e in
    let from = leb-true 1 d.day a in
    let to = leb-true d.day (month_length d.year d.month) b in
    let (m, n) = month_there d.year d.month (omega arith) in
    record { day_from = from; day_to = to; month_from = m; month_to = n }

-- ADDING UP: one term more, a later sum is no less, and where a number lies among the sums there is one place for it
module _ (lengths : ℕ → ℕ) where
  pub total_suc : (n : ℕ) → sum_of_first lengths (suc n) ≡ sum_of_first lengths n + lengths n
  unfolding sum_of_first
  total_suc n = refl

  pub total_more : (i k : ℕ) → sum_of_first lengths i ≤ sum_of_first lengths (i + k)
  total_more i zero = let e : i + 0 ≡ i = omega arith in rw e (omega arith)
  total_more i (suc k) = let e : i + suc k ≡ suc (i + k) = omega arith in rw e (omega (arith, total_more i k, total_suc (i + k)))

  pub total_mono : (i j : ℕ) → i ≤ j → sum_of_first lengths i ≤ sum_of_first lengths j
  total_mono i j h = subst (λ (n : ℕ). sum_of_first lengths i ≤ sum_of_first lengths n) (let e : i + (j - i) ≡ j = omega arith in e) (total_more i (j - i))

  pub total_place : (n i j : ℕ) → sum_of_first lengths i ≤ n → n < sum_of_first lengths (suc i) → sum_of_first lengths j ≤ n → n < sum_of_first lengths (suc j) → i ≡ j
  total_place n i j a b c d =
      elim (dec_lt i j) [
        | yes p ↦ absurd (omega (arith, total_mono (suc i) j (omega arith)))
        | no p ↦
            elim (dec_lt j i) [
              | yes q ↦ absurd (omega (arith, total_mono (suc j) i (omega arith)))
              | no q ↦ omega arith
            ]
      ]

pub months_suc : (y m : ℕ) → months_before y (suc m) ≡ months_before y m + month_length y m
unfolding months_before
months_suc y m = total_suc (month_length y) m

pub years_suc : (y : ℕ) → 1970 ≤ y → years_before (suc y) ≡ years_before y + year_length y
unfolding years_before
years_suc y h =
    let e : suc y - 1970 ≡ suc (y - 1970) = omega arith in
    let f : 1970 + (y - 1970) ≡ y = omega arith in
    ap (sum_of_first (λ (n : ℕ). year_length (1970 + n))) e ∙ total_suc (λ (n : ℕ). year_length (1970 + n)) (y - 1970) ∙ ap (λ (x : ℕ). sum_of_first (λ (n : ℕ). year_length (1970 + n)) (y - 1970) + year_length x) f

-- the day number of a year's first day, and that a date lies in its year and its month
pub months_first : (y : ℕ) → months_before y 1 ≡ 0
unfolding months_before sum_of_first month_length
months_first y = refl

pub months_mono : (y i j : ℕ) → i ≤ j → months_before y i ≤ months_before y j
unfolding months_before
months_mono y = total_mono (month_length y)

pub years_mono : (x y : ℕ) → x ≤ y → years_before x ≤ years_before y
unfolding years_before
years_mono x y h = total_mono (λ (n : ℕ). year_length (1970 + n)) (x - 1970) (y - 1970) (omega arith)

-- a date's day within its year
unfoldable pub year_day : Date → ℕ
year_day d = months_before d.year d.month + (d.day - 1)

pub number_of : (d : Date) → day_number d ≡ years_before d.year + year_day d
unfolding day_number year_day
number_of d = omega arith

pub year_day_lem : (d : Date) → There d → (months_before d.year d.month ≤ year_day d) × (year_day d < months_before d.year (suc d.month))
unfolding year_day
year_day_lem d t = (omega arith, omega (arith, months_suc d.year d.month))

pub in_year : (d : Date) → There d → year_day d < year_length d.year
in_year d t = omega (arith, (year_day_lem d t).1, months_mono d.year (suc d.month) 13 (omega arith), year_of_months d.year)

-- THE NEXT DATE: it is there, and its number is one more. It lies in the same year, or is the first of the next
pub data Onward (d e : Date) : Type 0 where
  same_year : e.year ≡ d.year → Onward d e
  new_year : e ≡ date (d.year + 1) 1 1 → d.month ≡ 12 → Onward d e

pub record Follows (d e : Date) : Type 0 where
  pub number : day_number e ≡ suc (day_number d)
  pub is_there : There e
  pub onward : Onward d e

module _ (d : Date) (t : There d) where
  unfoldable months_then : day_number d ≡ years_before d.year + months_before d.year d.month + (d.day - 1)
  unfolding day_number
  months_then = refl

  to_day : d.day < month_length d.year d.month → Follows d (date d.year d.month (d.day + 1))
  unfolding day_number
  to_day h = record { number = omega (arith, t); is_there = record { day_from = omega arith; day_to = omega arith; month_from = t.month_from; month_to = t.month_to }; onward = same_year refl }

  to_month : month_length d.year d.month ≤ d.day → d.month < 12 → Follows d (date d.year (d.month + 1) 1)
  unfolding day_number
  to_month h i =
      let e : d.month + 1 ≡ suc d.month = omega arith in
      record {
        number = omega (arith, t, ap (months_before d.year) e, months_suc d.year d.month);
        is_there = record { day_from = omega arith; day_to = omega (arith, month_long d.year (d.month + 1) (omega arith) (omega arith)); month_from = omega arith; month_to = omega arith };
        onward = same_year refl;
      }

  to_year : 1970 ≤ d.year → month_length d.year d.month ≤ d.day → 12 ≤ d.month → Follows d (date (d.year + 1) 1 1)
  unfolding day_number
  to_year k h i =
      let e : d.year + 1 ≡ suc d.year = omega arith in
      let f : d.month ≡ 12 = omega (arith, t) in
      record {
        number = omega (arith, t, ap years_before e, years_suc d.year k, months_first (d.year + 1), year_of_months d.year, months_suc d.year d.month, ap (λ (m : ℕ). months_before d.year (suc m)) f);
        is_there = record { day_from = omega arith; day_to = omega (arith, month_long (d.year + 1) 1 (omega arith) (omega arith)); month_from = omega arith; month_to = omega arith };
        onward = new_year refl f;
      }

  pub follows : 1970 ≤ d.year → Follows d (next_date d)
  follows k =
      elim (dec_lt d.day (month_length d.year d.month)) [
        | yes p ↦ subst (Follows d) (next_day d p) (to_day p)
        | no p ↦
            elim (dec_lt d.month 12) [
              | yes q ↦ subst (Follows d) (next_month d (omega arith) q) (to_month (omega arith) q)
              | no q ↦ subst (Follows d) (next_year d (omega arith) (omega arith)) (to_year k (omega arith) (omega arith))
            ]
      ]

-- ONE DATE for each number: two dates with the same number are the same
date_eq : {y m d y' m' d' : ℕ} → y ≡ y' → m ≡ m' → d ≡ d' → date y m d ≡ date y' m' d'
date_eq e f g = λ i. record { year = e i; month = f i; day = g i }

one_year : (x y a b : ℕ) → 1970 ≤ x → 1970 ≤ y → a < year_length x → b < year_length y → years_before x + a ≡ years_before y + b → x ≡ y
one_year x y a b k l p q h =
    elim (dec_lt x y) [
      | yes i ↦ absurd (omega (arith, years_suc x k, years_mono (suc x) y (omega arith)))
      | no i ↦
          elim (dec_lt y x) [
            | yes j ↦ absurd (omega (arith, years_suc y l, years_mono (suc y) x (omega arith)))
            | no j ↦ omega arith
          ]
    ]

one_month : (y n i j : ℕ) → months_before y i ≤ n → n < months_before y (suc i) → months_before y j ≤ n → n < months_before y (suc j) → i ≡ j
unfolding months_before
one_month y = total_place (month_length y)

pub one_date : (d e : Date) → There d → There e → 1970 ≤ d.year → 1970 ≤ e.year → day_number d ≡ day_number e → d ≡ e
unfolding year_day
one_date d e t u k l h =
    let y = one_year d.year e.year (year_day d) (year_day e) k l (in_year d t) (in_year e u) (omega (arith, number_of d, number_of e)) in
    let n : year_day d ≡ year_day e = omega (arith, number_of d, number_of e, ap years_before y) in
    let (a, b) = year_day_lem d t in
    let (v, w) = year_day_lem e u in
    let m = one_month d.year (year_day d) d.month e.month a b (omega (arith, n, v, ap (λ (x : ℕ). months_before x e.month) y)) (omega (arith, n, w, ap (λ (x : ℕ). months_before x (suc e.month)) y)) in
    date_eq y m (omega (arith, t, u, n, ap₂ months_before y m))

-- a day number of the years that are known is small
year_short : (y : ℕ) → year_length y ≤ 366
unfolding year_length
year_short y = cases (leap y) (λ (n : ℕ). n ≤ 366) (λ _. omega arith) (λ _. omega arith)

pub number_below : (d : Date) → There d → Known d.year → day_number d < 65536
number_below d t k = omega (arith, number_of d, in_year d t, year_short d.year, years_before_is d.year k)

-- A LATER DATE has a greater number: in a later year, in a later month of the year, on a later day of the month
module _ (d e : Date) (t : There d) (u : There e) where
  pub later_year : 1970 ≤ d.year → d.year < e.year → day_number d < day_number e
  later_year k h = omega (arith, number_of d, number_of e, in_year d t, years_suc d.year k, years_mono (suc d.year) e.year (omega arith))

  pub later_month : d.year ≡ e.year → d.month < e.month → day_number d < day_number e
  later_month y h =
      omega (
        arith,
        number_of d,
        number_of e,
        ap years_before y,
        (year_day_lem d t).1,
        (year_day_lem e u).0,
        months_mono d.year (suc d.month) e.month (omega arith),
        ap (λ (x : ℕ). months_before x e.month) y,
      )

  pub later_day : d.year ≡ e.year → d.month ≡ e.month → d.day < e.day → day_number d < day_number e
  unfolding day_number
  later_day y m h = omega (arith, t, ap years_before y, ap₂ months_before y m)
