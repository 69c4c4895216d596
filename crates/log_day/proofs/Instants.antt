-- An instant of the years 2007 to 2099 lies in exactly one day of a zone.
use Prim.Native.Nat.{ℕ, zero, suc, ◌+◌, ◌≤◌, ◌<◌}
use native.Mathlib.Omega.{arith}
use native.Mathlib.Decide.{dec_lt}
use mathlib.Core.Path.{◌≡◌, refl, sym, ap, subst, ◌∙◌}
use lib.IntN.{pos, nat_abs}
use Rattle.calendar.specs.declared.Date.{Date}
use Rattle.calendar.specs.Calendar.{date, leap, year_length, month_length, sum_of_first, years_before, months_before, day_number, next_date}
use Rattle.calendar.proofs.Numbers.{There, Onward, same_year, new_year, follows, one_date, number_of, years_mono, date_yes}
use Rattle.std.specs.Prelude.{Ok}
use Rattle.log_day.specs.Days.{zones, bounds, day_of}
use Rattle.log_day.proofs.Keys.{seconds}
use Rattle.log_day.proofs.Accepted.{Good, next_follows}
use Rattle.log_day.proofs.Spans.{held, day_is, starts_ascend}

-- the instant t lies in the day of the date d
pub record In (z t : ℕ) (d : Date) : Type 0 where
  pub from : ℕ
  pub to : ℕ
  pub day : day_of z d.year d.month d.day ≡ Ok (bounds (pos from) (pos to))
  pub after : from ≤ t
  pub before : t < to

-- the first day, and the first that is past the last
abbrev first : Date
first = date 2007 1 1

abbrev past : Date
past = date 2100 1 1

first_number_lem : day_number first ≡ 13514
unfolding day_number years_before months_before sum_of_first year_length month_length leap
first_number_lem = refl

past_number : day_number past ≡ 47482
unfolding day_number years_before months_before sum_of_first year_length month_length leap
past_number = refl

past_years : years_before 2100 ≡ 47482
unfolding years_before sum_of_first year_length leap
past_years = refl

first_there : There first
unfolding month_length
first_there = record { day_from = omega arith; day_to = omega arith; month_from = omega arith; month_to = omega arith }

past_there : There past
unfolding month_length
past_there = record { day_from = omega arith; day_to = omega arith; month_from = omega arith; month_to = omega arith }

-- the dates from the first on
dates : ℕ → Date
dates zero = first
dates (suc k) = next_date (dates k)

-- a date k days after the first, as its number says
record Nth (k : ℕ) (d : Date) : Type 0 where
  is_there : There d
  year_from : 2007 ≤ d.year
  number : day_number d ≡ 13514 + k

onward_from : {d e : Date} → Onward d e → 2007 ≤ d.year → 2007 ≤ e.year
onward_from (same_year p) h = omega arith
onward_from (new_year p q) h = omega (arith, ap (λ (x : Date). x.year) p)

nth : (k : ℕ) → Nth k (dates k)
unfolding dates
nth zero = record { is_there = first_there; year_from = omega arith; number = first_number_lem }
nth (suc k) =
    let n = nth k in
    let f = follows (dates k) n.is_there (omega (arith, n.year_from)) in
    record { is_there = f.is_there; year_from = onward_from f.onward n.year_from; number = omega (arith, f.number, n.number) }

-- the years end with 2099
ends : dates 33968 ≡ past
ends = let n = nth 33968 in one_date (dates 33968) past n.is_there past_there (omega (arith, n.year_from)) (omega arith) (omega (arith, n.number, past_number))

in_years : (k : ℕ) → k < 33968 → (dates k).year ≤ 2099
in_years k h =
    let n = nth k in
    elim (dec_lt 2099 (dates k).year) [
      | yes p ↦ absurd (omega (arith, n.number, number_of (dates k), years_mono 2100 (dates k).year (omega arith), past_years))
      | no p ↦ omega arith
    ]

dates_good : (z k : ℕ) → z < zones → k < 33968 → Good z (dates k)
dates_good z k h i =
    let n = nth k in
    record { zone = h; from = n.year_from; to = in_years k i; is_date_lem = date_yes (dates k) n.is_there.day_from n.is_there.day_to; is_there = n.is_there }

-- an instant between the first start and a later one lies between two neighbouring starts
record Between (z t k : ℕ) : Type 0 where
  place : ℕ
  below : place < k
  after : seconds z (dates place) ≤ t
  before : t < seconds z (dates (suc place))

between : (z t k : ℕ) → seconds z first ≤ t → t < seconds z (dates k) → Between z t k
unfolding dates
between z t zero h i = absurd (omega arith)
between z t (suc k) h i =
    elim (dec_lt t (seconds z (dates k))) [
      | yes p ↦ let b = between z t k h p in record { place = b.place; below = omega (arith, b.below); after = b.after; before = b.before }
      | no p ↦ record { place = k; below = omega arith; after = omega arith; before = i }
    ]

-- SOME DAY holds each instant from the first start to the last end, which is the midnight of 2100-01-01
pub some_day : (z t : ℕ) → z < zones → seconds z first ≤ t → t < seconds z past → (d : Date) × In z t d
unfolding dates
some_day z t h i j =
    let b = between z t 33968 i (subst (λ (d : Date). t < seconds z d) (sym ends) j) in
    let d = dates b.place in
    (d, record { from = seconds z d; to = seconds z (next_date d); day = day_is z d.year d.month d.day (dates_good z b.place h b.below); after = b.after; before = b.before })

-- THE LAST DAY ends with that midnight, though no date of 2100 is accepted
last_date : next_date (date 2099 12 31) ≡ past
unfolding next_date month_length
last_date = refl

pub last_day : (z : ℕ) → z < zones → day_of z 2099 12 31 ≡ Ok (bounds (pos (seconds z (date 2099 12 31))) (pos (seconds z past)))
unfolding month_length
last_day z h =
    let last = date 2099 12 31 in
    let t : There last = record { day_from = omega arith; day_to = omega arith; month_from = omega arith; month_to = omega arith } in
    let g : Good z last = record { zone = h; from = omega arith; to = omega arith; is_date_lem = date_yes last (omega arith) (omega arith); is_there = t } in
    day_is z 2099 12 31 g ∙ ap (λ (d : Date). Ok (bounds (pos (seconds z last)) (pos (seconds z d)))) last_date

-- ONE DAY only
record Lies (z t : ℕ) (d : Date) : Type 0 where
  is_good : Good z d
  after : seconds z d ≤ t
  before : t < seconds z (next_date d)

lies : (z t : ℕ) (d : Date) → In z t d → Lies z t d
lies z t d a =
    let h = held z d.year d.month d.day a.day in
    let p : a.from ≡ seconds z d = ap nat_abs h.start_is ∙ h.from_is in
    let q : a.to ≡ seconds z (next_date d) = ap nat_abs h.end_is ∙ h.to_is in
    record { is_good = h.is_good; after = omega (arith, a.after); before = omega (arith, a.before) }

-- a later date's day starts where an earlier one has ended
over : (z : ℕ) (d e : Date) → Good z d → Good z e → day_number d < day_number e → seconds z (next_date d) ≤ seconds z e
over z d e g k n =
    let f = next_follows z d g in
    elim (dec_lt (day_number (next_date d)) (day_number e)) [
      | yes p ↦ omega (arith, starts_ascend z (next_date d) e g.zone p)
      | no p ↦
          let same = one_date (next_date d) e f.is_there k.is_there (omega (arith, onward_from f.onward g.from)) (omega (arith, k.from)) (omega (arith, f.number)) in
          omega (arith, ap (seconds z) same)
    ]

pub one_day : (z t : ℕ) (d e : Date) → In z t d → In z t e → d ≡ e
one_day z t d e a b =
    let u = lies z t d a in
    let v = lies z t e b in
    let g = u.is_good in
    let k = v.is_good in
    elim (dec_lt (day_number d) (day_number e)) [
      | yes p ↦ absurd (omega (arith, u.before, v.after, over z d e g k p))
      | no p ↦
          elim (dec_lt (day_number e) (day_number d)) [
            | yes q ↦ absurd (omega (arith, v.before, u.after, over z e d k g q))
            | no q ↦ one_date d e g.is_there k.is_there (omega (arith, g.from)) (omega (arith, k.from)) (omega arith)
          ]
    ]
