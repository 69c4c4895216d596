-- What an accepted day is: where it starts and ends, how long it is, that starts ascend, and that consecutive days meet.
use Prim.Native.Nat.{ℕ, suc, ◌+◌, ◌-◌, ◌*◌, ◌^◌, ◌≤◌, ◌<◌}
use native.Mathlib.Omega.{arith}
use native.Mathlib.Decide.{dec_lt}
use mathlib.Core.Path.{◌≡◌, refl, sym, ap, ap₂, subst, ◌∙◌}
use mathlib.Core.Bool.{Bool, true, false, ◌&&◌}
use lib.Dec.{T}
use lib.IntN.{ℤ, pos, nat_abs}
use Rattle.answers.specs.declared.Refusal.{Refusal}
use Rattle.answers.specs.declared.Refusal.TheVariants.{BadDay}
use Rattle.std.specs.Prelude.{Result, Ok, Err}
use Rattle.calendar.specs.declared.Date.{Date}
use Rattle.calendar.specs.Calendar.{date, day_number, next_date, march_sunday, november_sunday}
use Rattle.calendar.proofs.Numbers.{There, Follows, Onward, same_year, new_year, number_below, date_yes}
use Rattle.calendar.proofs.Every.{cases}
use Rattle.calendar.proofs.Sundays.{changes_of, year_starts, december_after}
use Rattle.key.specs.declared.Bounds.{Bounds}
use Rattle.log_day.specs.declared.LogDay.{LogDay}
use Rattle.log_day.specs.Days.{zones, standard, changes_clock, daylight, accepted, bounds, day_of, day_in_c}
use Rattle.log_day.proofs.Keys.{seconds, midnight_seconds, seconds_below, standard_west, early, summer_gone, in_summer}
use Rattle.log_day.proofs.Accepted.{Good, good, good_accepted, next_follows, next_known, accepts, refuses}

-- a midnight's clock: before the summer, in it, after it
data Clock (d : Date) : Type 0 where
  spring_comes : daylight d ≡ false → day_number d ≤ march_sunday d.year → Clock d
  summer : daylight d ≡ true → march_sunday d.year < day_number d → day_number d ≤ november_sunday d.year → Clock d
  gone : daylight d ≡ false → november_sunday d.year < day_number d → Clock d

clock : (d : Date) → Clock d
clock d =
    elim (dec_lt (march_sunday d.year) (day_number d)) [
      | yes p ↦
          elim (dec_lt (november_sunday d.year) (day_number d)) [
            | yes q ↦ gone (sym (summer_gone d q)) q
            | no q ↦ summer (sym (in_summer d p (omega arith))) p (omega arith)
          ]
      | no p ↦ spring_comes (sym (early d (omega arith))) (omega arith)
    ]

-- from a midnight to the next the clock goes on in March, back in November, and else stays
data Turn (d e : Date) : Type 0 where
  goes_on : daylight d ≡ false → daylight e ≡ true → day_number d ≡ march_sunday d.year → Turn d e
  goes_back : daylight d ≡ true → daylight e ≡ false → day_number d ≡ november_sunday d.year → Turn d e
  stays : daylight d ≡ daylight e → (day_number d ≡ march_sunday d.year → ⊥) → (day_number d ≡ november_sunday d.year → ⊥) → Turn d e

module _ (d e : Date) (n : day_number e ≡ suc (day_number d)) (y : e.year ≡ d.year) (w : november_sunday d.year ≡ march_sunday d.year + 238) (a : march_sunday e.year ≡ march_sunday d.year) (b : november_sunday e.year ≡ november_sunday d.year) where
  in_year : Clock d → Clock e → Turn d e
  in_year (spring_comes p q) (spring_comes r s) = stays (p ∙ sym r) (λ h. omega arith) (λ h. omega arith)
  in_year (spring_comes p q) (summer r s t) = goes_on p r (omega arith)
  in_year (spring_comes p q) (gone r s) = absurd (omega arith)
  in_year (summer p q u) (spring_comes r s) = absurd (omega arith)
  in_year (summer p q u) (summer r s t) = stays (p ∙ sym r) (λ h. omega arith) (λ h. omega arith)
  in_year (summer p q u) (gone r s) = goes_back p r (omega arith)
  in_year (gone p q) (spring_comes r s) = absurd (omega arith)
  in_year (gone p q) (summer r s t) = absurd (omega arith)
  in_year (gone p q) (gone r s) = stays (p ∙ sym r) (λ h. omega arith) (λ h. omega arith)

-- over the turn of the year it stays
over_year : (d e : Date) → There d → e ≡ date (d.year + 1) 1 1 → d.month ≡ 12 → Turn d e
over_year d e t p q =
    let after = december_after d t q in
    let k = changes_of d.year in
    let winter : daylight d ≡ false = sym (summer_gone d after) in
    let new : daylight e ≡ false = ap daylight p ∙ sym (early (date (d.year + 1) 1 1) (year_starts (d.year + 1))) in
    stays (winter ∙ sym new) (λ h. omega arith) (λ h. omega arith)

turn : (d e : Date) → There d → Follows d e → Turn d e
turn d e t f = go f.onward
  where
    go : Onward d e → Turn d e
    go (same_year y) = in_year d e f.number y (changes_of d.year).weeks (ap march_sunday y) (ap november_sunday y) (clock d) (clock e)
    go (new_year p q) = over_year d e t p q

-- the key of a midnight, by its clock
on_daylight : (z : ℕ) (d : Date) → changes_clock z ≡ true → daylight d ≡ true → seconds z d ≡ 86400 * day_number d + (nat_abs (standard z) - 3600)
unfolding seconds
on_daylight z d c e = rw (c, e)

on_standard : (z : ℕ) (d : Date) → changes_clock z ≡ true → daylight d ≡ false → seconds z d ≡ 86400 * day_number d + nat_abs (standard z)
unfolding seconds
on_standard z d c e = rw (c, e) (omega arith)

unchanged : (z : ℕ) (d : Date) → changes_clock z ≡ false → seconds z d ≡ 86400 * day_number d + nat_abs (standard z)
unfolding seconds
unchanged z d c = rw c (omega arith)

west : (z : ℕ) → z < zones → 18000 ≤ nat_abs (standard z)
west z h = let w = standard_west z h in omega (arith, w, ap nat_abs w.is)

-- HOW LONG A DAY IS: 82,800 seconds exactly on March's second Sunday in a zone that changes its clock, 90,000 exactly on November's first, and else 86,400
pub data Length (z : ℕ) (d : Date) (n : ℕ) : Type 0 where
  short : n ≡ 82800 → changes_clock z ≡ true → day_number d ≡ march_sunday d.year → Length z d n
  long : n ≡ 90000 → changes_clock z ≡ true → day_number d ≡ november_sunday d.year → Length z d n
  plain : n ≡ 86400 → (changes_clock z ≡ true → day_number d ≡ march_sunday d.year → ⊥) → (changes_clock z ≡ true → day_number d ≡ november_sunday d.year → ⊥) → Length z d n

module _ (z : ℕ) (d e : Date) (h : z < zones) (n : day_number e ≡ suc (day_number d)) where
  lengthy : changes_clock z ≡ true → Turn d e → Length z d (seconds z e - seconds z d)
  lengthy c (goes_on p q i) = short (omega (arith, west z h, on_standard z d c p, on_daylight z e c q)) c i
  lengthy c (goes_back p q i) = long (omega (arith, west z h, on_daylight z d c p, on_standard z e c q)) c i
  lengthy c (stays p i j) = plain (same (daylight d) refl) (λ _. i) (λ _. j)
    where
      same : (b : Bool) → daylight d ≡ b → seconds z e - seconds z d ≡ 86400
      same true q = omega (arith, west z h, on_daylight z d c q, on_daylight z e c (sym p ∙ q))
      same false q = omega (arith, west z h, on_standard z d c q, on_standard z e c (sym p ∙ q))

  never : (b : Bool) {X : Type 0} → b ≡ false → b ≡ true → X
  never b p q = absurd (subst T (sym q ∙ p) tt)

  length_by : (b : Bool) → changes_clock z ≡ b → Turn d e → Length z d (seconds z e - seconds z d)
  length_by true c t = lengthy c t
  length_by false c t = plain (omega (arith, unchanged z d c, unchanged z e c)) (λ u. never (changes_clock z) c u) (λ u. never (changes_clock z) c u)

pub day_length : (z : ℕ) (d : Date) → Good z d → Length z d (seconds z (next_date d) - seconds z d)
day_length z d g = let f = next_follows z d g in length_by z d (next_date d) g.zone f.number (changes_clock z) refl (turn d (next_date d) g.is_there f)

-- STARTS ASCEND, by at least 82,800 seconds
low : (z : ℕ) (d : Date) → z < zones → 86400 * day_number d + (nat_abs (standard z) - 3600) ≤ seconds z d
unfolding seconds
low z d h = cases (changes_clock z && daylight d) (λ (k : ℕ). 86400 * day_number d + (nat_abs (standard z) - 3600) ≤ 86400 * day_number d + (nat_abs (standard z) - k)) (λ _. omega arith) (λ _. omega arith)

high : (z : ℕ) (d : Date) → seconds z d ≤ 86400 * day_number d + nat_abs (standard z)
unfolding seconds
high z d = cases (changes_clock z && daylight d) (λ (k : ℕ). 86400 * day_number d + (nat_abs (standard z) - k) ≤ 86400 * day_number d + nat_abs (standard z)) (λ _. omega arith) (λ _. omega arith)

pub starts_ascend : (z : ℕ) (d e : Date) → z < zones → day_number d < day_number e → seconds z d + 82800 ≤ seconds z e
starts_ascend z d e h n = omega (arith, west z h, high z d, low z e h)

-- WHAT IS ANSWERED: of an accepted date its day, and else 8
pub day_is : (z y m d : ℕ) → Good z (date y m d) → day_of z y m d ≡ Ok (bounds (pos (seconds z (date y m d))) (pos (seconds z (next_date (date y m d)))))
day_is z y m d g =
    let x = date y m d in
    sym (accepts z y m d (good_accepted z x g)) ∙ ap₂ (λ (s e : ℤ). Ok (bounds s e)) (midnight_seconds z x g.zone) (midnight_seconds z (next_date x) g.zone)

data Answer (z y m d : ℕ) : Type 0 where
  yes_day : Good z (date y m d) → Answer z y m d
  no_day_lem : day_of z y m d ≡ Err BadDay → Answer z y m d

answer : (z y m d : ℕ) → Answer z y m d
answer z y m d = go (accepted z (date y m d)) refl
  where
    go : (b : Bool) → accepted z (date y m d) ≡ b → Answer z y m d
    go true e = yes_day (good z (date y m d) e)
    go false e = no_day_lem (sym (refuses z y m d e))

-- WHAT IS KNOWN OF A DAY that was answered: start and end are plain numbers, in order, far below the greatest key
pub record Held (z : ℕ) (d : Date) (s e : ℤ) : Type 0 where
  pub is_good : Good z d
  pub from : ℕ
  pub to : ℕ
  pub start_is : s ≡ pos from
  pub end_is : e ≡ pos to
  pub from_is : from ≡ seconds z d
  pub to_is : to ≡ seconds z (next_date d)
  pub ordered : from < to
  pub below : to < 2 ^ 40
  pub length_is : Length z d (to - from)

ok_same : {a b : Bounds} → ◌≡◌ {A = Result Bounds Refusal} (Ok a) (Ok b) → a ≡ b
ok_same p = cc

pub held : (z y m d : ℕ) {s e : ℤ} → day_of z y m d ≡ Ok (bounds s e) → Held z (date y m d) s e
held z y m d {s} {e} h = go (answer z y m d)
  where
    go : Answer z y m d → Held z (date y m d) s e
    go (no_day_lem r) = let n : ◌≡◌ {A = ℕ} 0 1 = cc in absurd (omega arith)
    go (yes_day g) =
        let x = date y m d in
        let f = next_follows z x g in
        let p = sym h ∙ day_is z y m d g in
        record {
          is_good = g;
          from = seconds z x;
          to = seconds z (next_date x);
          start_is = ap (λ (b : Bounds). b.start) (ok_same p);
          end_is = ap (λ (b : Bounds). b.end) (ok_same p);
          from_is = refl;
          to_is = refl;
          ordered = omega (arith, starts_ascend z x (next_date x) g.zone (omega (arith, f.number)));
          below = seconds_below z (next_date x) g.zone (number_below (next_date x) f.is_there (next_known z x g));
          length_is = day_length z x g;
        }

pub refused_is : (z y m d : ℕ) {why : Refusal} → day_of z y m d ≡ Err why → why ≡ BadDay
refused_is z y m d {why} h = go (answer z y m d)
  where
    go : Answer z y m d → why ≡ BadDay
    go (no_day_lem r) = cc
    go (yes_day g) = let p = day_is z y m d g in cc

-- CONSECUTIVE DAYS MEET: the end of a day is the start of the next date's
pub meet : (z y m d : ℕ) {s e s' e' : ℤ} → day_of z y m d ≡ Ok (bounds s e) → day_of z (next_date (date y m d)).year (next_date (date y m d)).month (next_date (date y m d)).day ≡ Ok (bounds s' e') → e ≡ s'
meet z y m d {s} {e} {s'} {e'} h i =
    let x = next_date (date y m d) in
    let a = held z y m d h in
    let b = held z x.year x.month x.day i in
    a.end_is ∙ ap pos (a.to_is ∙ sym b.from_is) ∙ sym b.start_is

-- and the next date is accepted too, unless it is the first of 2100
pub next_good : (z : ℕ) (d : Date) → Good z d → (next_date d).year ≤ 2099 → Good z (next_date d)
next_good z d g h = let f = next_follows z d g in record { zone = g.zone; from = later f.onward; to = h; is_date_lem = date_yes (next_date d) f.is_there.day_from f.is_there.day_to; is_there = f.is_there }
  where
    later : Onward d (next_date d) → 2007 ≤ (next_date d).year
    later (same_year p) = omega (arith, g.from)
    later (new_year p q) = omega (arith, g.from, ap (λ (x : Date). x.year) p)

-- 82,800 and 90,000 seconds, exactly when
module _ (z : ℕ) (d : Date) (g : Good z d) where
  abbrev len : ℕ
  len = seconds z (next_date d) - seconds z d

  pub short_then : len ≡ 82800 → (changes_clock z ≡ true) × (day_number d ≡ march_sunday d.year)
  short_then h = go (day_length z d g)
    where
      go : Length z d len → (changes_clock z ≡ true) × (day_number d ≡ march_sunday d.year)
      go (short e c i) = (c, i)
      go (long e c i) = absurd (omega arith)
      go (plain e i j) = absurd (omega arith)

  pub then_short : changes_clock z ≡ true → day_number d ≡ march_sunday d.year → len ≡ 82800
  then_short c h = go (day_length z d g)
    where
      go : Length z d len → len ≡ 82800
      go (short e k i) = e
      go (long e k i) = let w = changes_of d.year in absurd (omega arith)
      go (plain e i j) = absurd (i c h)

  pub long_then : len ≡ 90000 → (changes_clock z ≡ true) × (day_number d ≡ november_sunday d.year)
  long_then h = go (day_length z d g)
    where
      go : Length z d len → (changes_clock z ≡ true) × (day_number d ≡ november_sunday d.year)
      go (short e c i) = absurd (omega arith)
      go (long e c i) = (c, i)
      go (plain e i j) = absurd (omega arith)

  pub then_long : changes_clock z ≡ true → day_number d ≡ november_sunday d.year → len ≡ 90000
  then_long c h = go (day_length z d g)
    where
      go : Length z d len → len ≡ 90000
      go (short e k i) = let w = changes_of d.year in absurd (omega arith)
      go (long e k i) = e
      go (plain e i j) = absurd (j c h)

-- ONE ANSWER: two answers that meet the promise are equal
pub day_one : {r t : Result Bounds Refusal} (z y m d : ℕ) → r ≡ day_of z y m d → t ≡ day_of z y m d → r ≡ t
day_one z y m d p q = p ∙ sym q

pub log_day_one : {r t : LogDay} (z y m d : ℕ) → r ≡ day_in_c (day_of z y m d) → t ≡ day_in_c (day_of z y m d) → r ≡ t
log_day_one z y m d p q = p ∙ sym q
