-- Which zones and dates are accepted, and what is known of those and of the next date.
use Prim.Native.Nat.{ℕ, ◌≤◌, ◌<◌}
use native.Mathlib.Omega.{arith}
use mathlib.Core.Path.{◌≡◌, sym, ap, ◌∙◌}
use mathlib.Core.Bool.{true, false, ◌&&◌}
use lib.Dec.{ltb, leb}
use borrow.Author.Tests.{ltb-true, leb-true, lt-ltb, le-ltb, le-leb}
use Rattle.std.specs.Prelude.{Ok, Err}
use Rattle.answers.specs.declared.Refusal.TheVariants.{BadDay}
use Rattle.calendar.specs.declared.Date.{Date}
use Rattle.calendar.specs.Calendar.{date, is_date, next_date}
use Rattle.calendar.specs.Years.{Known}
use Rattle.calendar.proofs.Every.{both}
use Rattle.calendar.proofs.Numbers.{There, there, Follows, Onward, same_year, new_year, follows}
use Rattle.log_day.specs.declared.TimeZone.{TimeZone}
use Rattle.log_day.specs.declared.TimeZone.TheVariants.{Eastern, Central, Mountain, Pacific, Alaska, Hawaii, MountainFixed}
use Rattle.log_day.specs.Days.{zones, midnight, accepted, bounds, day_of}
use Rattle.log_day.specs.InnerZones.{zone_number, in_ledger}

-- a zone of the code is there
pub number_below : (z : TimeZone) → zone_number z < zones
number_below Eastern = omega arith
number_below Central = omega arith
number_below Mountain = omega arith
number_below Pacific = omega arith
number_below Alaska = omega arith
number_below Hawaii = omega arith
number_below MountainFixed = omega arith

-- a number that is no zone's is refused; and else the date decides
module _ (z : ℕ) (d : Date) where
  pub no_zone : zones ≤ z → accepted z d ≡ false
  unfolding accepted
  no_zone h = rw (le-ltb z zones h)

  pub by_date : z < zones → in_ledger d ≡ accepted z d
  unfolding accepted in_ledger
  by_date h = rw (lt-ltb z zones h)

  by_year : 2007 ≤ d.year → d.year ≤ 2099 → is_date d ≡ in_ledger d
  unfolding in_ledger
  by_year i j = rw (le-leb 2007 d.year i, le-leb d.year 2099 j)

-- what is known where a zone and a date are accepted
pub record Good (z : ℕ) (d : Date) : Type 0 where
  pub zone : z < zones
  pub from : 2007 ≤ d.year
  pub to : d.year ≤ 2099
  pub is_date_lem : is_date d ≡ true
  pub is_there : There d

pub good : (z : ℕ) (d : Date) → accepted z d ≡ true → Good z d
unfolding accepted
good z d e =
    let (a, r) = both (ltb z zones) (leb 2007 d.year && (leb d.year 2099 && is_date d)) e in
    let (b, s) = both (leb 2007 d.year) (leb d.year 2099 && is_date d) r in
    let (c, t) = both (leb d.year 2099) (is_date d) s in
    record { zone = ltb-true z zones a; from = leb-true 2007 d.year b; to = leb-true d.year 2099 c; is_date_lem = t; is_there = there d t }

pub good_accepted : (z : ℕ) (d : Date) → Good z d → accepted z d ≡ true
good_accepted z d g = sym (by_year z d g.from g.to ∙ by_date z d g.zone) ∙ g.is_date_lem

-- the zone that the code finds
pub good_zone : (z : TimeZone) {n : ℕ} {d : Date} → zone_number z ≡ n → accepted n d ≡ true → Good (zone_number z) d
good_zone z {n} {d} e a = good (zone_number z) d (ap (λ (k : ℕ). accepted k d) e ∙ a)

-- the next date: at most a year later
pub next_follows : (z : ℕ) (d : Date) → Good z d → Follows d (next_date d)
next_follows z d g = follows d g.is_there (omega (arith, g.from))

onward_known : {d e : Date} → Onward d e → 2007 ≤ d.year → d.year ≤ 2099 → Known e.year
onward_known (same_year p) f t = record { from = omega arith; to = omega arith }
onward_known {d} {e} (new_year p q) f t =
    let y = ap (λ (x : Date). x.year) p in
    record { from = omega (arith, y); to = omega (arith, y) }

pub next_known : (z : ℕ) (d : Date) → Good z d → Known (next_date d).year
next_known z d g = onward_known (next_follows z d g).onward g.from g.to

-- the answers
pub accepts : (z y m d : ℕ) → accepted z (date y m d) ≡ true → Ok (bounds (midnight z (date y m d)) (midnight z (next_date (date y m d)))) ≡ day_of z y m d
unfolding day_of
accepts z y m d e = rw e

pub refuses : (z y m d : ℕ) → accepted z (date y m d) ≡ false → Err BadDay ≡ day_of z y m d
unfolding day_of
refuses z y m d e = rw e
