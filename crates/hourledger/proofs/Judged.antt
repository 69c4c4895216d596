-- A number that stands for all that are too large, or negative, is refused by 8, whatever the others are.
use Prim.Native.Nat.{ℕ}
use native.Mathlib.Omega.{arith}
use mathlib.Core.Path.{◌≡◌, refl, sym}
use mathlib.Core.Bool.{Bool, true, false}
use Rattle.std.specs.Prelude.{Err}
use Rattle.answers.specs.declared.Refusal.TheVariants.{BadDay}
use Rattle.calendar.specs.Calendar.{date}
use Rattle.calendar.proofs.Lengths.{month_short}
use Rattle.log_day.specs.Days.{accepted, day_of}
use Rattle.log_day.proofs.Accepted.{good, refuses}

module _ (z y m d : ℕ) where
  refused : (accepted z (date y m d) ≡ true → ⊥) → day_of z y m d ≡ Err BadDay
  refused h = sym (refuses z y m d (go (accepted z (date y m d)) h))
    where
      go : (t : Bool) → (t ≡ true → ⊥) → t ≡ false
      go true f = absurd (f refl)
      go false f = refl

pub zone_too_large : (y m d : ℕ) → day_of 255 y m d ≡ Err BadDay
zone_too_large y m d = refused 255 y m d (λ a. omega (arith, (good 255 (date y m d) a).zone))

pub year_too_large : (z m d : ℕ) → day_of z 65535 m d ≡ Err BadDay
year_too_large z m d = refused z 65535 m d (λ a. omega (arith, (good z (date 65535 m d) a).to))

pub month_too_large : (z y d : ℕ) → day_of z y 255 d ≡ Err BadDay
month_too_large z y d = refused z y 255 d (λ a. omega (arith, (good z (date y 255 d) a).is_there.month_to))

pub day_too_large : (z y m : ℕ) → day_of z y m 255 ≡ Err BadDay
day_too_large z y m = refused z y m 255 (λ a. omega (arith, (good z (date y m 255) a).is_there.day_to, month_short y m))
