-- The key of a midnight as a plain number: the zones lie west, so UTC midnight less the offset adds 4 to 10 hours.
use Prim.Native.Nat.{ℕ, suc, ◌+◌, ◌-◌, ◌*◌, ◌^◌, ◌≤◌, ◌<◌}
use native.Mathlib.Omega.{arith}
use mathlib.Core.Path.{◌≡◌, refl, sym, ap, ap₂, ◌∙◌}
use mathlib.Core.Bool.{Bool, true, false, ◌&&◌, cond}
use lib.Dec.{T, ltb, leb, leb→le}
use lib.ListN.{length}
use lib.IntN.{ℤ, pos, negsuc, nat_abs, ◌+ℤ◌, ◌-ℤ◌}
use mir.Syntax.{w64}
use mir.Val.{SFits, to_z, of_z}
use mir.Facts.{and_yes, to_z-of_z}
use borrow.Author.Tests.{lt-ltb, le-ltb, le-leb, lt-leb}
use Rattle.calendar.specs.declared.Date.{Date}
use Rattle.calendar.specs.Calendar.{day_number, march_sunday, november_sunday}
use Rattle.calendar.proofs.Every.{every, at, cases}
use Rattle.log_day.specs.Days.{zone_table, zones, standard, changes_clock, daylight, offset, midnight}

-- the table has so many rows
pub all_zones : length zone_table ≡ zones
all_zones = refl

-- an offset is a negative number, of 4 to 10 hours
pub record West (hours : ℕ) (s : ℤ) : Type 0 where
  pub behind : ℕ
  pub is : s ≡ negsuc behind
  pub from : hours * 3600 ≤ suc behind
  pub to : suc behind ≤ 36000

-- every zone's standard offset is one of 5 to 10
is_west : ℤ → Bool
is_west (pos n) = false
is_west (negsuc n) = leb 18000 (suc n) && leb (suc n) 36000

all_west : T (every (λ (z : ℕ). is_west (standard z)) zones)
unfolding is_west standard
all_west = tt

west_of : (s : ℤ) → T (is_west s) → West 5 s
unfolding is_west
west_of (pos n) t = absurd t
west_of (negsuc n) t =
    let (a, b) = and_yes (leb 18000 (suc n)) (leb (suc n) 36000) t in
    record { behind = n; is = refl; from = leb→le 18000 (suc n) a; to = leb→le (suc n) 36000 b }

pub standard_west : (z : ℕ) → z < zones → West 5 (standard z)
standard_west z h = west_of (standard z) (at (λ (i : ℕ). is_west (standard i)) zones all_west z h)

west_fits : {n : ℕ} {s : ℤ} → West n s → SFits w64 s
west_fits w = rw w.is (record { sfits = omega (arith, w.to) })

-- daylight offset, one hour less west
later : (k : ℕ) → 18000 ≤ suc k → negsuc k +ℤ pos 3600 ≡ negsuc (k - 3600)
later k h = rw (lt-ltb 3600 (suc k) (omega arith)) (ap negsuc (omega arith))

pub daylight_west : {s : ℤ} → West 5 s → West 4 (s +ℤ pos 3600)
daylight_west w = record { behind = w.behind - 3600; is = ap (λ (z : ℤ). z +ℤ pos 3600) w.is ∙ later w.behind w.from; from = omega (arith, w.from); to = omega (arith, w.to) }

-- the key of a midnight: its zone's hours west after UTC midnight, or one hour less
unfoldable pub seconds : ℕ → Date → ℕ
seconds z d = 86400 * day_number d + (nat_abs (standard z) - cond (changes_clock z && daylight d) 3600 0)

away : (b : Bool) {s : ℤ} → West 5 s → (u : ℕ) → pos u -ℤ cond b (s +ℤ pos 3600) s ≡ pos (u + (nat_abs s - cond b 3600 0))
away true w u = rw (w.is, later w.behind w.from) (ap pos (omega (arith, w.from)))
away false w u = rw w.is (ap pos (omega arith))

pub midnight_seconds : (z : ℕ) (d : Date) → z < zones → midnight z d ≡ pos (seconds z d)
unfolding midnight offset seconds
midnight_seconds z d h = away (changes_clock z && daylight d) (standard_west z h) (86400 * day_number d)

-- both fit an i64
pub standard_fits : (z : ℕ) → z < zones → SFits w64 (standard z)
standard_fits z h = west_fits (standard_west z h)

pub later_fits : (z : ℕ) → z < zones → SFits w64 (standard z +ℤ pos 3600)
later_fits z h = west_fits (daylight_west (standard_west z h))

pub offset_fits : (z : ℕ) (d : Date) → z < zones → SFits w64 (offset z d)
unfolding offset
offset_fits z d h = cases (changes_clock z && daylight d) (SFits w64) (λ _. later_fits z h) (λ _. standard_fits z h)

pub seconds_below : (z : ℕ) (d : Date) → z < zones → day_number d < 65536 → seconds z d < 2 ^ 40
unfolding seconds
seconds_below z d h n = let w = standard_west z h in omega (arith, ap nat_abs w.is)

pub midnight_fits : (z : ℕ) (d : Date) → z < zones → day_number d < 65536 → SFits w64 (midnight z d)
midnight_fits z d h n = rw (midnight_seconds z d h) (record { sfits = omega (arith, seconds_below z d h n) })

and_false : (t : Bool) → (t && false) ≡ false
and_false true = refl
and_false false = refl

-- a midnight's clock, as the code finds it
pub early : (d : Date) → day_number d ≤ march_sunday d.year → false ≡ daylight d
unfolding daylight
early d h = rw (le-ltb (march_sunday d.year) (day_number d) h)

pub summer_gone : (d : Date) → november_sunday d.year < day_number d → false ≡ daylight d
unfolding daylight
summer_gone d h = rw (lt-leb (day_number d) (november_sunday d.year) h) (sym (and_false (ltb (march_sunday d.year) (day_number d))))

pub in_summer : (d : Date) → march_sunday d.year < day_number d → day_number d ≤ november_sunday d.year → true ≡ daylight d
unfolding daylight
in_summer d h i = rw (lt-ltb (march_sunday d.year) (day_number d) h, le-leb (day_number d) (november_sunday d.year) i)

-- the offset of a midnight, by its clock
pub offset_later : (z : ℕ) (d : Date) → (changes_clock z && daylight d) ≡ true → standard z +ℤ pos 3600 ≡ offset z d
unfolding offset
offset_later z d e = rw e

pub offset_standard : (z : ℕ) (d : Date) → (changes_clock z && daylight d) ≡ false → standard z ≡ offset z d
unfolding offset
offset_standard z d e = rw e

pub midnight_of_offset : (z : ℕ) (d : Date) {u o : ℤ} → u ≡ pos (86400 * day_number d) → o ≡ offset z d → u -ℤ o ≡ midnight z d
unfolding midnight
midnight_of_offset z d e f = ap₂ ◌-ℤ◌ e f

-- an i64 that code hands on is read back from its bits
pub back : {r x : ℤ} → r ≡ x → SFits w64 x → to_z w64 (of_z w64 r) ≡ x
back e f = ap (λ (z : ℤ). to_z w64 (of_z w64 z)) e ∙ to_z-of_z f

pub utc_fits : (n : ℕ) → n < 65536 → SFits w64 (pos (86400 * n))
utc_fits n h = record { sfits = omega arith }

-- the key of a midnight, as the code subtracts
pub midnight_back : (z : ℕ) (d : Date) → z < zones → {n : ℕ} {u o : ℤ} → n ≡ day_number d → n < 65536 → u ≡ pos (86400 * n) → o ≡ offset z d → to_z w64 (of_z w64 u) -ℤ to_z w64 (of_z w64 o) ≡ midnight z d
midnight_back z d h {n} p l e f =
    midnight_of_offset z d (back e (utc_fits n l) ∙ ap (λ (i : ℕ). pos (86400 * i)) p) (back f (offset_fits z d h))
