-- Document 01, "Log days": seconds as hours, each the double nearest seconds / 3600, ties to even. A float is what the logic's account of IEEE 754 says it is.
use Rattle.std.specs.Prelude.{ℕ, ◌+◌, ◌-◌, ◌*◌, ◌<◌, true, false, ◌⊎◌, T, Float}
use Rattle.std.specs.Float.{nan, inf, fin, binary64}
use Rattle.std.specs.Float.Ieee.{round, fits, eq, up, down}
use Rattle.std.specs.Float.Ieee.Scale.{finite}
use Rattle.std.specs.Float.Ieee.Positive.{den}

-- the hours of some seconds: what IEEE 754 rounds seconds / 3600 to, to the nearest, a tie to the even one
unfoldable pub hours_of : ℕ → Float
unfolding round
hours_of s = round binary64 false s 3600

-- how far a is from b
abbrev pub distance : ℕ → ℕ → ℕ
distance a b = (a - b) + (b - a)

-- how far a finite float x is from a / c: this many parts of c times x's denominator
abbrev pub far : Float → ℕ → ℕ → ℕ
far nan a c = 0
far (inf s) a c = 0
far (fin true m e) a c = m * up e * c + a * down e
far (fin false m e) a c = distance (m * up e * c) (a * down e)

-- x is a double, and every other finite double is farther from a / c than x: so x is the nearest, and no tie is left to break
pub record Nearest (x : Float) (a c : ℕ) : Type 0 where
  pub double : T (fits binary64 x)
  pub is_finite : T (finite x)
  pub nearer : (y : Float) → T (fits binary64 y) → T (finite y) → T (eq x y) ⊎ (far x a c * den y < far y a c * den x)
