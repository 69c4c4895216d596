-- Seconds as a double, divided by 3600 as a double, are the hours: the two are exact, so only the quotient rounds. Assumes nothing.
use mathlib.Core.Path.{◌≡◌, refl, ◌∙◌, ap}
use Prim.Native.Nat.{ℕ, ◌*◌, ◌^◌, ◌<◌}
use native.Mathlib.Nat.{le_of_lt, lt_of_lt_of_le, mul_comm, mul_assoc, mul-pos}
use mathlib.Core.Bool.{true, false, true≢false}
use lib.IntN.{pos}
use lib.Dec.{lit≤, lit<}
use lib.Ieee.{Float, nan, inf, fin, binary64, up, down, round, of_int, of_bits, div}
use lib.Ieee.Exact.{HasValue}
use lib.Ieee.Fits.{down_pos}
use lib.Ieee.Back.{round_whole}
use lib.Ieee.Scale.{round_same}
use Rattle.hours.specs.Hours.{hours_of}

-- 3600 as a double: 225 * 2 ^ 4
hour : of_bits binary64 0x40ac_2000_0000_0000 ≡ fin false 225 (pos 4)
unfolding of_bits
hour = refl

cross : (a b s : ℕ) → a * 1 ≡ s * b → a * 1 * 3600 ≡ s * (3600 * b)
cross a b s h = ap (λ (z : ℕ). z * 3600) h ∙ mul_assoc s b 3600 ∙ ap (λ (z : ℕ). s * z) (mul_comm b 3600)

of_value : (x : Float) (s : ℕ) → HasValue x false s 1 → div binary64 x (fin false 225 (pos 4)) ≡ round binary64 false s 3600
unfolding div
of_value nan s h = absurd h
of_value (inf t) s h = absurd h
of_value (fin true m e) s h = absurd (true≢false h.0)
of_value (fin false m e) s h = round_same binary64 false (m * up e * 1) (3600 * down e) s 3600 (mul-pos (lit< tt) (down_pos e)) (lit< tt) (cross (m * up e) (down e) s h.1)

is_round : (s : ℕ) → of_int binary64 (pos s) ≡ round binary64 false s 1
unfolding of_int
is_round s = refl

pub quotient : (s : ℕ) → s < 2 ^ 32 → div binary64 (of_int binary64 (pos s)) (of_bits binary64 0x40ac_2000_0000_0000) ≡ hours_of s
unfolding hours_of
quotient s h =
    ap (λ (y : Float). div binary64 (of_int binary64 (pos s)) y) hour
    ∙ ap (λ (x : Float). div binary64 x (fin false 225 (pos 4))) (is_round s)
    ∙ of_value (round binary64 false s 1) s (round_whole binary64 false s (le_of_lt (lt_of_lt_of_le h (lit≤ tt))))
