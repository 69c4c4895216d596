-- Rows of a table that say no: their bits are 0.
use Prim.Native.Nat.{ℕ, suc, ◌+◌, ◌-◌, ◌*◌, ◌/◌, ◌%◌, ◌^◌, ◌<◌}
use native.Mathlib.Omega.{arith}
use native.Mathlib.Nat.{mul_assoc, mul-div_cancel, div-add-mod', div-div-eq-div-mul}
use native.Mathlib.Decide.{dec_lt}
use mathlib.Core.Path.{◌≡◌, refl, sym, ap, ◌∙◌}
use mathlib.Core.Bool.{false}
use lib.Bits.{shifted_even}
use lib.Pow.{pow-add, pow_pos}
use borrow.Author.Tests.{lt-ltb, le-ltb}
use Rattle.query_text.specs.declared.truth.Truth.{Truth}
use Rattle.query_text.specs.InnerTable.{is_one, says}
use Rattle.query.specs.InnerWalk.{NoBits, Silent}

-- a number whose lowest n bits are 0
low_bit : (y m b : ℕ) → y % 2 ^ (suc m + b) ≡ 0 → y / 2 ^ b % 2 ≡ 0
low_bit y m b e =
    let q : ℕ = y / 2 ^ (suc m + b) in
    let whole : y ≡ q * 2 ^ (suc m + b) = omega (arith, div-add-mod' y (2 ^ (suc m + b))) in
    let parts : q * 2 ^ (suc m + b) ≡ q * 2 ^ suc m * 2 ^ b = ap (λ (z : ℕ). q * z) (pow-add 2 (suc m) b) ∙ sym (mul_assoc q (2 ^ suc m) (2 ^ b)) in
    let half : y / 2 ^ b ≡ q * 2 ^ suc m = ap (λ (z : ℕ). z / 2 ^ b) (whole ∙ parts) ∙ mul-div_cancel (q * 2 ^ suc m) (pow_pos b) in
    ap (λ (z : ℕ). z % 2) half ∙ shifted_even q m

-- n bits of a word from bit i on
pub no_bit : (x i n : ℕ) → x / 2 ^ i % 2 ^ n ≡ 0 → (b : ℕ) → b < n → is_one x (i + b) ≡ false
unfolding is_one
no_bit x i n e b h =
    let s : suc (n - suc b) + b ≡ n = omega arith in
    let f : x / 2 ^ i % 2 ^ (suc (n - suc b) + b) ≡ 0 = ap (λ (z : ℕ). x / 2 ^ i % 2 ^ z) s ∙ e in
    let g : x / 2 ^ (i + b) ≡ x / 2 ^ i / 2 ^ b = ap (λ (z : ℕ). x / z) (pow-add 2 i b) ∙ sym (div-div-eq-div-mul x (2 ^ i) (2 ^ b)) in
    rw (g, low_bit (x / 2 ^ i) (n - suc b) b f) refl

module _ (t : Truth) (n : ℕ) where
  pub silent_low : n < 5 → NoBits t.low (11 * n) → Silent t n
  unfolding says
  silent_low h c m le = rw (lt-ltb (11 * n + m) 64 (omega arith)) (c m le)

  pub silent_high : 5 < n → NoBits t.high (11 * n - 64) → Silent t n
  unfolding says
  silent_high h c m le =
      let s : 11 * n + m - 64 ≡ 11 * n - 64 + m = omega arith in
      rw (le-ltb (11 * n + m) 64 (omega arith), s) (c m le)

-- class 5: 9 bits of the low word, and 2 of the high one
pub silent_five : (t : Truth) → t.high % 4 ≡ 0 → NoBits t.low 55 → Silent t 5
unfolding says
silent_five t e c m le = elim (dec_lt m 9) [
  | yes q ↦ rw (lt-ltb (55 + m) 64 (omega arith)) (c m le)
  | no q ↦
      let s : 55 + m - 64 ≡ 0 + (m - 9) = omega arith in
      let f : t.high / 2 ^ 0 % 2 ^ 2 ≡ 0 = omega arith in
      rw (le-ltb (55 + m) 64 (omega arith), s) (no_bit t.high 0 2 f (m - 9) (omega arith))
]
