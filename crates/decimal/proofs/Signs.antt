-- The text of a number with a sign, by that sign and how far the number is from 0.
use Prim.Native.Nat.{ℕ, zero, suc, ◌^◌, ◌≤◌, ◌<◌}
use native.Mathlib.Omega.{arith}
use mathlib.Core.Bool.{true, false}
use mathlib.Core.Path.{◌≡◌, sym, ap}
use mathlib.Core.List.{◌∷◌}
use lib.ListN.{length, get_or}
use borrow.Author.Tests.{ltb-true}
use lib.IntN.{ℤ, pos, negsuc, nat_abs}
use lib.Signed.{lt_z}
use mir.Syntax.{w64}
use mir.Val.{SFits}
use Rattle.decimal.specs.Decimal.{longest_number, digit, minus, decimal_text, signed_text}
use Rattle.decimal.proofs.Digits.{length_decimal, only_digits}

pub signed_negative : (z : ℤ) {m : ℕ} → lt_z z (pos 0) ≡ true → m ≡ nat_abs z → signed_text z ≡ minus ∷ decimal_text m
unfolding signed_text
signed_negative (pos n) h e = absurd (let b = ltb-true n 0 h in omega arith)
signed_negative (negsuc n) h e = ap (λ (k : ℕ). minus ∷ decimal_text k) (sym e)

pub signed_natural : (z : ℤ) {m : ℕ} → lt_z z (pos 0) ≡ false → m ≡ nat_abs z → signed_text z ≡ decimal_text m
unfolding signed_text
signed_natural (pos n) h e = ap decimal_text (sym e)
signed_natural (negsuc n) h e = absurd (let o : ◌≡◌ {A = ℕ} 0 1 = cc in omega arith)

-- at most 19 digits
pub length_magnitude : (n : ℕ) → n ≤ 2 ^ 63 → length (decimal_text n) ≤ 19
length_magnitude n h = length_decimal 18 n (omega arith) (omega arith)

pub length_signed : (z : ℤ) → SFits w64 z → length (signed_text z) ≤ longest_number
unfolding signed_text
length_signed (pos n) f = omega (arith, length_magnitude n (omega (arith, f.sfits)))
length_signed (negsuc n) f = omega (arith, length_magnitude (suc n) (omega (arith, f.sfits)))

-- no byte of it is below a minus or above a 9: it holds no space and no line end
pub signed_bytes : (z : ℤ) → SFits w64 z → (i : ℕ) → i < length (signed_text z) → (minus ≤ get_or (signed_text z) i 0) × (get_or (signed_text z) i 0 ≤ digit 9)
unfolding signed_text
signed_bytes (pos n) f i h = let d = only_digits n (omega (arith, f.sfits)) i h in (omega arith, omega arith)
signed_bytes (negsuc n) f zero h = (omega arith, omega arith)
signed_bytes (negsuc n) f (suc i) h = let d = only_digits (suc n) (omega (arith, f.sfits)) i (omega arith) in (omega arith, omega arith)
