-- Numbers at the right of their columns, with what stands behind them; names in their columns.
use Prim.Native.Nat.{ℕ, ◌+◌, ◌-◌, ◌/◌, ◌%◌, ◌^◌, ◌≤◌, ◌<◌}
use native.Mathlib.Omega.{arith}
use mathlib.Core.Path.{◌≡◌, ap, ◌∙◌}
use mathlib.Core.List.{List, [], ◌∷◌, ◌++◌, append_assoc}
use lib.ListN.{length, replicate, length-append}
use lib.IntN.{ℤ}
use mir.Syntax.{w64}
use mir.Val.{SFits, to_z, of_z}
use mir.Facts.{to_z-of_z}
use Rattle.text.specs.Text.{space, Adds, right_of, left_of}
use Rattle.text.proofs.Laws.{length_right, length_left}
use Rattle.decimal.specs.Decimal.{digits_text, decimal_text, signed_text}
use Rattle.decimal.proofs.Digits.{length_u64, length_digits}
use Rattle.decimal.proofs.Signs.{length_signed}
use Rattle.filling.specs.Filling.{AddsWithin}
use Rattle.filling.proofs.Laws.{in_room}
use Rattle.report_text.specs.Times.{pair_text, clock_text, ten_thousandths, hours_text}
use Rattle.report_text.specs.ReportText.{name_column}
use Rattle.report_text.specs.InnerRoom.{name_room}

-- a text behind what stands at the right of w columns
right_append : (w : ℕ) (a b : List ℕ) → right_of w a ++ b ≡ right_of (w + length b) (a ++ b)
unfolding right_of
right_append w a b =
    let n : w - length a ≡ w + length b - length (a ++ b) = omega (arith, length-append a b) in
    append_assoc (replicate (w - length a) space) a b ∙ ap (λ (k : ℕ). replicate k space ++ (a ++ b)) n

-- no columns, or fewer than a text has bytes, are no spaces
pub right_long : (w : ℕ) (t : List ℕ) → w ≤ length t → right_of w t ≡ t
unfolding right_of
right_long w t h = let n : w - length t ≡ 0 = omega arith in rw n

-- NUMBERS take at most 20 bytes, and their columns
pub number_within : {w n : ℕ} {out out₁ : List ℕ} {at r : ℕ} → w ≤ 20 → n < 2 ^ 64 → Adds (right_of w (decimal_text n)) out at out₁ r
    → AddsWithin 20 (right_of w (decimal_text n)) out at out₁ r
number_within {w} {n} h f a = in_room (omega (arith, length_right w (decimal_text n), length_u64 n f)) a

pub key_within : {w : ℕ} {z : ℤ} {out out₁ : List ℕ} {at r : ℕ} → w ≤ 20 → SFits w64 z → Adds (right_of w (signed_text (to_z w64 (of_z w64 z)))) out at out₁ r
    → AddsWithin 20 (right_of w (signed_text z)) out at out₁ r
key_within {w} {z} h f a = in_room (omega (arith, length_right w (signed_text z), length_signed z f)) (rw (to_z-of_z f) at a)

pub digits_within : (k n : ℕ) {out out₁ : List ℕ} {at r : ℕ} → Adds (digits_text k n) out at out₁ r → AddsWithin k (digits_text k n) out at out₁ r
digits_within k n a = in_room (omega (arith, length_digits k n)) a

-- THE CLOCK
pub length_pair : (n : ℕ) → length (pair_text n) ≡ 3
unfolding pair_text
length_pair n = omega (arith, length_digits 2 n)

pub clock_right : (w n : ℕ) → right_of w (decimal_text (n / 3600)) ++ pair_text (n / 60 % 60) ++ pair_text (n % 60) ≡ right_of (w + 6) (clock_text n)
unfolding clock_text
clock_right w n =
    let d = decimal_text (n / 3600) in
    let p = pair_text (n / 60 % 60) in
    let q = pair_text (n % 60) in
    let l : length (p ++ q) ≡ 6 = omega (arith, length-append p q, length_pair (n / 60 % 60), length_pair (n % 60)) in
    append_assoc (right_of w d) p q ∙ right_append w d (p ++ q) ∙ rw (l, append_assoc d p q)

pub clock_long : (n : ℕ) → 6 ≤ length (clock_text n)
unfolding clock_text
clock_long n =
    let d = decimal_text (n / 3600) in
    let p = pair_text (n / 60 % 60) in
    let q = pair_text (n % 60) in
    omega (arith, length-append (d ++ p) q, length-append d p, length_pair (n / 60 % 60), length_pair (n % 60))

-- HOURS
pub hours_right : (n : ℕ) → right_of 2 (decimal_text (n / 3600)) ++ (46 ∷ []) ++ digits_text 4 (ten_thousandths (n % 3600)) ≡ right_of 7 (hours_text n)
unfolding hours_text
hours_right n =
    let d = decimal_text (n / 3600) in
    let t = digits_text 4 (ten_thousandths (n % 3600)) in
    let l : length t ≡ 4 = length_digits 4 (ten_thousandths (n % 3600)) in
    append_assoc (right_of 2 d) (46 ∷ []) t ∙ right_append 2 d (46 ∷ t) ∙ rw l

-- NAMES
pub name_within : (name : List ℕ) {out out₁ : List ℕ} {at r : ℕ} → length name ≤ name_room → Adds (left_of 14 name) out at out₁ r
    → AddsWithin name_room (name_column name) out at out₁ r
unfolding name_column
name_within name h a = in_room (omega (arith, length_left 14 name)) a
