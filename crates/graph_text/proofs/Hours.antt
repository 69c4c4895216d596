-- The hours of a day in their columns.
use Prim.Native.Nat.{ℕ, ◌+◌, ◌-◌, ◌≤◌, ◌<◌}
use native.Mathlib.Omega.{arith}
use mathlib.Core.Path.{◌≡◌}
use mathlib.Core.List.{List}
use lib.ListN.{length, replicate}
use Rattle.text.specs.Text.{space, Adds}
use Rattle.text.proofs.Laws.{length_left, adds_left}
use Rattle.decimal.specs.Decimal.{decimal_text}
use Rattle.decimal.proofs.Digits.{length_decimal}
use Rattle.filling.specs.Filling.{AddsWithin}
use Rattle.filling.proofs.Laws.{in_room}
use Rattle.graph_text.specs.Grid.{clock_hour}
use Rattle.graph_text.specs.GraphText.{hour_column}

-- the clock's hour takes two bytes
pub hour_short : (r : ℕ) → r < 26 → length (decimal_text r) ≤ 2
hour_short r h = length_decimal 1 r (omega arith) (omega arith)

-- and spaces up to the end of its columns
pub hour_spaces : (n h : ℕ) {r at r₁ r₂ : ℕ} {out out₁ out₂ : List ℕ} → r ≡ clock_hour n h → r < 26 → Adds (decimal_text r) out at out₁ r₁
    → Adds (replicate (at + 4 - r₁) space) out₁ r₁ out₂ r₂
    → AddsWithin 4 (hour_column n h) out at out₂ r₂
unfolding hour_column
hour_spaces n h {r} {at} {r₁} e b a s =
    let w : at + 4 - r₁ ≡ 4 - length (decimal_text r) = omega (arith, a.upto) in
    rw e at (in_room {room = 4} (omega (arith, length_left 4 (decimal_text r), hour_short r b)) (adds_left 4 (decimal_text r) w a s))
