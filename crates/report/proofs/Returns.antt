-- What serves the functions' proofs: 0.0 as the hours of no seconds, and a day as a window of ranks.
use Prim.Native.Nat.{ℕ, ◌+◌, ◌-◌, ◌^◌, ◌≤◌, ◌<◌}
use native.Mathlib.Omega.{arith}
use mathlib.Core.Path.{◌≡◌, refl, ap, ◌∙◌}
use lib.IntN.{ℤ}
use lib.Dec.{lt→ltb}
use lib.Ieee.{binary64, of_bits}
use Rattle.std.specs.Prelude.{Ok}
use Rattle.key.specs.Rank.{rank}
use Rattle.key.specs.declared.Bounds.{Bounds}
use Rattle.key.proofs.Laws.{rank_pos}
use Rattle.hours.specs.Hours.{hours_of}
use Rattle.duty.specs.InnerWalk.{u32_limit}
use Rattle.log_day.specs.Days.{bounds, day_of}
use Rattle.log_day.proofs.Spans.{held, short, long, plain}

-- 0.0 is the hours of no seconds
pub no_hours : of_bits binary64 0 ≡ hours_of 0
unfolding of_bits hours_of
no_hours = refl

-- A DAY is a window of 82,800 to 90,000 seconds
pub record Window (s e : ℤ) : Type 0 where
  pub real : rank s < rank e
  pub at_least : 82800 ≤ rank e - rank s
  pub at_most : rank e - rank s ≤ 90000

pub day_window : (z y m d : ℕ) {s e : ℤ} → day_of z y m d ≡ Ok (bounds s e) → Window s e
day_window z y m d {s} {e} q =
    let h = held z y m d q in
    let a : rank s ≡ 2 ^ 63 + h.from = ap rank h.start_is ∙ rank_pos h.from (lt→ltb h.from (2 ^ 63) (omega arith)) in
    let b : rank e ≡ 2 ^ 63 + h.to = ap rank h.end_is ∙ rank_pos h.to (lt→ltb h.to (2 ^ 63) (omega arith)) in
    elim h.length_is [
      | short n c i ↦ record { real = omega (arith, a, b); at_least = omega (arith, a, b); at_most = omega (arith, a, b) }
      | long n c i ↦ record { real = omega (arith, a, b); at_least = omega (arith, a, b); at_most = omega (arith, a, b) }
      | plain n c i ↦ record { real = omega (arith, a, b); at_least = omega (arith, a, b); at_most = omega (arith, a, b) }
    ]

-- so its seconds can be counted
pub countable : (z y m d : ℕ) {x : Bounds} → day_of z y m d ≡ Ok x → (rank x.start < rank x.end) × (rank x.end - rank x.start < u32_limit)
countable z y m d q = let w = day_window z y m d q in (w.real, omega (arith, w.at_most))
