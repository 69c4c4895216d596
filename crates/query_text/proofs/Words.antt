-- A bit of two words joined, and of a word turned over.
use Prim.Native.Nat.{ℕ, ◌-◌, ◌^◌, ◌<◌, min, max}
use mathlib.Core.Path.{◌≡◌, refl}
use mathlib.Core.Bool.{◌&&◌, ◌||◌, not}
use native.Mathlib.Omega.{arith}
use native.Mathlib.Decide.{dec_lt}
use lib.Bits.{bit_and, bit_or}
use lib.Dec.{eqb}
use mir.Syntax.{w64}
use Rattle.std.specs.Int.{bit_at}
use Rattle.std.proofs.lemmas.Nat.Bits.{bit_at-lt, bit_at_and, bit_at_or, bit_at_not}
use Rattle.query_text.specs.InnerTable.{is_one}

-- the digits 0 and 1
two : (P : ℕ → Type 0) (u : ℕ) → u < 2 → P 0 → P 1 → P u
two P u h a b = elim (dec_lt 0 u) [ yes p ↦ (let e : u ≡ 1 = omega arith in rw e b) | no p ↦ (let e : u ≡ 0 = omega arith in rw e a) ]

and_digit : (u v : ℕ) → u < 2 → v < 2 → eqb (min u v) 1 ≡ (eqb u 1 && eqb v 1)
and_digit u v h k = two (λ (u : ℕ). eqb (min u v) 1 ≡ (eqb u 1 && eqb v 1)) u h
    (two (λ (v : ℕ). eqb (min 0 v) 1 ≡ (eqb 0 1 && eqb v 1)) v k refl refl)
    (two (λ (v : ℕ). eqb (min 1 v) 1 ≡ (eqb 1 1 && eqb v 1)) v k refl refl)

or_digit : (u v : ℕ) → u < 2 → v < 2 → eqb (max u v) 1 ≡ (eqb u 1 || eqb v 1)
or_digit u v h k = two (λ (u : ℕ). eqb (max u v) 1 ≡ (eqb u 1 || eqb v 1)) u h
    (two (λ (v : ℕ). eqb (max 0 v) 1 ≡ (eqb 0 1 || eqb v 1)) v k refl refl)
    (two (λ (v : ℕ). eqb (max 1 v) 1 ≡ (eqb 1 1 || eqb v 1)) v k refl refl)

not_digit : (u : ℕ) → u < 2 → eqb (1 - u) 1 ≡ not (eqb u 1)
not_digit u h = two (λ (u : ℕ). eqb (1 - u) 1 ≡ not (eqb u 1)) u h refl refl

pub and_is : (x y i : ℕ) → is_one (bit_and x y) i ≡ (is_one x i && is_one y i)
unfolding is_one
and_is x y i = rw (bit_at_and x y i) (and_digit (bit_at x i) (bit_at y i) (bit_at-lt x i) (bit_at-lt y i))

pub or_is : (x y i : ℕ) → is_one (bit_or x y) i ≡ (is_one x i || is_one y i)
unfolding is_one
or_is x y i = rw (bit_at_or x y i) (or_digit (bit_at x i) (bit_at y i) (bit_at-lt x i) (bit_at-lt y i))

pub not_is : (x i : ℕ) → x < 2 ^ 64 → i < 64 → is_one (2 ^ 64 - 1 - x) i ≡ not (is_one x i)
unfolding is_one
not_is x i h k = rw (bit_at_not w64 x i h k) (not_digit (bit_at x i) (bit_at-lt x i))
